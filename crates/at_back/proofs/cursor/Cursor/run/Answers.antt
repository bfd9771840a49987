use Rattle.std.proofs.Common.{sym, subst}
use Rattle.std.specs.Str.{IsUtf8}
use Rattle.at_back.proofs.Runs.{run_utf8}
use Rattle.at_back.proofs.cursor.Cursor.run.Goals as goal

pub from_utf8_unchecked-requires : goal.from_utf8_unchecked-requires
from_utf8_unchecked-requires c = subst IsUtf8 (sym c.split_run.ensures.word) (run_utf8 c.self.inside.rest.now)
