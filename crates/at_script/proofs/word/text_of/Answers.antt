use Rattle.at_script.proofs.Ascii.{IsUtf8-from_identifier}
use Rattle.at_script.proofs.word.text_of.Goals as goal

pub from_utf8_unchecked-requires : goal.from_utf8_unchecked-requires
from_utf8_unchecked-requires c = IsUtf8-from_identifier c.args.word.now c.requires
