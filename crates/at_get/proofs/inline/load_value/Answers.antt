use Rattle.std.proofs.Common.{refl}
use Rattle.at_core.specs.Passes.{view}
use Rattle.at_get.proofs.Reading.{found_key, no_key}
use Rattle.at_get.proofs.inline.load_value.Goals as goal

pub load_inline-requires-clause-index : goal.load_inline-requires-clause-index
load_inline-requires-clause-index c = (c.in-At.ensures.at c.in-At.i refl).0

pub returns-in-At-clause-yields : goal.returns-in-At-clause-yields
returns-in-At-clause-yields c =
    let t = c.load_inline.ensures.loaded in
    found_key c.args.o c.args.c c.args.n (view c.args.pass.now) (view c.scan.new.pass) c.in-At.i c.in-At.ensures.scanned (view c.load_inline.new.pass) t.0 c.load_inline.result c.from_word.result t.1 t.2 c.from_word.ensures.same

pub returns-in-NotThere-clause-yields : goal.returns-in-NotThere-clause-yields
returns-in-NotThere-clause-yields c = no_key c.args.o c.args.c c.args.n (view c.args.pass.now) (view c.scan.new.pass) c.in-NotThere.ensures.scanned
