use Rattle.at_script.proofs.LineLemmas.{place_is}
use Rattle.at_script.proofs.lines.place_of.Goals as goal

pub returns : goal.returns
returns c = place_is c.args.byte c.args.bytes.now c.memchr.result c.memchr.ensures
