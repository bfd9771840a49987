use Rattle.std.proofs.Common.{sym}
use Rattle.at_script.specs.Reading.{texts_in}
use Rattle.at_script.proofs.tables.Tables.declare_line.Goals as goal

pub returns-then-declares_nothing : goal.returns-then-declares_nothing
returns-then-declares_nothing c = sym (c.declares_nothing.ensures c.if-declares_nothing.true (texts_in c.args.self.now))
