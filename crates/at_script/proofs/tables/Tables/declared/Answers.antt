use Rattle.std.proofs.Common.{◌∙◌}
use Rattle.at_script.specs.Lines.{lines_of}
use Rattle.at_script.specs.Reading.{texts_in}
use Rattle.at_script.proofs.Declared.{declared_from_object}
use Rattle.at_script.proofs.tables.Tables.declared.Goals as goal

pub returns : goal.returns
returns c =
    c.in_ok-declare_lines.ensures
    ∙ declared_from_object (lines_of c.args.text.now) (texts_in c.in_ok-tables.tables) (texts_in c.declare_class.new.self) c.in_ok-tables.ensures c.in_ok-declare_class.ensures
