use Rattle.std.proofs.Common.{sym}
use Rattle.std.proofs.lemmas.Fmt.{decimal_digit}
use Rattle.at_text.proofs.Printing.{prints_same}
use Rattle.at_text.proofs.pen.Pen.number.Goals as goal

pub returns-then-number-lt10 : goal.returns-then-number-lt10
returns-then-number-lt10 g c = prints_same (sym (decimal_digit c.args.number c.if-number-lt10.true)) c.write_byte.ensures
