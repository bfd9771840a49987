-- The types of lines and of what stands in them, under one module.
use Rattle.at_line.specs.declared.line.Line as line
use Rattle.at_line.specs.declared.line.LineOp as line_op
use Rattle.at_line.specs.declared.line.LineReply as line_reply
use Rattle.at_line.specs.declared.line.Local as local
use Rattle.at_line.specs.declared.line.What as what

abbrev pub Line : Type 0
Line = line.Line

abbrev pub LineOp : Type 0
LineOp = line_op.LineOp

abbrev pub LineReply : Type 0
LineReply = line_reply.LineReply

abbrev pub Local : Type 0
Local = local.Local

abbrev pub What : Type 0
What = what.What
