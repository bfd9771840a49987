-- A target is an operand too.
use Rattle.at_value.specs.declared.value.Value.TheVariants as values
use Rattle.at_script.specs.declared.stmt.Operand as operand
use Rattle.at_script.specs.declared.stmt.Operand.TheVariants as operands
use Rattle.at_script.specs.declared.stmt.Target as target
use Rattle.at_script.specs.declared.stmt.Target.TheVariants as targets

-- the operand with the value of a target: a class is a value that is written out
abbrev pub operand_of : target.Target → operand.Operand
operand_of (targets.Class c) = operands.Value (values.Class c)
operand_of (targets.Var a) = operands.Var a
operand_of targets.SelfArg = operands.SelfArg
operand_of targets.Arg = operands.Arg
operand_of targets.Other = operands.Other
operand_of targets.It = operands.It
