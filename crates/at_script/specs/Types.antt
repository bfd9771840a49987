-- The types of statements and of what stands in them, under one module.
use Rattle.at_script.specs.declared.stmt.Stmt as stmt
use Rattle.at_script.specs.declared.stmt.Operand as operand
use Rattle.at_script.specs.declared.stmt.Target as target

abbrev pub Stmt : Type 0
Stmt = stmt.Stmt

abbrev pub Operand : Type 0
Operand = operand.Operand

abbrev pub Target : Type 0
Target = target.Target
