-- The statement that a line says, over the numbers of its texts.
use Rattle.std.specs.Prelude.{ℕ, ◌-◌, min, List, [], ◌∷◌, map, Option, Some, None, if◌then◌else◌, codes, bytes_eq}
use Rattle.std.specs.Option.{option_map}
use Rattle.at_value.specs.Widths as widths
use Rattle.at_script.specs.declared.stmt.Stmt.{Stmt}
use Rattle.at_script.specs.declared.stmt.Stmt.TheVariants as statements
use Rattle.at_script.specs.declared.stmt.Target as target
use Rattle.at_script.specs.declared.stmt.Target.TheVariants as targets
use Rattle.at_script.specs.declared.stmt.Operand as operand
use Rattle.at_script.specs.declared.stmt.Operand.TheVariants as operands
use Rattle.at_value.specs.declared.value.Value.TheVariants as values
use Rattle.at_script.specs.Literals.{Written, nothing, integer, quoted, named, static, classm, prop}
use Rattle.at_script.specs.Shapes as shapes
use Rattle.at_script.specs.Shapes.{Said}
use Rattle.at_script.specs.Texts as texts
use Rattle.at_script.specs.Texts.{Texts, Meaning, meaning_of, number_in}

-- The texts are those with the line's own. A class or a function past the last that there may be has the number of the
-- last: the line that declares it is refused, so that no script has it.

abbrev pub class_numbered : ℕ → ℕ
class_numbered number = min number (widths.classes - 1)

abbrev pub func_numbered : ℕ → ℕ
func_numbered number = min number (widths.functions - 1)

abbrev pub class_at : Texts → List ℕ → ℕ
class_at t word = class_numbered (number_in t.classes word)

abbrev pub func_at : Texts → List ℕ → ℕ
func_at t word = func_numbered (number_in t.funcs word)

abbrev pub name_at : Texts → List ℕ → ℕ
name_at t word = number_in t.names word

abbrev pub variable_at : Texts → List ℕ → ℕ
variable_at t word = number_in t.vars word

-- a class without bases has the lone base `object`
abbrev pub or_object : List ℕ → List ℕ
or_object [] = 0 ∷ []
or_object (base ∷ bases) = base ∷ bases

abbrev pub named_by : Texts → List ℕ → Meaning → operand.Operand
named_by t word (texts.function number) = operands.Value (values.Func (func_numbered number))
named_by t word (texts.class number) = operands.Value (values.Class (class_numbered number))
named_by t word texts.variable = operands.Var (variable_at t word)

-- the value of a name: what the running function was given, or a function, a class or a variable
abbrev pub named_at : Texts → List ℕ → operand.Operand
named_at t word =
    if bytes_eq word (codes "self")
    then operands.SelfArg
    else if bytes_eq word (codes "arg")
    then operands.Arg
    else if bytes_eq word (codes "other")
    then operands.Other
    else if bytes_eq word (codes "it") then operands.It else named_by t word (meaning_of t word)

abbrev pub targeted_by : Texts → List ℕ → Meaning → target.Target
targeted_by t word (texts.function number) = targets.Var (variable_at t word)
targeted_by t word (texts.class number) = targets.Class (class_numbered number)
targeted_by t word texts.variable = targets.Var (variable_at t word)

-- what a statement works on, by its name
abbrev pub target_at : Texts → List ℕ → target.Target
target_at t word =
    if bytes_eq word (codes "self")
    then targets.SelfArg
    else if bytes_eq word (codes "arg")
    then targets.Arg
    else if bytes_eq word (codes "other")
    then targets.Other
    else if bytes_eq word (codes "it") then targets.It else targeted_by t word (meaning_of t word)

abbrev pub operand_at : Texts → Written → operand.Operand
operand_at t nothing = operands.Value values.Nothing
operand_at t (integer z) = operands.Value (values.Int z)
operand_at t (quoted s) = operands.Value (values.Text (name_at t s))
operand_at t (named w) = named_at t w
operand_at t (static f) = operands.Value (values.Static (func_at t f))
operand_at t (classm f) = operands.Value (values.ClassM (func_at t f))
operand_at t (prop reader writer deleter) =
    operands.Value (values.Prop (record { get = option_map (func_at t) reader; set = option_map (func_at t) writer; del = option_map (func_at t) deleter }))

-- The statement of a line; the lines that begin or end a block say none.
abbrev pub statement_of : Texts → Said → Option Stmt
statement_of t (shapes.budget z) = None
statement_of t (shapes.func f) = None
statement_of t shapes.main = None
statement_of t shapes.thread = None
statement_of t shapes.finally = None
statement_of t shapes.end = None
statement_of t (shapes.class c above) = Some (statements.Class (class_at t c) (or_object (map (class_at t) above)))
statement_of t (shapes.bases c above) = Some (statements.Bases (class_at t c) (map (class_at t) above))
statement_of t (shapes.put c x v) = Some (statements.Put (class_at t c) (name_at t x) (operand_at t v))
statement_of t (shapes.cut c x) = Some (statements.Cut (class_at t c) (name_at t x))
statement_of t (shapes.new a c v) = Some (statements.New (variable_at t a) (class_at t c) (option_map (operand_at t) v))
statement_of t (shapes.set r x v) = Some (statements.Set (target_at t r) (name_at t x) (operand_at t v))
statement_of t (shapes.del r x) = Some (statements.Del (target_at t r) (name_at t x))
statement_of t (shapes.get r x) = Some (statements.Get (target_at t r) (name_at t x))
statement_of t (shapes.turn r c) = Some (statements.Turn (target_at t r) (class_at t c))
statement_of t (shapes.share r q) = Some (statements.Share (target_at t r) (target_at t q))
statement_of t (shapes.super_read c r x) = Some (statements.Super (class_at t c) (target_at t r) (name_at t x))
statement_of t (shapes.special r x) = Some (statements.Special (target_at t r) (name_at t x))
statement_of t (shapes.classof r) = Some (statements.ClassOf (target_at t r))
statement_of t (shapes.mro c) = Some (statements.Mro (class_at t c))
statement_of t (shapes.call r x v) = Some (statements.Call (target_at t r) (name_at t x) (option_map (operand_at t) v))
statement_of t (shapes.super_call c r x v) =
    Some (statements.CallSuper (class_at t c) (target_at t r) (name_at t x) (option_map (operand_at t) v))
statement_of t (shapes.bind a v) = Some (statements.Let (variable_at t a) (operand_at t v))
statement_of t (shapes.result v) = Some (statements.Return (operand_at t v))
statement_of t (shapes.begin r q) = Some (statements.Begin (target_at t r) (option_map (target_at t) q))
statement_of t shapes.finish = Some statements.Finish
statement_of t shapes.checkpoint = Some statements.Checkpoint
