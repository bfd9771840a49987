-- private: about the reader's own types; no public clause cites it. What the reader takes an operand for, in the texts so
-- far, of which `earlier` variables are of earlier lines: its value, or what is first wrong with it.
use Rattle.std.specs.Prelude.{ℕ, ℤ, nat_le, nat_lt, not, ◌&&◌, ◌||◌, List, [], ◌∷◌, ◌++◌, length, Option, Some, None, is_some, Result, Ok, Err, if◌then◌else◌, unwrap_or}
use Rattle.at_value.specs.declared.value.Value as value
use Rattle.at_value.specs.declared.value.Value.TheVariants as values
use Rattle.at_value.specs.Widths as widths
use Rattle.at_script.specs.declared.fault.Cause as cause
use Rattle.at_script.specs.declared.fault.Cause.TheVariants as causes
use Rattle.at_script.specs.declared.fault.LineFault.{LineFault}
use Rattle.at_script.specs.declared.fault.LineFault.TheVariants.{Wrong}
use Rattle.at_script.specs.declared.stmt.Operand as operand
use Rattle.at_script.specs.declared.stmt.Operand.TheVariants as operands
use Rattle.at_script.specs.declared.stmt.Target as target
use Rattle.at_script.specs.declared.stmt.Target.TheVariants as targets
use Rattle.at_script.specs.declared.word.Register as register
use Rattle.at_script.specs.declared.word.Register.TheVariants as registers
use Rattle.at_script.specs.Limits as limits
use Rattle.at_script.specs.Words.{is_free, is_short, is_object, is_attribute_name, is_in_range}
use Rattle.at_script.specs.Literals.{Written, nothing, integer, quoted, named, static, classm, prop}
use Rattle.at_script.specs.Texts.{Texts}
use Rattle.at_script.specs.Statements.{class_numbered, func_numbered}
use Rattle.at_script.specs.Meanings.{class_number, func_number}
use Rattle.at_script.specs.Views.{register_in}
use Rattle.at_script.specs.Reading.{meaning_in, numbered_in, is_below, both_of}

abbrev pub wrong : {A : Type 0} → cause.Cause → Result A LineFault
wrong c = Err (Wrong c)

-- what an operand is taken for, and the texts with its own
abbrev pub Taken : Type 0 → Type 0
Taken A = Result A LineFault × Texts

-- a value that is found, made of another
abbrev pub mapped : {A B : Type 0} → (A → B) → Result A LineFault → Result B LineFault
mapped f (Ok x) = Ok (f x)
mapped f (Err fault) = Err fault

abbrev pub made_of : {A B : Type 0} → (A → B) → Taken A → Taken B
made_of f found = (mapped f found.0, found.1)

-- one operand and then another
abbrev pub both_taken : {A B : Type 0} → Taken A → (Texts → Taken B) → Taken (A × B)
both_taken first second = (both_of first.0 (second first.1).0, (second first.1).1)

-- Classes and functions

-- the cause for an identifier that no line declares so
abbrev pub undeclared : ℕ → Texts → List ℕ → cause.Cause → LineFault
undeclared earlier t w c = if is_below earlier (meaning_in t w).var then Wrong causes.Name else Wrong c

abbrev pub class_found : ℕ → Texts → List ℕ → Option ℕ → Result ℕ LineFault
class_found earlier t w (Some number) = Ok (class_numbered number)
class_found earlier t w None = Err (undeclared earlier t w causes.Class)

abbrev pub class_taken : ℕ → Texts → List ℕ → Result ℕ LineFault
class_taken earlier t w =
    if not (is_free w) && not (is_object w)
    then wrong causes.Name
    else if is_some (meaning_in t w).func then wrong causes.Name else class_found earlier t w (meaning_in t w).class

abbrev pub subject_numbered : ℕ → Result ℕ LineFault
subject_numbered number = if nat_le widths.classes number then wrong causes.Limit else Ok (class_numbered number)

abbrev pub subject_taken : Texts → List ℕ → Result ℕ LineFault
subject_taken t w =
    if not (is_free w)
    then wrong causes.Name
    else if is_some (meaning_in t w).func
    then wrong causes.Name
    else subject_numbered (unwrap_or (meaning_in t w).class (class_number (length t.classes)))

-- the bases, in order
abbrev pub with_base : ℕ → Texts → Result (List ℕ) LineFault → List ℕ → Result (List ℕ) LineFault
with_base earlier t bases w = mapped (λ p. p.0 ++ p.1 ∷ []) (both_of bases (class_taken earlier t w))

abbrev pub bases_taken : ℕ → Texts → Result (List ℕ) LineFault → List (List ℕ) → Result (List ℕ) LineFault
bases_taken earlier t bases [] = bases
bases_taken earlier t bases (w ∷ ws) = bases_taken earlier t (with_base earlier t bases w) ws

abbrev pub function_found : ℕ → Texts → List ℕ → Option ℕ → Result ℕ LineFault
function_found earlier t w (Some number) = Ok (func_numbered number)
function_found earlier t w None =
    if is_some (meaning_in t w).class then wrong causes.Name else Err (undeclared earlier t w causes.Func)

abbrev pub function_taken : ℕ → Texts → List ℕ → Result ℕ LineFault
function_taken earlier t w =
    if not (is_free w) then wrong causes.Name else function_found earlier t w (meaning_in t w).func

abbrev pub part_taken : ℕ → Texts → Option (List ℕ) → Result (Option ℕ) LineFault
part_taken earlier t None = Ok None
part_taken earlier t (Some w) = mapped Some (function_taken earlier t w)

abbrev pub property_taken : ℕ → Texts → Option (List ℕ) → Option (List ℕ) → Option (List ℕ) → Result value.Value LineFault
property_taken earlier t reader writer deleter =
    mapped (λ p. values.Prop (record { get = p.0.0; set = p.0.1; del = p.1 }))
    (both_of (both_of (part_taken earlier t reader) (part_taken earlier t writer)) (part_taken earlier t deleter))

-- that a function begins, where so many were begun
abbrev pub begun_at : ℕ → ℕ → Result (Unit {0}) LineFault
begun_at begun number =
    if nat_lt number begun then wrong causes.Name else if nat_le widths.functions number then wrong causes.Limit else Ok tt

abbrev pub function_begun : ℕ → Texts → List ℕ → Result (Unit {0}) LineFault
function_begun begun t w =
    if not (is_free w) then wrong causes.Name else begun_at begun (unwrap_or (meaning_in t w).func (func_number (length t.funcs)))

-- Variables and names

abbrev pub variable_numbered : Texts → List ℕ → Taken ℕ
variable_numbered t w =
    let found = numbered_in limits.most_variables t.vars w in
    (found.0, record t { vars = found.1 })

abbrev pub name_numbered : Texts → List ℕ → Taken ℕ
name_numbered t w =
    let found = numbered_in widths.names t.names w in
    (found.0, record t { names = found.1 })

abbrev pub bound_taken : Texts → List ℕ → Taken ℕ
bound_taken t w =
    if not (is_free w) || is_some (meaning_in t w).func || is_some (meaning_in t w).class
    then (wrong causes.Name, t)
    else variable_numbered t w

abbrev pub attribute_name_taken : Texts → List ℕ → Taken ℕ
attribute_name_taken t w = if is_attribute_name w then name_numbered t w else (wrong causes.Name, t)

abbrev pub text_taken : Texts → List ℕ → Taken operand.Operand
text_taken t w =
    if is_free w then made_of (λ n. operands.Value (values.Text n)) (name_numbered t w) else (wrong causes.Name, t)

-- Owners

abbrev pub class_owner : Texts → List ℕ → Option ℕ → Taken target.Target
class_owner t w (Some number) = (Ok (targets.Class (class_numbered number)), t)
class_owner t w None = made_of targets.Var (variable_numbered t w)

abbrev pub named_owner : Texts → List ℕ → Taken target.Target
named_owner t w =
    if not (is_free w) && not (is_object w)
    then (wrong causes.Name, t)
    else if is_some (meaning_in t w).func then (wrong causes.Name, t) else class_owner t w (meaning_in t w).class

abbrev pub register_owner : Texts → List ℕ → Option register.Register → Taken target.Target
register_owner t w (Some registers.SelfArg) = (Ok targets.SelfArg, t)
register_owner t w (Some registers.Arg) = (Ok targets.Arg, t)
register_owner t w (Some registers.Other) = (Ok targets.Other, t)
register_owner t w (Some registers.It) = (Ok targets.It, t)
register_owner t w None = named_owner t w

abbrev pub owner_taken : Texts → List ℕ → Taken target.Target
owner_taken t w = register_owner t w (register_in w)

abbrev pub second_owner_taken : Texts → Option (List ℕ) → Taken (Option target.Target)
second_owner_taken t None = (Ok None, t)
second_owner_taken t (Some w) = made_of Some (owner_taken t w)

abbrev pub attribute_taken : Texts → List ℕ × List ℕ → Taken (target.Target × ℕ)
attribute_taken t place = both_taken (owner_taken t place.0) (λ u. attribute_name_taken u place.1)

abbrev pub class_attribute_taken : ℕ → Texts → List ℕ × List ℕ → Taken (ℕ × ℕ)
class_attribute_taken earlier t place = both_taken (class_taken earlier t place.0, t) (λ u. attribute_name_taken u place.1)

-- Values

abbrev pub class_value : Texts → List ℕ → Option ℕ → Taken operand.Operand
class_value t w (Some number) = (Ok (operands.Value (values.Class (class_numbered number))), t)
class_value t w None = made_of operands.Var (variable_numbered t w)

abbrev pub numbered_value : Texts → List ℕ → Option ℕ → Taken operand.Operand
numbered_value t w (Some number) = (Ok (operands.Value (values.Func (func_numbered number))), t)
numbered_value t w None = class_value t w (meaning_in t w).class

abbrev pub named_value : Texts → List ℕ → Taken operand.Operand
named_value t w = if is_short w then numbered_value t w (meaning_in t w).func else (wrong causes.Name, t)

abbrev pub register_value : Texts → List ℕ → Option register.Register → Taken operand.Operand
register_value t w (Some registers.SelfArg) = (Ok operands.SelfArg, t)
register_value t w (Some registers.Arg) = (Ok operands.Arg, t)
register_value t w (Some registers.Other) = (Ok operands.Other, t)
register_value t w (Some registers.It) = (Ok operands.It, t)
register_value t w None = named_value t w

abbrev pub integer_taken : ℤ → Result operand.Operand LineFault
integer_taken z = if is_in_range z then Ok (operands.Value (values.Int z)) else wrong causes.Number

abbrev pub value_taken : ℕ → Texts → Written → Taken operand.Operand
value_taken earlier t nothing = (Ok (operands.Value values.Nothing), t)
value_taken earlier t (integer z) = (integer_taken z, t)
value_taken earlier t (quoted s) = text_taken t s
value_taken earlier t (named w) = register_value t w (register_in w)
value_taken earlier t (static f) = (mapped (λ n. operands.Value (values.Static n)) (function_taken earlier t f), t)
value_taken earlier t (classm f) = (mapped (λ n. operands.Value (values.ClassM n)) (function_taken earlier t f), t)
value_taken earlier t (prop reader writer deleter) = (mapped operands.Value (property_taken earlier t reader writer deleter), t)

abbrev pub given_taken : ℕ → Texts → Option Written → Taken (Option operand.Operand)
given_taken earlier t None = (Ok None, t)
given_taken earlier t (Some v) = made_of Some (value_taken earlier t v)
