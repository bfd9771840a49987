-- private: about the reader's own types; no public clause cites it. What the reader takes a line for, by its keyword and
-- the words after it: its statement, or what is first wrong with it.
use Rattle.std.specs.Prelude.{ℕ, List, [], ◌∷◌, Option, Some, None, Result, Ok}
use Rattle.at_script.specs.declared.fault.Cause.TheVariants as causes
use Rattle.at_script.specs.declared.fault.LineFault.{LineFault}
use Rattle.at_script.specs.declared.keyword.Keyword as keyword
use Rattle.at_script.specs.declared.keyword.Keyword.TheVariants as keywords
use Rattle.at_script.specs.declared.stmt.Stmt.{Stmt}
use Rattle.at_script.specs.declared.stmt.Stmt.TheVariants as statements
use Rattle.at_script.specs.Literals.{Written}
use Rattle.at_script.specs.Shapes as shapes
use Rattle.at_script.specs.Texts.{Texts}
use Rattle.at_script.specs.Statements.{or_object}
use Rattle.at_script.specs.Taking.{Taken, wrong, mapped, made_of, both_taken, class_taken, subject_taken, bases_taken, bound_taken, owner_taken, second_owner_taken, attribute_taken, class_attribute_taken, value_taken, given_taken}

-- words of a form, or the fault that they aren't
abbrev pub formed : {A B : Type 0} → Texts → (A → Taken B) → Option A → Taken B
formed t take (Some parts) = take parts
formed t take None = (wrong causes.Form, t)

-- a class and its bases, and a statement of them
abbrev pub class_says : ℕ → Texts → List ℕ × List (List ℕ) → Taken Stmt
class_says earlier t p =
    made_of (λ q. statements.Class q.0 (or_object q.1)) (both_taken (subject_taken t p.0, t) (λ u. (bases_taken earlier u (Ok []) p.1, u)))

abbrev pub bases_say : ℕ → Texts → List ℕ × List (List ℕ) → Taken Stmt
bases_say earlier t p =
    made_of (λ q. statements.Bases q.0 q.1) (both_taken (class_taken earlier t p.0, t) (λ u. (bases_taken earlier u (Ok []) p.1, u)))

abbrev pub put_says : ℕ → Texts → (List ℕ × List ℕ) × Written → Taken Stmt
put_says earlier t p =
    made_of (λ q. statements.Put q.0.0 q.0.1 q.1) (both_taken (class_attribute_taken earlier t p.0) (λ u. value_taken earlier u p.1))

abbrev pub cut_says : ℕ → Texts → List ℕ × List ℕ → Taken Stmt
cut_says earlier t p = made_of (λ q. statements.Cut q.0 q.1) (class_attribute_taken earlier t p)

abbrev pub new_says : ℕ → Texts → (List ℕ × List ℕ) × Option Written → Taken Stmt
new_says earlier t p =
    made_of (λ q. statements.New q.0.0 q.0.1 q.1)
    (both_taken (both_taken (bound_taken t p.0.0) (λ u. (class_taken earlier u p.0.1, u))) (λ u. given_taken earlier u p.1))

abbrev pub set_says : ℕ → Texts → (List ℕ × List ℕ) × Written → Taken Stmt
set_says earlier t p = made_of (λ q. statements.Set q.0.0 q.0.1 q.1) (both_taken (attribute_taken t p.0) (λ u. value_taken earlier u p.1))

abbrev pub turn_says : ℕ → Texts → List ℕ × List ℕ → Taken Stmt
turn_says earlier t p = made_of (λ q. statements.Turn q.0 q.1) (both_taken (owner_taken t p.0) (λ u. (class_taken earlier u p.1, u)))

abbrev pub share_says : Texts → List ℕ × List ℕ → Taken Stmt
share_says t p = made_of (λ q. statements.Share q.0 q.1) (both_taken (owner_taken t p.0) (λ u. owner_taken u p.1))

abbrev pub super_says : ℕ → Texts → List ℕ × (List ℕ × List ℕ) → Taken Stmt
super_says earlier t p =
    made_of (λ q. statements.Super q.0 q.1.0 q.1.1) (both_taken (class_taken earlier t p.0, t) (λ u. attribute_taken u p.1))

abbrev pub call_says : ℕ → Texts → (List ℕ × List ℕ) × Option Written → Taken Stmt
call_says earlier t p = made_of (λ q. statements.Call q.0.0 q.0.1 q.1) (both_taken (attribute_taken t p.0) (λ u. given_taken earlier u p.1))

abbrev pub call_super_says : ℕ → Texts → List ℕ × (List ℕ × List ℕ) × Option Written → Taken Stmt
call_super_says earlier t p =
    made_of (λ q. statements.CallSuper q.0.0 q.0.1.0 q.0.1.1 q.1)
    (both_taken (both_taken (class_taken earlier t p.0, t) (λ u. attribute_taken u p.1)) (λ u. given_taken earlier u p.2))

abbrev pub let_says : ℕ → Texts → List ℕ × Written → Taken Stmt
let_says earlier t p = made_of (λ q. statements.Let q.0 q.1) (both_taken (bound_taken t p.0) (λ u. value_taken earlier u p.1))

abbrev pub begin_says : Texts → List ℕ × Option (List ℕ) → Taken Stmt
begin_says t p = made_of (λ q. statements.Begin q.0 q.1) (both_taken (owner_taken t p.0) (λ u. second_owner_taken u p.1))

abbrev pub alone_says : Stmt → List (List ℕ) → Result Stmt LineFault
alone_says statement [] = Ok statement
alone_says statement (word ∷ words) = wrong causes.Form

-- what a line is taken for
abbrev pub statement_taken : ℕ → Texts → keyword.Keyword → List (List ℕ) → Taken Stmt
statement_taken earlier t keywords.Attrs words = (wrong causes.Form, t)
statement_taken earlier t keywords.Budget words = (wrong causes.Form, t)
statement_taken earlier t keywords.Func words = (wrong causes.Form, t)
statement_taken earlier t keywords.Main words = (wrong causes.Form, t)
statement_taken earlier t keywords.Thread words = (wrong causes.Form, t)
statement_taken earlier t keywords.Finally words = (wrong causes.Form, t)
statement_taken earlier t keywords.End words = (wrong causes.Form, t)
statement_taken earlier t keywords.Class words = formed t (class_says earlier t) (shapes.class_and_bases words)
statement_taken earlier t keywords.Bases words = formed t (bases_say earlier t) (shapes.class_and_bases words)
statement_taken earlier t keywords.Put words = formed t (put_says earlier t) (shapes.attribute_and_value words)
statement_taken earlier t keywords.Cut words = formed t (cut_says earlier t) (shapes.attribute words)
statement_taken earlier t keywords.New words = formed t (new_says earlier t) (shapes.identifiers_and_given words)
statement_taken earlier t keywords.Set words = formed t (set_says earlier t) (shapes.attribute_and_value words)
statement_taken earlier t keywords.Del words = formed t (λ p. made_of (λ q. statements.Del q.0 q.1) (attribute_taken t p)) (shapes.attribute words)
statement_taken earlier t keywords.Get words = formed t (λ p. made_of (λ q. statements.Get q.0 q.1) (attribute_taken t p)) (shapes.attribute words)
statement_taken earlier t keywords.Turn words = formed t (turn_says earlier t) (shapes.identifiers words)
statement_taken earlier t keywords.Share words = formed t (share_says t) (shapes.identifiers words)
statement_taken earlier t keywords.Super words = formed t (super_says earlier t) (shapes.identifier_and_attribute words)
statement_taken earlier t keywords.Special words =
    formed t (λ p. made_of (λ q. statements.Special q.0 q.1) (attribute_taken t p)) (shapes.attribute words)
statement_taken earlier t keywords.ClassOf words = formed t (λ w. made_of statements.ClassOf (owner_taken t w)) (shapes.identifier words)
statement_taken earlier t keywords.Mro words = formed t (λ w. (mapped statements.Mro (class_taken earlier t w), t)) (shapes.identifier words)
statement_taken earlier t keywords.Call words = formed t (call_says earlier t) (shapes.attribute_and_given words)
statement_taken earlier t keywords.CallSuper words = formed t (call_super_says earlier t) (shapes.identifier_attribute_and_given words)
statement_taken earlier t keywords.Let words = formed t (let_says earlier t) (shapes.identifier_and_value words)
statement_taken earlier t keywords.Return words = formed t (λ v. made_of statements.Return (value_taken earlier t v)) (shapes.value words)
statement_taken earlier t keywords.Begin words = formed t (begin_says t) (shapes.identifier_or_two words)
statement_taken earlier t keywords.Finish words = (alone_says statements.Finish words, t)
statement_taken earlier t keywords.Checkpoint words = (alone_says statements.Checkpoint words, t)
