-- Operations on classes, in worlds with the same classes and as many objects.
use Rattle.std.proofs.Common.{◌≡◌, ◌∙◌, ap, sym, refl, subst, ℕ, suc, ◌==◌, ◌&&◌, cond, not, length, List, [], ◌∷◌, Option, Some, None, Bool, true, false, is_some, is_none}
use Rattle.at_value.specs.Numbers.{object}
use Rattle.at_value.specs.declared.value.Value as value
use Rattle.at_value.specs.declared.operation.Op as op
use Rattle.at_value.specs.declared.operation.Op.TheVariants as ops
use Rattle.at_value.specs.declared.reply.Reply as reply
use Rattle.at_value.specs.declared.reply.Reply.TheVariants as replies
use Rattle.at_model.specs.declared.rows.ClassRow.{ClassRow}
use Rattle.at_model.specs.World.{World, order_in}
use Rattle.at_model.specs.Attributes.{Outcome, unchanged}
use Rattle.at_model.specs.Step as steps
use Rattle.at_types.specs.ClassSteps.{world_of, class_step, reply_to, classes_after, IsClassStep}
use Rattle.at_types.specs.Types.{TypesState, StandsFor, IsReplyTo, IsStepped}

-- what is true of either outcome of a test
pub by_test : (P : Outcome → Type 0) (b : Bool) (x y : Outcome) → P x → P y → P (cond b x y)
by_test P true x y one other = one
by_test P false x y one other = other

-- an outcome that leaves the world, unless the reply is `Done`
abbrev LeavesUnlessDone : World → Outcome → Type 0
LeavesUnlessDone w outcome = (outcome.reply ≡ replies.Done → ⊥) → outcome.world ≡ w

pub put_leaves : (w : World) (c n : ℕ) (v : value.Value) → LeavesUnlessDone w (steps.step w (ops.TypeSet c n v))
put_leaves w c n v =
    let P = LeavesUnlessDone w in
    by_test P (not (steps.are_objects w (steps.objects_in (ops.TypeSet c n v)))) _ _ (λ _. refl)
    (by_test P (not (steps.are_made w (steps.classes_in (ops.TypeSet c n v)))) _ _ (λ _. refl)
    (by_test P (c == object) _ _ (λ _. refl) (λ other. absurd (other refl))))

-- a refused `put` steps to the same state
pub put_refused : (t : TypesState) (c n : ℕ) (v : value.Value) (r : reply.Reply) → ((w : World) → StandsFor t w → r ≡ (steps.step w (ops.TypeSet c n v)).reply)
    → (r ≡ replies.Done → ⊥) → IsStepped (ops.TypeSet c n v) t t r
put_refused t c n v r replied other = record {
  replies = replied;
  stands = λ w stands. subst (StandsFor t) (sym (put_leaves w c n v (λ done. other (replied w stands ∙ done)))) stands;
  rest = refl;
}

-- Worlds with the same classes

-- the outcomes have the same reply and the same classes, and the first leaves the objects
record Agrees (w : World) (o p : Outcome) : Type 0 where
  replies : o.reply ≡ p.reply
  classes : o.world.classes ≡ p.world.classes
  objects : o.world.objects ≡ w.objects

agrees_test : (w : World) (b : Bool) (x y x' y' : Outcome) → Agrees w x x' → Agrees w y y' → Agrees w (cond b x y) (cond b x' y')
agrees_test w true x y x' y' one other = one
agrees_test w false x y x' y' one other = other

agrees_refusal : (w : World) (r : reply.Reply) → Agrees w (unchanged w r) (unchanged (world_of w.classes) r)
agrees_refusal w r = record { replies = refl; classes = refl; objects = refl }

first_unordered-same : (v w : World) → v.classes ≡ w.classes → (k : ℕ) (rows : List (Option ClassRow)) → steps.first_unordered_from v k rows ≡ steps.first_unordered_from w k rows
first_unordered-same v w same k [] = refl
first_unordered-same v w same k (row ∷ rows) =
    ap (λ classes. cond (is_some row && is_none (order_in classes k)) (Some k) (steps.first_unordered_from v (suc k) rows)) same
    ∙ ap (λ r. cond (is_some row && is_none (order_in w.classes k)) (Some k) r) (first_unordered-same v w same (suc k) rows)

agrees_unless : (w v v' : World) (r : Option ℕ) → v.classes ≡ v'.classes → v.objects ≡ w.objects
    → Agrees w (steps.unless_unordered w v r) (steps.unless_unordered (world_of w.classes) v' r)
agrees_unless w v v' None same objects = record { replies = refl; classes = same; objects = objects }
agrees_unless w v v' (Some k) same objects = agrees_refusal w (replies.NoOrder k)

-- a change of the classes that is made where each class has an order after it
agrees_ordered : (w v v' : World) → v.classes ≡ v'.classes → v.objects ≡ w.objects → Agrees w (steps.if_ordered w v) (steps.if_ordered (world_of w.classes) v')
agrees_ordered w v v' same objects =
    let first : steps.first_unordered v' ≡ steps.first_unordered v =
    sym (first_unordered-same v v' same 0 v.classes ∙ ap (steps.first_unordered_from v' 0) same) in
    subst (λ r. Agrees w (steps.if_ordered w v) (steps.unless_unordered (world_of w.classes) v' r)) (sym first) (agrees_unless w v v' (steps.first_unordered v) same objects)

new_class-agrees : (w : World) (c : ℕ) (bases : List ℕ) → Agrees w (steps.step w (ops.NewClass c bases)) (class_step w.classes (ops.NewClass c bases))
new_class-agrees w c bases =
    agrees_test w (not (steps.are_made w bases)) _ _ _ _ (agrees_refusal w replies.NoClass)
    (agrees_test w (steps.is_made w c) _ _ _ _ (agrees_refusal w replies.NameTaken)
    (agrees_test w (steps.is_empty bases) _ _ _ _ (agrees_refusal w replies.EmptyBases)
    (agrees_test w (steps.has_repeat bases) _ _ _ _ (agrees_refusal w replies.Duplicate)
    (agrees_ordered w (steps.with_class w c bases) (steps.with_class (world_of w.classes) c bases) refl refl))))

set_bases-agrees : (w : World) (c : ℕ) (bases : List ℕ) → Agrees w (steps.step w (ops.SetBases c bases)) (class_step w.classes (ops.SetBases c bases))
set_bases-agrees w c bases =
    agrees_test w (not (steps.are_made w (c ∷ bases))) _ _ _ _ (agrees_refusal w replies.NoClass)
    (agrees_test w (c == object) _ _ _ _ (agrees_refusal w replies.Immutable)
    (agrees_test w (steps.is_empty bases) _ _ _ _ (agrees_refusal w replies.EmptyBases)
    (agrees_test w (steps.has_repeat bases) _ _ _ _ (agrees_refusal w replies.Duplicate)
    (agrees_test w (steps.is_cycle w c bases) _ _ _ _ (agrees_refusal w replies.Cycle)
    (agrees_ordered w (steps.with_bases w c bases) (steps.with_bases (world_of w.classes) c bases) refl refl)))))

-- A step of the classes alone is one in each world that they stand for.

stepped : (operation : op.Op) → ((w : World) → Agrees w (steps.step w operation) (class_step w.classes operation)) → (t : TypesState) (now : List (Option ClassRow)) (r : reply.Reply)
    → IsClassStep operation t.classes now r → IsStepped operation t (record t { classes = now }) r
stepped operation agrees t now r is = record {
  replies = λ w stands. is.0 ∙ ap (λ classes. reply_to classes operation) stands.classes ∙ sym (agrees w).replies;
  stands = λ w stands. record {
    classes = is.1 ∙ ap (λ classes. classes_after classes operation) stands.classes ∙ sym (agrees w).classes;
    objects = stands.objects ∙ ap length (sym (agrees w).objects);
  };
  rest = refl;
}

pub stepped-new_class : (c : ℕ) (bases : List ℕ) (t : TypesState) (now : List (Option ClassRow)) (r : reply.Reply)
    → IsClassStep (ops.NewClass c bases) t.classes now r → IsStepped (ops.NewClass c bases) t (record t { classes = now }) r
stepped-new_class c bases = stepped (ops.NewClass c bases) (λ w. new_class-agrees w c bases)

pub stepped-set_bases : (c : ℕ) (bases : List ℕ) (t : TypesState) (now : List (Option ClassRow)) (r : reply.Reply)
    → IsClassStep (ops.SetBases c bases) t.classes now r → IsStepped (ops.SetBases c bases) t (record t { classes = now }) r
stepped-set_bases c bases = stepped (ops.SetBases c bases) (λ w. set_bases-agrees w c bases)

-- what a plan replies is the reply in each world that the classes stand for
pub replied-new_class : (c : ℕ) (bases : List ℕ) (t : TypesState) (r : reply.Reply) → r ≡ reply_to t.classes (ops.NewClass c bases) → IsReplyTo (ops.NewClass c bases) t r
replied-new_class c bases t r is w stands =
    is ∙ ap (λ classes. reply_to classes (ops.NewClass c bases)) stands.classes ∙ sym (new_class-agrees w c bases).replies

pub replied-set_bases : (c : ℕ) (bases : List ℕ) (t : TypesState) (r : reply.Reply) → r ≡ reply_to t.classes (ops.SetBases c bases) → IsReplyTo (ops.SetBases c bases) t r
replied-set_bases c bases t r is w stands =
    is ∙ ap (λ classes. reply_to classes (ops.SetBases c bases)) stands.classes ∙ sym (set_bases-agrees w c bases).replies
