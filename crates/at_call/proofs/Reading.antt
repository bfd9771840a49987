-- An operation that is no write is answered at the place that was loaded last.
use Rattle.std.proofs.Common.{◌≡◌, ℕ, true, false, List, [], ◌∷◌, ◌++◌, length, Some, refl, sym, ap, ◌∙◌, subst, append_assoc}
use mathlib.Core.List.{IsPrefix}
use Rattle.at_value.specs.declared.operation.Op as op
use Rattle.at_value.specs.declared.reply.Answer.{Answer}
use Rattle.at_value.specs.declared.reply.Path as path
use Rattle.at_value.specs.declared.reply.Path.TheVariants as paths
use Rattle.at_model.specs.History.{replay}
use Rattle.at_model.specs.Step.{is_done}
use Rattle.at_model.specs.World.{World}
use Rattle.at_event.specs.Calls.{IsRead}
use Rattle.at_view.specs.declared.mark.Mark.{Mark}
use Rattle.at_view.specs.declared.mark.StepKind.TheVariants as kinds
use Rattle.at_view.specs.declared.view.View.{View}
use Rattle.at_view.specs.Words.{place}
use Rattle.at_core.specs.declared.lock.Lock as lock
use Rattle.at_core.specs.declared.lock.Lock.TheVariants as locks
use Rattle.at_core.specs.declared.world.Pass.{Pass}
use Rattle.at_core.specs.Backed.{Goes, StandsAt}
use Rattle.at_core.specs.Locks.{holds, AreKept, IsUnchanged}
use Rattle.at_core.specs.Opened.{opening_of}
use Rattle.at_core.specs.Passes.{view}
use Rattle.at_core.specs.PlacePlays.{Saw}
use Rattle.at_core.specs.PlaceSteps.{place_loaded}
use Rattle.at_core.specs.Steps.{mark}
use Rattle.at_core.specs.Writes.{IsSameAt}
use Rattle.at_core.proofs.HeldStays.{held_operations_stay}
use Rattle.at_core.proofs.Prefixes.{prefix_trans}
use Rattle.at_call.specs.Done.{IsAnswered, IsReadNow}
use Rattle.at_call.specs.UnderWay.{IsUnderWay, IsUnwritten}
use Rattle.at_call.proofs.Growing.{read_call}
use Rattle.at_call.proofs.Marks.{has_last, has_more}

-- what a lock protects is the same at two points up to which it has kept it
pub unchanged_between : (l : lock.Lock) (u v w : World) → IsUnchanged l u v → IsUnchanged l u w → IsUnchanged l v w
unchanged_between locks.Types u v w a b = (b.0 ∙ sym a.0, b.1 ∙ sym a.1)
unchanged_between (locks.Row o) u v w a b = (b.0 ∙ sym a.0, b.1 ∙ sym a.1)

-- so where the pass has seen the first and finds the second
pub unchanged_seen : (v : View) (at : List op.Op) (l : lock.Lock) → AreKept (opening_of v.who.limits) v → Saw (opening_of v.who.limits) v at → holds l v ≡ true
    → IsUnchanged l (replay (opening_of v.who.limits) v.history.seen) (replay (opening_of v.who.limits) at)
unchanged_seen v at l kept saw has = unchanged_between l _ _ _ (kept l has).unchanged (saw.kept l has).unchanged

-- the operation is no write there either, and has the same reply
read_later : (v : View) (at : List op.Op) (operation : op.Op) (reply : _) → holds locks.Types v ≡ true → AreKept (opening_of v.who.limits) v → Saw (opening_of v.who.limits) v at → IsReadNow operation reply v
    → IsRead operation reply (replay (opening_of v.who.limits) at)
read_later v at operation reply types kept saw r =
    let w = replay (opening_of v.who.limits) v.history.seen in
    let now = replay (opening_of v.who.limits) at in
    let same : IsSameAt w now operation = held_operations_stay w now operation (record {
      types = unchanged_seen v at locks.Types kept saw types;
      rows = λ o in_it. unchanged_seen v at (locks.Row o) kept saw (r.rows o in_it);
      reads = λ o in_it. unchanged_seen v at (locks.Row o) kept saw (r.reads o in_it);
    }) in
    record { replied = r.read.replied ∙ sym same.reply; no_write = same.write ∙ r.read.no_write }

pub answered_read : (ls : List lock.Lock) (p q r : Pass) (operation : op.Op) (answer : Answer) (at : List op.Op) → IsUnderWay ls p q → IsUnwritten p q
    → holds locks.Types (view q) ≡ true → AreKept (opening_of (view q).who.limits) (view q) → IsReadNow operation answer.reply (view q)
    → view r ≡ place_loaded (view q) at → Saw (opening_of (view q).who.limits) (view q) at → length at ≡ answer.place.0 → answer.path ≡ paths.Locked → IsAnswered operation p r answer
answered_read ls p q r operation answer at u own types kept read after saw long locked =
    let v = view p in
    let m : Mark = mark kinds.PlaceLoad place (Some (length at)) (Some (length at)) in
    let marks = u.from.marks ++ m ∷ [] in
    let seen : (view r).history.seen ≡ at = ap (λ x. x.history.seen) after in
    let read_then = read_later (view q) at operation answer.reply types kept saw read in
    let undone : is_done answer.reply ≡ false = ap is_done read_then.replied ∙ read_then.no_write in
    record {
      call = read_call (opening_of v.who.limits) v.history (view r).history operation answer
          (ap (λ x. x.history.birth) after ∙ u.from.birth)
          (subst (IsPrefix v.history.seen) (sym seen) (prefix_trans v.history.seen (view q).history.seen at u.from.later saw.later))
          (ap (λ x. x.history.own) after ∙ own)
          (ap length seen ∙ long)
          (subst (λ (h : List op.Op). IsRead operation answer.reply (replay (opening_of v.who.limits) h)) (sym seen) read_then);
      locked = locked;
      marks = marks;
      trace = ap (λ x. x.trace) after ∙ (ap (λ t. t ++ m ∷ []) u.from.trace ∙ append_assoc v.trace u.from.marks (m ∷ []));
      backs = (
        subst (λ b. StandsAt b answer.place.0 marks) (sym undone) (has_last u.from.marks m (record { is = refl; at = refl; finds = ap (λ (n : ℕ). Some n) long })),
        subst (λ (way : path.Path). Goes way operation marks) (sym locked) (has_more u.from.marks (m ∷ []) u.took),
      );
    }
