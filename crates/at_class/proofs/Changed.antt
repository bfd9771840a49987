-- Writes of classes that were tried on the types in hand, after the place was loaded.
use Rattle.std.proofs.Common.{◌≡◌, ℕ, ◌≤◌, Bool, true, false, List, [], ◌∷◌, ◌++◌, length, Some, refl, sym, ap, ◌∙◌, subst, arith, append_assoc}
use Rattle.std.specs.Prelude.{IsTrue, Contains}
use Rattle.std.proofs.lemmas.List.{take_all}
use mathlib.Core.List.{IsPrefix}
use Rattle.at_value.specs.declared.operation.Op as op
use Rattle.at_value.specs.declared.reply.Reply as reply
use Rattle.at_model.proofs.OrderLaws.{no_base}
use Rattle.at_model.specs.History.{replay}
use Rattle.at_model.specs.Step.{is_done, is_write, step}
use Rattle.at_model.specs.World.{World}
use Rattle.at_types.specs.Types.{is_class_write, IsReplyTo, IsStepped, TypesState}
use Rattle.at_line.specs.Legal.{world_at}
use Rattle.at_view.specs.declared.mark.StepKind.TheVariants as kinds
use Rattle.at_view.specs.Words as words
use Rattle.at_core.specs.declared.lock.Lock as lock
use Rattle.at_core.specs.declared.world.Pass.{Pass}
use Rattle.at_core.specs.Opened.{opening_of}
use Rattle.at_core.specs.Passes.{view}
use Rattle.at_core.specs.PlaceSteps.{place_loaded}
use Rattle.at_core.specs.Steps.{mark}
use Rattle.at_core.proofs.Prefixes.{prefix_length, prefix_trans}
use Rattle.at_call.specs.Done.{IsReadNow, LeavesUnwritten}
use Rattle.at_call.specs.UnderWay.{HasInHand, IsFrom, IsUnderWay, seen_world}
use Rattle.at_call.proofs.From.{step_more}
use Rattle.at_call.proofs.Growing.{world_more}
use Rattle.at_call.proofs.Marks.{has_last}
use Rattle.at_class.specs.Changes.{IsFull, LoadedPlace}
use Rattle.at_class.proofs.Classes.{no_rows, same_types}

-- one that is refused leaves the types, done to them or not
pub kept_types : (r : Pass) (operation : op.Op) (before after : TypesState) (reply : reply.Reply) (full : Bool) → HasInHand r before → (full ≡ true → after ≡ before)
    → (full ≡ false → IsStepped operation before after reply) → is_done reply ≡ false → after ≡ before
kept_types r operation before after reply true hand left stepped refused = left refl
kept_types r operation before after reply false hand left stepped refused = same_types (seen_world r) operation before after reply hand.now.stands (stepped refl) refused

pub refused_now : (r : Pass) (operation : op.Op) (before : TypesState) (reply : reply.Reply) → IsTrue (is_class_write operation) → HasInHand r before → IsReplyTo operation before reply → is_done reply ≡ false
    → IsReadNow operation reply (view r)
refused_now r operation before reply class hand replies refused =
    let w = seen_world r in
    let none = no_rows w operation class in
    let replied : reply ≡ (step w operation).reply = replies w hand.now.stands in
    record {
      read = record { replied = replied; no_write = sym (ap is_done replied) ∙ refused };
      rows = λ o in_it. absurd (no_base o (subst (λ (xs : List ℕ). Contains xs o) none.rows in_it));
      reads = λ o in_it. absurd (no_base o (subst (λ (xs : List ℕ). Contains xs o) none.reads in_it));
    }

-- the place was loaded
pub loaded_place : (ls : List lock.Lock) (p q r : Pass) (at : List op.Op) (place : ℕ) → IsUnderWay ls p q → view r ≡ place_loaded (view q) at → length at ≡ place → LoadedPlace place p r
loaded_place ls p q r at place u after long =
    let m = mark kinds.PlaceLoad words.place (Some (length at)) (Some (length at)) in (
      u.from.marks ++ m ∷ [],
      ap (λ v. v.trace) after ∙ (ap (λ t. t ++ m ∷ []) u.from.trace ∙ append_assoc (view p).trace u.from.marks (m ∷ [])),
      has_last u.from.marks m (record { is = refl; at = refl; finds = ap (λ (n : ℕ). Some n) long }),
    )

-- a write for which there is no place
pub is_full : (p q r s : Pass) (at : List op.Op) (operation : op.Op) (before : TypesState) (reply : reply.Reply) (place : ℕ) → IsFrom p q → IsPrefix (view q).history.seen at → view r ≡ place_loaded (view q) at → length at ≡ place
    → LoadedPlace place p r → IsFrom r s → LeavesUnwritten p s → (view p).who.limits.place_max ≤ place → HasInHand r before → IsReplyTo operation before reply → is_done reply ≡ true → IsFull operation p s place
is_full p q r s at operation before reply place from later after long loaded more leaves past hand replies done =
    let seen : (view r).history.seen ≡ at = ap (λ v. v.history.seen) after in
    let grown = subst (λ (h : List op.Op). IsPrefix h (view s).history.seen) seen more.later in
    let first = prefix_length (view p).history.seen at (prefix_trans (view p).history.seen (view q).history.seen at from.later later) in
    let last = prefix_length at (view s).history.seen grown in
    let world : world_at (opening_of (view p).who.limits) (view s).history.seen place ≡ seen_world r =
    world_more (opening_of (view p).who.limits) at (view s).history.seen place grown (omega (arith, long))
    ∙ (ap (replay (opening_of (view p).who.limits)) (take_all place at (omega (arith, long))) ∙ ap (replay (opening_of (view p).who.limits)) (sym seen)) in
    record {
      leaves = leaves;
      loaded = step_more p r s loaded more;
      past = past;
      late = omega (arith, long, first);
      seen = omega (arith, long, last);
      write = ap (λ (w : World). is_write w operation) world ∙ (sym (ap is_done (replies (seen_world r) hand.now.stands)) ∙ done);
    }
