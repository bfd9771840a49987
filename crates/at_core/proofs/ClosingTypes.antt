-- The ends of classes and of objects, listed one by one.
use Rattle.std.proofs.Common.{Box, Global, ℕ, zero, suc, ◌≡◌, ◌<◌, ◌+◌, false, List, [], ◌∷◌, ◌++◌, length, map, take, drop, slice_get, Some, None, ap, sym, subst, ◌∙◌, refl, arith}
use Rattle.std.proofs.lemmas.List.{take_more, map-append}
use Rattle.std.proofs.lemmas.Option.{get_or_from_slice_get}
use Rattle.at_value.specs.declared.limits.Limits.{Limits}
use Rattle.at_model.specs.declared.last.ClassEnd.{ClassEnd}
use Rattle.at_model.specs.declared.last.ObjEnd.{ObjEnd}
use Rattle.at_model.specs.declared.rows.Object.{Object}
use Rattle.at_model.specs.Final.{class_ends, object_end}
use Rattle.at_model.specs.History.{replay}
use Rattle.at_model.specs.World as model
use Rattle.at_model.specs.World.{opening}
use Rattle.at_model.proofs.WorldSteps.{replay-formed}
use Rattle.at_model.proofs.Worlds.{opening_is_formed}
use Rattle.at_types.specs.declared.types.Types as types
use Rattle.at_types.specs.Types.{TypesState, StandsFor}
use Rattle.at_view.specs.declared.view.Who.{Who}
use Rattle.at_view.specs.declared.view.TypesView.{TypesView}
use Rattle.at_view.specs.declared.view.View.{View}
use Rattle.at_core.specs.declared.world.Pass.{Pass}
use Rattle.at_core.specs.declared.world.World as world
use Rattle.at_core.specs.Closing.{now_of, HasRead, HasTypes, IsBack, IsEndOf, IsStill}
use Rattle.at_core.specs.declared.lock.Lock as lock
use Rattle.at_core.specs.declared.lock.Lock.TheVariants as locks
use Rattle.at_core.specs.declared.stored.Stored.{Stored}
use Rattle.at_core.specs.declared.stored.Stored.TheVariants as stored
use Rattle.at_core.specs.Locks.{holds, HoldsNone}
use Rattle.at_core.specs.Opened.{opening_of}
use Rattle.at_core.specs.Passes.{view, slot_at, IsOf, IsSame}
use Rattle.at_core.specs.Plays.{Took}
use Rattle.at_core.specs.Rule.{TypesAgree}
use Rattle.at_core.specs.Steps.{Moment, taken, given, HoldsTypesAlone}
use Rattle.at_core.proofs.ClosingRows.{still_alone}
use Rattle.at_core.proofs.HandOf.{empty_hand}

-- the ends so far, and those of the classes that are left, in each world that the types stand for
abbrev pub AreEnds : TypesState → ℕ → List ClassEnd → Type 0
AreEnds t i ends = (w : model.World) → StandsFor t w → ends ++ class_ends w i (drop i w.classes) ≡ class_ends w 0 w.classes

-- Objects

-- the pass has read so many objects
pub record HasReadSome (world : world.World) (p q : Pass) (i : ℕ) (ends : List ObjEnd) : Type 0 where
  pub of : IsOf q world
  pub read : HasRead p q
  pub ends_are : ends ≡ map (object_end (now_of world.limits (view p))) (take i (now_of world.limits (view p)).objects)

pub now_same : (limits : Limits) (v w : View) → IsStill v w → now_of limits w ≡ now_of limits v
now_same limits v w still = ap (λ y. replay opening y.seen) still.history

found_at : {A : Type 0} (xs : List A) (i : ℕ) → i < length xs → (x : A) × (slice_get xs i ≡ Some x)
found_at [] i lt = absurd (omega arith)
found_at (x ∷ xs) zero lt = (x, refl)
found_at (x ∷ xs) (suc i) lt = found_at xs i (omega arith)

pub object_more : (limits : Limits) (v w : View) (i next : ℕ) (ends more : List ObjEnd) (end : ObjEnd) → next ≡ i + 1 → IsStill v w → i < length (now_of limits v).objects
    → ends ≡ map (object_end (now_of limits v)) (take i (now_of limits v).objects) → IsEndOf (now_of limits w) i end → more ≡ ends ++ end ∷ []
    → more ≡ map (object_end (now_of limits v)) (take next (now_of limits v).objects)
object_more limits v w i next ends more end is still lt h ended more_is =
    let now = now_of limits v in
    let objects = now.objects in
    let at = found_at objects i lt in
    let found : Object = at.0 in
    let here : slice_get objects i ≡ Some found = at.1 in
    let end_is : end ≡ object_end now found = subst (λ (u : model.World). IsEndOf u i end) (now_same limits v w still) ended found here in
    let listed : take (i + 1) objects ≡ take i objects ++ found ∷ [] = take_more objects i found lt ∙ ap (λ x. take i objects ++ x ∷ []) (get_or_from_slice_get objects i found found here) in
    more_is ∙ (ap (λ xs. xs ++ end ∷ []) h ∙ (ap (λ x. map (object_end now) (take i objects) ++ x ∷ []) end_is
    ∙ (sym (map-append (object_end now) (take i objects) (found ∷ [])) ∙ ap (map (object_end now)) (sym listed ∙ ap (λ k. take k objects) (sym is)))))

pub now_formed : (limits : Limits) (v : View) → model.IsWellFormed (now_of limits v)
now_formed limits v = replay-formed opening v.history.seen opening_is_formed

-- The lock of the types, with the types out of their slot

types_agree : (limits : Limits) (v : View) (at : Moment) (x : Stored) (box : Box types.Types Global) → Took (opening_of limits) locks.Types v at x → x ≡ stored.Types box
    → TypesAgree v.who.limits.tags (replay opening at.history) at.lists box.value
types_agree limits v at x box took is =
    let value = took.value in
    let same : box ≡ value.0 = (let a = value.1 in cc) in
    subst (λ (b : Box types.Types Global). TypesAgree v.who.limits.tags (replay opening at.history) at.lists b.value) (sym same) value.2

pub has_types : (limits : Limits) (q : Pass) (v : View) (at : Moment) (x : Stored) (box : Box types.Types Global) → HoldsNone v → view q ≡ taken locks.Types v at → slot_at q locks.Types ≡ Some None
    → Took (opening_of limits) locks.Types v at x → x ≡ stored.Types box → HasTypes (now_of limits (view q)) q box.value
has_types limits q v at x box none after out took is = record {
  only = subst HoldsTypesAlone (sym after) (record { types = refl; rows = λ o. none (locks.Row o) });
  since = subst (λ (w : View). w.types.hold.since ≡ w.history.seen) (sym after) refl;
  out = out;
  agrees = subst (λ (w : View). TypesAgree w.who.limits.tags (now_of limits w) w.types.lists box.value) (sym after) (types_agree limits v at x box took is);
}

pub types_stay : (limits : Limits) (p q : Pass) (t : TypesState) → HasRead p q → HasTypes (now_of limits (view p)) p t → HasTypes (now_of limits (view q)) q t
types_stay limits p q t a h =
    let seen : (view q).history.seen ≡ (view p).history.seen = ap (λ y. y.seen) a.still.history in
    let Q : Who × model.World × TypesView → Type 0 = λ k. TypesAgree k.0.limits.tags k.1 k.2.lists t in
    record {
      only = still_alone p q a h.only;
      since = ap (λ y. y.hold.since) a.types ∙ (h.since ∙ sym seen);
      out = a.slot ∙ h.out;
      agrees = subst Q (λ i. (sym a.still.who i, sym (now_same limits (view p) (view q) a.still) i, sym a.types i)) h.agrees;
    }

-- once the lock is given back, the pass is as it was
pub types_back : (p q : Pass) → IsSame p q → HoldsTypesAlone (view p) → view q ≡ given locks.Types (view p) → IsBack p q
types_back p q same only after =
    let still : IsStill (view p) (given locks.Types (view p)) =
    record { who = refl; history = refl; joined = refl; intent = refl; tags = refl; read = refl; write = refl; kept = refl } in
    let lockless : HoldsNone (view q) = subst HoldsNone (sym after) (λ l. free l) in
    record { same = same; still = subst (IsStill (view p)) (sym after) still; lockless = lockless; empty = empty_hand q lockless }
  where
    free : (l : lock.Lock) → holds l (given locks.Types (view p)) ≡ false
    free locks.Types = refl
    free (locks.Row o) = only.rows o
