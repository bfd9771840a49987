use Rattle.std.proofs.Common.{◌≡◌, ◌<◌, ℕ, true, List, [], ◌∷◌, ◌++◌, length, map, IsTrue, refl, sym, ap, ◌∙◌, subst, arith}
use Rattle.std.specs.Prelude.{◌||◌, Option, Some, None, IfSome, nat_lt}
use Rattle.std.proofs.lemmas.Bool.Decides.{nat_tests}
use Rattle.at_value.specs.declared.limits.Limits.{Limits}
use Rattle.at_value.specs.declared.operation.Op as op
use Rattle.at_value.specs.declared.operation.Op.TheVariants as ops
use Rattle.at_value.specs.declared.reply.Reply as reply
use Rattle.at_value.specs.Packing.{HasWords}
use Rattle.at_value.specs.Widths.{classes}
use Rattle.at_model.specs.History.{replay}
use Rattle.at_model.specs.Step.{is_write}
use Rattle.at_model.specs.World.{World, opening}
use Rattle.at_types.specs.Types.{TypesState, StandsFor, IsStepped}
use Rattle.at_view.specs.declared.view.IntentView.{IntentView}
use Rattle.at_view.specs.declared.view.View.{View}
use Rattle.at_view.specs.declared.view.Who.{Who}
use Rattle.at_view.specs.declared.mark.StepKind.TheVariants as kinds
use Rattle.at_view.specs.Views.{first_view}
use Rattle.at_core.specs.declared.lock.Lock.TheVariants as locks
use Rattle.at_core.specs.declared.world.Pass.{Pass}
use Rattle.at_core.specs.Closing.{now_of, HasTypes, IsStill}
use Rattle.at_core.specs.Locks.{holds}
use Rattle.at_core.specs.Passes.{view, slot_at}
use Rattle.at_core.specs.PlaceSteps.{MayCommit, place_loaded, with_word, intent_stored, written}
use Rattle.at_core.specs.PlacePlays.{Saw}
use Rattle.at_core.specs.Plays.{IsAlone}
use Rattle.at_core.specs.SomeRun.{new_class}
use Rattle.at_core.specs.Rule.{TypesAgree, limbo_tag}
use Rattle.at_core.specs.Steps.{HoldsTypesAlone}
use Rattle.at_core.proofs.Committing.{held_stamped}
use Rattle.at_core.proofs.SomeRunWrites.{one_base, covers_none}
use Rattle.at_core.proofs.tests.closing.make_class.Goals as goal

-- a pass that is as the first one was, with the place loaded and the class intended
abbrev intending : View → List op.Op → View
intending v at = intent_stored (place_loaded v at) 0 16777473

may_commit : (limits : Limits) (v : View) (at : List op.Op) → IsStill (first_view limits) v → at ≡ [] → holds locks.Types v ≡ true → 0 < limits.place_max → MayCommit opening (intending v at) new_class
may_commit limits v at still none held room =
    let words : HasWords new_class (with_word (first_view limits).intent.words 0 16777473) = ((omega arith, (omega arith, one_base)), refl) in
    let yes : nat_lt 0 limits.place_max ≡ true = grind (arith, nat_tests, room) in
    let Q : IntentView × Who × List op.Op → Type 0 = λ k. (k.0.fresh || nat_lt (length k.2) k.1.limits.place_max) ≡ true in
    record {
      write = record {
        intends = subst (λ (i : IntentView). HasWords new_class (with_word i.words 0 16777473)) (sym still.intent) words;
        fresh = subst Q (λ j. (sym still.intent j, sym still.who j, sym none j)) yes;
        write = subst (λ (h : List op.Op). IsTrue (is_write (replay opening h) new_class)) (sym none) refl;
        covers = covers_none _ _ _ refl refl;
      };
      types = held;
    }

-- types that were stepped with the class agree with the world that has it
stepped : (tags : ℕ) (w : World) (v : View) (t t' : TypesState) (r : reply.Reply) → w ≡ opening → TypesAgree tags w v.types.lists t → IsStepped new_class t t' r
    → TypesAgree tags (replay opening (new_class ∷ [])) v.types.lists t'
stepped tags w v t t' r is agrees steps = record {
  stands = steps.stands opening (subst (StandsFor t) is agrees.stands);
  size = ap (λ s. s.tags.size) steps.rest ∙ agrees.size;
  numbers = ap (λ s. s.numbers) steps.rest ∙ agrees.numbers;
  pool = ap (λ s. s.tags.free) steps.rest ∙ agrees.pool;
  limbo = ap (λ s. map limbo_tag s.tags.limbo) steps.rest ∙ agrees.limbo;
}

made_types : (limits : Limits) (p q : Pass) (at then : List op.Op) (t t' : TypesState) (r : reply.Reply) → IsStill (first_view limits) (view p) → then ≡ []
    → view q ≡ written kinds.Commit (intending (view p) at) then new_class → slot_at q locks.Types ≡ Some None → HasTypes (now_of limits (view p)) p t → IsStepped new_class t t' r
    → HasTypes (now_of limits (view q)) q t'
made_types limits p q at then t t' r still none after out h steps =
    let v = view p in
    let now : now_of limits v ≡ opening = ap (λ y. replay opening y.seen) still.history in
    let agrees = stepped v.who.limits.tags (now_of limits v) v t t' r now h.agrees steps in
    record {
      only = subst HoldsTypesAlone (sym after) (record { types = h.only.types; rows = λ o. held_stamped (then ++ new_class ∷ []) o v.holds ∙ h.only.rows o });
      since = subst (λ (w : View). w.types.hold.since ≡ w.history.seen) (sym after) refl;
      out = out;
      agrees = subst (λ (w : View). TypesAgree w.who.limits.tags (now_of limits w) w.types.lists t') (sym after)
          (subst (λ (h : List op.Op). TypesAgree v.who.limits.tags (replay opening (h ++ new_class ∷ [])) v.types.lists t') (sym none) agrees);
    }

still_from : (limits : Limits) (v w : View) → v ≡ first_view limits → IsStill v w → IsStill (first_view limits) w
still_from limits v w first still = subst (λ (u : View). IsStill u w) first still

-- a pass that is still as the first one is alone, and has seen nothing
first_alone : (limits : Limits) (v : View) → IsStill (first_view limits) v → IsAlone v
first_alone limits v still = record { first = ap (λ y. y.birth) still.history; childless = ap (λ y. y.children) still.who }

-- the class is the first write
made_is : (limits : Limits) (v w x : View) (at then : List op.Op) → IsStill (first_view limits) v → at ≡ [] → w ≡ intending v at → Saw opening w then → x ≡ written kinds.Commit w then new_class
    → (then ≡ []) × (x ≡ written kinds.Commit (intending v at) then new_class)
made_is limits v w x at then still none after saw is =
    let alone : IsAlone (intending v at) = (let a = first_alone limits v still in record { first = a.first; childless = a.childless }) in (
      saw.alone (subst IsAlone (sym after) alone) ∙ (ap (λ (u : View). u.history.seen) after ∙ none),
      is ∙ ap (λ (u : View). written kinds.Commit u then new_class) after,
    )

-- what a pass is after that: alone, with one write
after_made : (limits : Limits) (v x y : View) (at then : List op.Op) → IsStill (first_view limits) v → then ≡ [] → x ≡ written kinds.Commit (intending v at) then new_class → IsStill x y
    → IsAlone y × (y.history.seen ≡ new_class ∷ [])
after_made limits v x y at then still none is last =
    let a = first_alone limits v still in (
      record {
        first = ap (λ h. h.birth) last.history ∙ (ap (λ (u : View). u.history.birth) is ∙ a.first);
        childless = ap (λ h. h.children) last.who ∙ (ap (λ (u : View). u.who.children) is ∙ a.childless);
      },
      ap (λ h. h.seen) last.history ∙ (ap (λ (u : View). u.history.seen) is ∙ ap (λ (h : List op.Op). h ++ new_class ∷ []) none),
    )

-- the reply and the class are those of the operation that was intended
as_intended : (t t' : TypesState) (o : Option ℕ) (c : ℕ) (bases : List ℕ) (r : reply.Reply) → o ≡ Some c → IfSome o (λ n. (n ≡ 1) × (1 < classes)) → bases ≡ 0 ∷ []
    → IsStepped (ops.NewClass c bases) t t' r → IsStepped new_class t t' r
as_intended t t' o c bases r is named list steps =
    let one = subst (λ (p : Option ℕ). IfSome p (λ n. (n ≡ 1) × (1 < classes))) is named in
    subst (λ (k : ℕ × List ℕ). IsStepped (ops.NewClass k.0 k.1) t t' r) (λ i. (one.0 i, list i)) steps

pub commit-requires-clause-may : goal.commit-requires-clause-may
commit-requires-clause-may c =
    let limits = c.args.world.now.limits in
    let v = view c.take_types-types.new.pass in
    let still = still_from limits (view c.args.pass.now) v c.requires.first c.take_types-types.ensures.same.1 in
    let loaded = c.load_place.ensures.loaded in
    let none : loaded.0 ≡ [] = loaded.3.alone (first_alone limits v still) ∙ ap (λ y. y.seen) still.history in
    let after = c.store_intent.ensures.stored ∙ ap (λ (w : View). intent_stored w 0 16777473) loaded.2 in
    (new_class, subst (λ (w : View). MayCommit opening w new_class) (sym after) (may_commit limits v loaded.0 still none c.take_types-types.ensures.types.only.types c.requires.room))

pub give_types-requires-clause-types : goal.give_types-requires-clause-types
give_types-requires-clause-types c =
    let limits = c.args.world.now.limits in
    let p = c.take_types-types.new.pass in
    let still = still_from limits (view c.args.pass.now) (view p) c.requires.first c.take_types-types.ensures.same.1 in
    let loaded = c.load_place.ensures.loaded in
    let none : loaded.0 ≡ [] = loaded.3.alone (first_alone limits (view p) still) ∙ ap (λ y. y.seen) still.history in
    let after = c.store_intent.ensures.stored ∙ ap (λ (w : View). intent_stored w 0 16777473) loaded.2 in
    let may = subst (λ (w : View). MayCommit opening w new_class) (sym after) (may_commit limits (view p) loaded.0 still none c.take_types-types.ensures.types.only.types c.requires.room) in
    let told = c.commit.ensures.written new_class may.write.intends in
    let made = made_is limits (view p) (view c.store_intent.new.pass) (view c.commit.new.pass) loaded.0 told.0 still none after told.3 told.2 in
    let out = c.commit.ensures.same.2 locks.Types ∙ (c.store_intent.ensures.same.2 locks.Types ∙ (c.load_place.ensures.same.2 locks.Types ∙ c.take_types-types.ensures.types.out)) in
    let steps = as_intended c.deref_mut.result.now c.define.new.self c.new.result c.unwrap.result c.only.result c.in_ok-define.field-0 c.unwrap.ensures c.new.ensures.some
    (c.only.ensures ∙ ap (λ n. n ∷ []) c.object.ensures) c.in_ok-define.ensures.ok in
    let types : HasTypes (now_of limits (view p)) p c.deref_mut.result.now =
    subst (HasTypes (now_of limits (view p)) p) (sym c.deref_mut.ensures.value) c.take_types-types.ensures.types in
    made_types limits p c.commit.new.pass loaded.0 told.0 c.deref_mut.result.now c.define.new.self c.in_ok-define.field-0 still made.0 made.1 out types steps

pub returns-clause-alone : goal.returns-clause-alone
returns-clause-alone c =
    let limits = c.args.world.now.limits in
    let p = c.take_types-types.new.pass in
    let still = still_from limits (view c.args.pass.now) (view p) c.requires.first c.take_types-types.ensures.same.1 in
    let loaded = c.load_place.ensures.loaded in
    let none : loaded.0 ≡ [] = loaded.3.alone (first_alone limits (view p) still) ∙ ap (λ y. y.seen) still.history in
    let after = c.store_intent.ensures.stored ∙ ap (λ (w : View). intent_stored w 0 16777473) loaded.2 in
    let may = subst (λ (w : View). MayCommit opening w new_class) (sym after) (may_commit limits (view p) loaded.0 still none c.take_types-types.ensures.types.only.types c.requires.room) in
    let told = c.commit.ensures.written new_class may.write.intends in
    let made = made_is limits (view p) (view c.store_intent.new.pass) (view c.commit.new.pass) loaded.0 told.0 still none after told.3 told.2 in
    (after_made limits (view p) (view c.commit.new.pass) (view c.give_types.new.pass) loaded.0 told.0 still made.0 made.1 c.give_types.ensures.back.still).0

pub returns-clause-made : goal.returns-clause-made
returns-clause-made c =
    let limits = c.args.world.now.limits in
    let p = c.take_types-types.new.pass in
    let still = still_from limits (view c.args.pass.now) (view p) c.requires.first c.take_types-types.ensures.same.1 in
    let loaded = c.load_place.ensures.loaded in
    let none : loaded.0 ≡ [] = loaded.3.alone (first_alone limits (view p) still) ∙ ap (λ y. y.seen) still.history in
    let after = c.store_intent.ensures.stored ∙ ap (λ (w : View). intent_stored w 0 16777473) loaded.2 in
    let may = subst (λ (w : View). MayCommit opening w new_class) (sym after) (may_commit limits (view p) loaded.0 still none c.take_types-types.ensures.types.only.types c.requires.room) in
    let told = c.commit.ensures.written new_class may.write.intends in
    let made = made_is limits (view p) (view c.store_intent.new.pass) (view c.commit.new.pass) loaded.0 told.0 still none after told.3 told.2 in
    (after_made limits (view p) (view c.commit.new.pass) (view c.give_types.new.pass) loaded.0 told.0 still made.0 made.1 c.give_types.ensures.back.still).1
