use Rattle.std.proofs.Common.{◌≡◌, ℕ, List, [], ◌∷◌, refl, sym, ap, ◌∙◌, subst}
use Rattle.at_value.specs.Packing.{words_of}
use Rattle.at_model.specs.World.{opening}
use Rattle.at_view.specs.declared.mark.StepKind.TheVariants as kinds
use Rattle.at_view.specs.declared.view.View.{View}
use Rattle.at_core.specs.Heads.{inline}
use Rattle.at_core.specs.HeadSteps.{MayOpen, MayClose, head_opened, head_closed}
use Rattle.at_core.specs.Looks.{keys_at}
use Rattle.at_core.specs.Passes.{view}
use Rattle.at_core.specs.PlaceSteps.{intent_stored, place_loaded}
use Rattle.at_core.specs.SomeRun.{new_class, new_object, head_of}
use Rattle.at_core.specs.Steps.{copied_heads}
use Rattle.at_core.specs.Trials.{IsAt, eight}
use Rattle.at_core.proofs.Trials.{at_opened, at_closed, head_is, may_open, ready, ready_fresh, done, done_since, may_make_object, may_close_made}
use Rattle.at_core.proofs.tests.make_object.Goals as goal

pub open_head-requires-clause-may : goal.open_head-requires-clause-may
open_head-requires-clause-may c =
    let v = view c.args.pass.now in
    let h = c.requires.class in
    subst (λ (o : ℕ). MayOpen v o × (0 ≡ copied_heads v o)) (sym c.requires.number) (
      may_open (new_class ∷ []) (words_of new_class) 0 (eight 0) v h c.args.world.now.limits c.requires.of.limits refl c.requires.room.1,
      sym (head_is (new_class ∷ []) (words_of new_class) 0 (eight 0) v h),
    )

pub commit-place-requires-clause-may : goal.commit-place-requires-clause-may
commit-place-requires-clause-may c =
    let v = view c.args.pass.now in
    let one = new_class ∷ [] in
    let opened : view c.open_head.new.pass ≡ head_opened v 0 = c.open_head.ensures.opened ∙ ap (λ (o : ℕ). head_opened v o) c.requires.number in
    let h = subst (IsAt one (words_of new_class) 1 (eight 0)) (sym opened) (at_opened one (words_of new_class) 0 (eight 0) v c.requires.class) in
    let x = view c.open_head.new.pass in
    let w = view c.store_intent.new.pass in
    let loaded = c.load_place.ensures.loaded in
    let is : w ≡ intent_stored (place_loaded x loaded.0) 0 261 = c.store_intent.ensures.stored ∙ ap (λ (y : View). intent_stored y 0 261) loaded.2 in
    let hw = ready one (words_of new_class) 1 (eight 0) x w h loaded.0 loaded.3.alone 0 261 is in
    let fresh = ready_fresh one (words_of new_class) 1 (eight 0) x w h loaded.0 loaded.3.alone 0 261 c.args.world.now.limits is c.open_head.ensures.same.1.limits c.requires.room.0 in
    let may = may_make_object w hw fresh in
    (new_object, may)

pub close_head-requires-clause-may : goal.close_head-requires-clause-may
close_head-requires-clause-may c =
    let v = view c.args.pass.now in
    let one = new_class ∷ [] in
    let opened : view c.open_head.new.pass ≡ head_opened v 0 = c.open_head.ensures.opened ∙ ap (λ (o : ℕ). head_opened v o) c.requires.number in
    let h = subst (IsAt one (words_of new_class) 1 (eight 0)) (sym opened) (at_opened one (words_of new_class) 0 (eight 0) v c.requires.class) in
    let x = view c.open_head.new.pass in
    let w = view c.store_intent.new.pass in
    let loaded = c.load_place.ensures.loaded in
    let is : w ≡ intent_stored (place_loaded x loaded.0) 0 261 = c.store_intent.ensures.stored ∙ ap (λ (y : View). intent_stored y 0 261) loaded.2 in
    let hw = ready one (words_of new_class) 1 (eight 0) x w h loaded.0 loaded.3.alone 0 261 is in
    let fresh = ready_fresh one (words_of new_class) 1 (eight 0) x w h loaded.0 loaded.3.alone 0 261 c.args.world.now.limits is c.open_head.ensures.same.1.limits c.requires.room.0 in
    let may = may_make_object w hw fresh in
    let told = c.commit-place.ensures.written new_object may.write.intends in
    let u = view c.commit-place.new.pass in
    let hu = done one (words_of new_object) 1 (eight 0) w u hw told.0 told.3.alone kinds.Commit new_object told.2 in
    let since = done_since one (words_of new_object) 1 (eight 0) w u hw told.0 told.3.alone kinds.Commit new_object told.2 in
    subst (λ (o : ℕ). MayClose opening u o (head_of inline 0)) (sym c.requires.number) (may_close_made u hu since)

pub returns-clause-object : goal.returns-clause-object
returns-clause-object c =
    let v = view c.args.pass.now in
    let one = new_class ∷ [] in
    let opened : view c.open_head.new.pass ≡ head_opened v 0 = c.open_head.ensures.opened ∙ ap (λ (o : ℕ). head_opened v o) c.requires.number in
    let h = subst (IsAt one (words_of new_class) 1 (eight 0)) (sym opened) (at_opened one (words_of new_class) 0 (eight 0) v c.requires.class) in
    let x = view c.open_head.new.pass in
    let w = view c.store_intent.new.pass in
    let loaded = c.load_place.ensures.loaded in
    let is : w ≡ intent_stored (place_loaded x loaded.0) 0 261 = c.store_intent.ensures.stored ∙ ap (λ (y : View). intent_stored y 0 261) loaded.2 in
    let hw = ready one (words_of new_class) 1 (eight 0) x w h loaded.0 loaded.3.alone 0 261 is in
    let fresh = ready_fresh one (words_of new_class) 1 (eight 0) x w h loaded.0 loaded.3.alone 0 261 c.args.world.now.limits is c.open_head.ensures.same.1.limits c.requires.room.0 in
    let may = may_make_object w hw fresh in
    let told = c.commit-place.ensures.written new_object may.write.intends in
    let u = view c.commit-place.new.pass in
    let hu = done one (words_of new_object) 1 (eight 0) w u hw told.0 told.3.alone kinds.Commit new_object told.2 in
    let closed : view c.close_head.new.pass ≡ head_closed u 0 (head_of inline 0) = c.close_head.ensures.closed ∙ ap (λ (o : ℕ). head_closed u o (head_of inline 0)) c.requires.number in
    subst (IsAt (new_class ∷ new_object ∷ []) (words_of new_object) (head_of inline 0) (eight 0)) (sym closed) (at_closed (new_class ∷ new_object ∷ []) (words_of new_object) 1 (eight 0) u hu (head_of inline 0))

pub returns-clause-key : goal.returns-clause-key
returns-clause-key c =
    let v = view c.args.pass.now in
    let one = new_class ∷ [] in
    let opened : view c.open_head.new.pass ≡ head_opened v 0 = c.open_head.ensures.opened ∙ ap (λ (o : ℕ). head_opened v o) c.requires.number in
    let h = subst (IsAt one (words_of new_class) 1 (eight 0)) (sym opened) (at_opened one (words_of new_class) 0 (eight 0) v c.requires.class) in
    let x = view c.open_head.new.pass in
    let w = view c.store_intent.new.pass in
    let loaded = c.load_place.ensures.loaded in
    let is : w ≡ intent_stored (place_loaded x loaded.0) 0 261 = c.store_intent.ensures.stored ∙ ap (λ (y : View). intent_stored y 0 261) loaded.2 in
    let hw = ready one (words_of new_class) 1 (eight 0) x w h loaded.0 loaded.3.alone 0 261 is in
    let fresh = ready_fresh one (words_of new_class) 1 (eight 0) x w h loaded.0 loaded.3.alone 0 261 c.args.world.now.limits is c.open_head.ensures.same.1.limits c.requires.room.0 in
    let may = may_make_object w hw fresh in
    let told = c.commit-place.ensures.written new_object may.write.intends in
    let u = view c.commit-place.new.pass in
    let hu = done one (words_of new_object) 1 (eight 0) w u hw told.0 told.3.alone kinds.Commit new_object told.2 in
    let K : View → List ℕ = λ y. keys_at 1 y.known in
    ap K c.close_head.ensures.closed ∙ (ap K told.2 ∙ (ap K is ∙ (ap K c.open_head.ensures.opened ∙ c.requires.key)))
