use Rattle.std.proofs.Common.{◌≡◌, [], ◌∷◌, ap, ◌∙◌}
use Rattle.at_value.specs.Packing.{words_of}
use Rattle.at_view.specs.declared.mark.StepKind.TheVariants as kinds
use Rattle.at_view.specs.declared.view.View.{View}
use Rattle.at_core.specs.Passes.{view}
use Rattle.at_core.specs.PlaceSteps.{intent_stored, place_loaded}
use Rattle.at_core.specs.SomeRun.{new_class}
use Rattle.at_core.specs.Trials.{eight}
use Rattle.at_core.proofs.Trials.{ready, ready_fresh, done, may_make_class}
use Rattle.at_core.proofs.tests.write_class.Goals as goal

pub commit-requires-clause-may : goal.commit-requires-clause-may
commit-requires-clause-may c =
    let v = view c.args.pass.now in
    let w = view c.store_intent.new.pass in
    let loaded = c.load_place.ensures.loaded in
    let is : w ≡ intent_stored (place_loaded v loaded.0) 0 16777473 = c.store_intent.ensures.stored ∙ ap (λ (x : View). intent_stored x 0 16777473) loaded.2 in
    let h = ready [] (0 ∷ 0 ∷ 0 ∷ 0 ∷ []) 0 (eight 0) v w c.requires.taken loaded.0 loaded.3.alone 0 16777473 is in
    let fresh = ready_fresh [] (0 ∷ 0 ∷ 0 ∷ 0 ∷ []) 0 (eight 0) v w c.requires.taken loaded.0 loaded.3.alone 0 16777473 c.args.world.now.limits is c.requires.of.limits c.requires.room in
    (new_class, may_make_class w h fresh)

pub returns-clause-class : goal.returns-clause-class
returns-clause-class c =
    let v = view c.args.pass.now in
    let w = view c.store_intent.new.pass in
    let loaded = c.load_place.ensures.loaded in
    let is : w ≡ intent_stored (place_loaded v loaded.0) 0 16777473 = c.store_intent.ensures.stored ∙ ap (λ (x : View). intent_stored x 0 16777473) loaded.2 in
    let h = ready [] (0 ∷ 0 ∷ 0 ∷ 0 ∷ []) 0 (eight 0) v w c.requires.taken loaded.0 loaded.3.alone 0 16777473 is in
    let fresh = ready_fresh [] (0 ∷ 0 ∷ 0 ∷ 0 ∷ []) 0 (eight 0) v w c.requires.taken loaded.0 loaded.3.alone 0 16777473 c.args.world.now.limits is c.requires.of.limits c.requires.room in
    let told = c.commit.ensures.written new_class (may_make_class w h fresh).write.intends in
    done [] (words_of new_class) 0 (eight 0) w (view c.commit.new.pass) h told.0 told.3.alone kinds.Commit new_class told.2

pub returns-clause-copies : goal.returns-clause-copies
returns-clause-copies c =
    let v = view c.args.pass.now in
    let w = view c.store_intent.new.pass in
    let loaded = c.load_place.ensures.loaded in
    let is : w ≡ intent_stored (place_loaded v loaded.0) 0 16777473 = c.store_intent.ensures.stored ∙ ap (λ (x : View). intent_stored x 0 16777473) loaded.2 in
    let h = ready [] (0 ∷ 0 ∷ 0 ∷ 0 ∷ []) 0 (eight 0) v w c.requires.taken loaded.0 loaded.3.alone 0 16777473 is in
    let fresh = ready_fresh [] (0 ∷ 0 ∷ 0 ∷ 0 ∷ []) 0 (eight 0) v w c.requires.taken loaded.0 loaded.3.alone 0 16777473 c.args.world.now.limits is c.requires.of.limits c.requires.room in
    let told = c.commit.ensures.written new_class (may_make_class w h fresh).write.intends in
    (c.requires.copies.0, ap (λ (x : View). x.types.words) told.2 ∙ (ap (λ (x : View). x.types.words) is ∙ c.requires.copies.1))
