use Rattle.std.proofs.Common.{◌≡◌, ℕ, suc, ◌+◌, List, refl, sym, ap, ◌∙◌, subst}
use Rattle.std.specs.Prelude.{Some, slice_set}
use Rattle.at_value.specs.Packing.{words_of}
use Rattle.at_model.specs.World.{opening}
use Rattle.at_view.specs.declared.mark.StepKind.TheVariants as kinds
use Rattle.at_view.specs.declared.view.View.{View}
use Rattle.at_core.specs.declared.lock.Lock.TheVariants as locks
use Rattle.at_core.specs.declared.stored.Stored.TheVariants as stores
use Rattle.at_core.specs.Heads.{inline}
use Rattle.at_core.specs.HeadSteps.{MayStore, MayClose, head_opened, head_closed, inline_stored}
use Rattle.at_core.specs.Looks.{keys_at}
use Rattle.at_core.specs.Passes.{view, slot_at}
use Rattle.at_core.specs.PlaceSteps.{intent_stored}
use Rattle.at_core.specs.SomeRun.{new_object, first_value, head_of}
use Rattle.at_core.specs.Steps.{MayGive}
use Rattle.at_core.specs.Trials.{IsAt, eight, HasKey}
use Rattle.at_core.proofs.Trials.{made, set_to, at_opened, at_intended, at_stored, at_loaded, at_closed, fresh_after, done, done_since, may_store, may_set, may_close_set, may_give_row}
use Rattle.at_core.proofs.tests.set_value.Goals as goal

pub store_inline-requires-clause-may : goal.store_inline-requires-clause-may
store_inline-requires-clause-may c =
    let x = view c.open_head.new.pass in
    let opened : x ≡ head_opened (view c.args.pass.now) 0 = c.open_head.ensures.opened ∙ ap (λ (o : ℕ). head_opened (view c.args.pass.now) o) c.requires.number in
    let h = subst (IsAt made (words_of new_object) (suc (head_of inline 0)) (eight 0)) (sym opened) (at_opened made (words_of new_object) (head_of inline 0) (eight 0) (view c.args.pass.now) c.requires.object) in
    let y = view c.store_intent-2.new.pass in
    let intends : y ≡ intent_stored (intent_stored x 0 21990232555526) 1 1 = c.store_intent-2.ensures.stored ∙ ap (λ (z : View). intent_stored z 1 1) c.store_intent.ensures.stored in
    let hy = subst (IsAt made (words_of first_value) (suc (head_of inline 0)) (eight 0)) (sym intends)
    (at_intended made (slice_set (words_of new_object) 0 21990232555526) (suc (head_of inline 0)) (eight 0) (intent_stored x 0 21990232555526) (at_intended made (words_of new_object) (suc (head_of inline 0)) (eight 0) x h 0 21990232555526) 1 1) in
    subst (λ (o : ℕ). MayStore y o 0 1) (sym c.requires.number) (may_store y hy)

pub commit_if-found-requires-clause-may : goal.commit_if-found-requires-clause-may
commit_if-found-requires-clause-may c =
    let x = view c.open_head.new.pass in
    let opened : x ≡ head_opened (view c.args.pass.now) 0 = c.open_head.ensures.opened ∙ ap (λ (o : ℕ). head_opened (view c.args.pass.now) o) c.requires.number in
    let h = subst (IsAt made (words_of new_object) (suc (head_of inline 0)) (eight 0)) (sym opened) (at_opened made (words_of new_object) (head_of inline 0) (eight 0) (view c.args.pass.now) c.requires.object) in
    let y = view c.store_intent-2.new.pass in
    let intends : y ≡ intent_stored (intent_stored x 0 21990232555526) 1 1 = c.store_intent-2.ensures.stored ∙ ap (λ (z : View). intent_stored z 1 1) c.store_intent.ensures.stored in
    let hy = subst (IsAt made (words_of first_value) (suc (head_of inline 0)) (eight 0)) (sym intends)
    (at_intended made (slice_set (words_of new_object) 0 21990232555526) (suc (head_of inline 0)) (eight 0) (intent_stored x 0 21990232555526) (at_intended made (words_of new_object) (suc (head_of inline 0)) (eight 0) x h 0 21990232555526) 1 1) in
    let stored : view c.store_inline.new.pass ≡ inline_stored y 0 0 1 = c.store_inline.ensures.stored ∙ ap (λ (o : ℕ). inline_stored y o 0 1) c.requires.number in
    let z = view c.store_inline.new.pass in
    let hz = subst (IsAt made (words_of first_value) (suc (head_of inline 0)) (eight 1)) (sym stored) (at_stored made (words_of first_value) (suc (head_of inline 0)) (eight 0) y hy 0 1) in
    let loaded = c.load_place.ensures.loaded in
    let w = view c.load_place.new.pass in
    let same = loaded.3.alone hz.alone ∙ hz.seen in
    let hw = subst (IsAt made (words_of first_value) (suc (head_of inline 0)) (eight 1)) (sym loaded.2) (at_loaded made (words_of first_value) (suc (head_of inline 0)) (eight 1) z hz loaded.0 same) in
    let fresh = ap (λ (a : View). a.intent.fresh) loaded.2 ∙ fresh_after z loaded.0 made c.args.world.now.limits same c.store_inline.ensures.same.1.limits c.requires.room.0 in
    let may = may_set w hw c.args.world.now.limits c.load_place.ensures.same.1.limits c.requires.room.0 fresh in
    (first_value, may)

pub close_head-requires-clause-may : goal.close_head-requires-clause-may
close_head-requires-clause-may c =
    let x = view c.open_head.new.pass in
    let opened : x ≡ head_opened (view c.args.pass.now) 0 = c.open_head.ensures.opened ∙ ap (λ (o : ℕ). head_opened (view c.args.pass.now) o) c.requires.number in
    let h = subst (IsAt made (words_of new_object) (suc (head_of inline 0)) (eight 0)) (sym opened) (at_opened made (words_of new_object) (head_of inline 0) (eight 0) (view c.args.pass.now) c.requires.object) in
    let y = view c.store_intent-2.new.pass in
    let intends : y ≡ intent_stored (intent_stored x 0 21990232555526) 1 1 = c.store_intent-2.ensures.stored ∙ ap (λ (z : View). intent_stored z 1 1) c.store_intent.ensures.stored in
    let hy = subst (IsAt made (words_of first_value) (suc (head_of inline 0)) (eight 0)) (sym intends)
    (at_intended made (slice_set (words_of new_object) 0 21990232555526) (suc (head_of inline 0)) (eight 0) (intent_stored x 0 21990232555526) (at_intended made (words_of new_object) (suc (head_of inline 0)) (eight 0) x h 0 21990232555526) 1 1) in
    let stored : view c.store_inline.new.pass ≡ inline_stored y 0 0 1 = c.store_inline.ensures.stored ∙ ap (λ (o : ℕ). inline_stored y o 0 1) c.requires.number in
    let z = view c.store_inline.new.pass in
    let hz = subst (IsAt made (words_of first_value) (suc (head_of inline 0)) (eight 1)) (sym stored) (at_stored made (words_of first_value) (suc (head_of inline 0)) (eight 0) y hy 0 1) in
    let loaded = c.load_place.ensures.loaded in
    let w = view c.load_place.new.pass in
    let same = loaded.3.alone hz.alone ∙ hz.seen in
    let hw = subst (IsAt made (words_of first_value) (suc (head_of inline 0)) (eight 1)) (sym loaded.2) (at_loaded made (words_of first_value) (suc (head_of inline 0)) (eight 1) z hz loaded.0 same) in
    let fresh = ap (λ (a : View). a.intent.fresh) loaded.2 ∙ fresh_after z loaded.0 made c.args.world.now.limits same c.store_inline.ensures.same.1.limits c.requires.room.0 in
    let may = may_set w hw c.args.world.now.limits c.load_place.ensures.same.1.limits c.requires.room.0 fresh in
    let told = c.commit_if-found.ensures.written (c.commit_if-found.ensures.alone hw.alone) first_value may.write.intends in
    let u = view c.commit_if-found.new.pass in
    let hu = done made (words_of first_value) (suc (head_of inline 0)) (eight 1) w u hw w.history.seen (λ _. refl) kinds.CommitIf first_value told.0 in
    let since = done_since made (words_of first_value) (suc (head_of inline 0)) (eight 1) w u hw w.history.seen (λ _. refl) kinds.CommitIf first_value told.0 in
    let K : View → List ℕ = λ a. keys_at 1 a.known in
    let known : HasKey u = ap K told.0 ∙ (ap K loaded.2 ∙ (ap K stored ∙ (ap K intends ∙ (ap K opened ∙ c.requires.key)))) in
    subst (λ (o : ℕ). MayClose opening u o (head_of inline 0 + 2)) (sym c.requires.number) (may_close_set u hu known since)

pub unlock-requires-clause-has : goal.unlock-requires-clause-has
unlock-requires-clause-has c =
    let x = view c.open_head.new.pass in
    let opened : x ≡ head_opened (view c.args.pass.now) 0 = c.open_head.ensures.opened ∙ ap (λ (o : ℕ). head_opened (view c.args.pass.now) o) c.requires.number in
    let h = subst (IsAt made (words_of new_object) (suc (head_of inline 0)) (eight 0)) (sym opened) (at_opened made (words_of new_object) (head_of inline 0) (eight 0) (view c.args.pass.now) c.requires.object) in
    let y = view c.store_intent-2.new.pass in
    let intends : y ≡ intent_stored (intent_stored x 0 21990232555526) 1 1 = c.store_intent-2.ensures.stored ∙ ap (λ (z : View). intent_stored z 1 1) c.store_intent.ensures.stored in
    let hy = subst (IsAt made (words_of first_value) (suc (head_of inline 0)) (eight 0)) (sym intends)
    (at_intended made (slice_set (words_of new_object) 0 21990232555526) (suc (head_of inline 0)) (eight 0) (intent_stored x 0 21990232555526) (at_intended made (words_of new_object) (suc (head_of inline 0)) (eight 0) x h 0 21990232555526) 1 1) in
    let stored : view c.store_inline.new.pass ≡ inline_stored y 0 0 1 = c.store_inline.ensures.stored ∙ ap (λ (o : ℕ). inline_stored y o 0 1) c.requires.number in
    let z = view c.store_inline.new.pass in
    let hz = subst (IsAt made (words_of first_value) (suc (head_of inline 0)) (eight 1)) (sym stored) (at_stored made (words_of first_value) (suc (head_of inline 0)) (eight 0) y hy 0 1) in
    let loaded = c.load_place.ensures.loaded in
    let w = view c.load_place.new.pass in
    let same = loaded.3.alone hz.alone ∙ hz.seen in
    let hw = subst (IsAt made (words_of first_value) (suc (head_of inline 0)) (eight 1)) (sym loaded.2) (at_loaded made (words_of first_value) (suc (head_of inline 0)) (eight 1) z hz loaded.0 same) in
    let fresh = ap (λ (a : View). a.intent.fresh) loaded.2 ∙ fresh_after z loaded.0 made c.args.world.now.limits same c.store_inline.ensures.same.1.limits c.requires.room.0 in
    let may = may_set w hw c.args.world.now.limits c.load_place.ensures.same.1.limits c.requires.room.0 fresh in
    let told = c.commit_if-found.ensures.written (c.commit_if-found.ensures.alone hw.alone) first_value may.write.intends in
    let u = view c.commit_if-found.new.pass in
    let hu = done made (words_of first_value) (suc (head_of inline 0)) (eight 1) w u hw w.history.seen (λ _. refl) kinds.CommitIf first_value told.0 in
    let closed : view c.close_head.new.pass ≡ head_closed u 0 (head_of inline 0 + 2) = c.close_head.ensures.closed ∙ ap (λ (o : ℕ). head_closed u o (head_of inline 0 + 2)) c.requires.number in
    let b = view c.close_head.new.pass in
    let hb = subst (IsAt set_to (words_of first_value) (head_of inline 0 + 2) (eight 1)) (sym closed) (at_closed set_to (words_of first_value) (suc (head_of inline 0)) (eight 1) u hu (head_of inline 0 + 2)) in
    let r = locks.Row 0 in
    let slot : slot_at c.close_head.new.pass r ≡ Some (Some (stores.Body c.requires.body.0)) =
    c.close_head.ensures.same.2 r ∙ (c.commit_if-found.ensures.same.2 r ∙ (c.load_place.ensures.same.2 r ∙ (c.store_inline.ensures.same.2 r
    ∙ (c.store_intent-2.ensures.same.2 r ∙ (c.store_intent.ensures.same.2 r ∙ (c.open_head.ensures.same.2 r ∙ c.requires.body.1)))))) in
    let back = subst (λ (o : ℕ). (slot_at c.close_head.new.pass (locks.Row o) ≡ Some (Some (stores.Body c.requires.body.0))) × MayGive opening (locks.Row o) b b.types.lists (stores.Body c.requires.body.0))
    (sym c.requires.number) (slot, may_give_row b hb c.requires.body.0 c.requires.body.2) in
    (b.types.lists, stores.Body c.requires.body.0, back.0, back.1)

pub returns-clause-found : goal.returns-clause-found
returns-clause-found c =
    let x = view c.open_head.new.pass in
    let opened : x ≡ head_opened (view c.args.pass.now) 0 = c.open_head.ensures.opened ∙ ap (λ (o : ℕ). head_opened (view c.args.pass.now) o) c.requires.number in
    let h = subst (IsAt made (words_of new_object) (suc (head_of inline 0)) (eight 0)) (sym opened) (at_opened made (words_of new_object) (head_of inline 0) (eight 0) (view c.args.pass.now) c.requires.object) in
    let y = view c.store_intent-2.new.pass in
    let intends : y ≡ intent_stored (intent_stored x 0 21990232555526) 1 1 = c.store_intent-2.ensures.stored ∙ ap (λ (z : View). intent_stored z 1 1) c.store_intent.ensures.stored in
    let hy = subst (IsAt made (words_of first_value) (suc (head_of inline 0)) (eight 0)) (sym intends)
    (at_intended made (slice_set (words_of new_object) 0 21990232555526) (suc (head_of inline 0)) (eight 0) (intent_stored x 0 21990232555526) (at_intended made (words_of new_object) (suc (head_of inline 0)) (eight 0) x h 0 21990232555526) 1 1) in
    let stored : view c.store_inline.new.pass ≡ inline_stored y 0 0 1 = c.store_inline.ensures.stored ∙ ap (λ (o : ℕ). inline_stored y o 0 1) c.requires.number in
    let z = view c.store_inline.new.pass in
    let hz = subst (IsAt made (words_of first_value) (suc (head_of inline 0)) (eight 1)) (sym stored) (at_stored made (words_of first_value) (suc (head_of inline 0)) (eight 0) y hy 0 1) in
    let loaded = c.load_place.ensures.loaded in
    let w = view c.load_place.new.pass in
    let same = loaded.3.alone hz.alone ∙ hz.seen in
    let hw = subst (IsAt made (words_of first_value) (suc (head_of inline 0)) (eight 1)) (sym loaded.2) (at_loaded made (words_of first_value) (suc (head_of inline 0)) (eight 1) z hz loaded.0 same) in
    let fresh = ap (λ (a : View). a.intent.fresh) loaded.2 ∙ fresh_after z loaded.0 made c.args.world.now.limits same c.store_inline.ensures.same.1.limits c.requires.room.0 in
    let may = may_set w hw c.args.world.now.limits c.load_place.ensures.same.1.limits c.requires.room.0 fresh in
    c.commit_if-found.ensures.alone hw.alone
