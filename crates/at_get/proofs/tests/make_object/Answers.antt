use Rattle.std.proofs.Common.{◌≡◌, ℕ, true, refl, sym, ap, ◌∙◌, subst}
use Rattle.at_value.specs.declared.operation.Op.TheVariants as ops
use Rattle.at_value.specs.Packing.{words_of}
use Rattle.at_view.specs.declared.mark.StepKind.TheVariants as kinds
use Rattle.at_core.specs.Heads.{IsWhole}
use Rattle.at_core.specs.Passes.{view}
use Rattle.at_core.specs.declared.lock.Lock.TheVariants as locks
use Rattle.at_core.specs.Locks.{holds}
use Rattle.at_core.specs.SomeRun.{new_class, new_object}
use Rattle.at_core.specs.Steps.{copied_heads}
use Rattle.at_core.specs.Trials.{eight}
use Rattle.at_core.proofs.Trials.{done, done_since, head_is, may_make_object}
use Rattle.at_place.specs.Intending.{intending}
use Rattle.at_get.proofs.Trials.{one, ready, ready_fresh, at_open, may_close, at_close}
use Rattle.at_get.proofs.tests.make_object.Goals as goal

pub open_write-requires-clause-may : goal.open_write-requires-clause-may
open_write-requires-clause-may c =
    let v = view c.args.pass.now in
    let h = c.requires.class in
    subst (λ (o : ℕ). (holds (locks.Row o) v ≡ true) × IsWhole (copied_heads v o)) (sym c.requires.numbers.0) (h.row, subst IsWhole (sym (head_is one (words_of new_class) 0 (eight 0) v h)) refl)

pub commit-place-requires-clause-may : goal.commit-place-requires-clause-may
commit-place-requires-clause-may c =
    let v = view c.args.pass.now in
    let u = view c.open_write.new.pass in
    let w = view c.intend.new.pass in
    let opened = c.in-Ok.ensures.opened in
    let hu = at_open v u c.requires.class c.args.o c.requires.numbers.0 opened.2 opened.4 in
    let loaded = c.now.ensures.loaded in
    let given : w ≡ intending (view c.now.new.pass) (words_of (ops.New c.args.c)) = c.intend.ensures.stored in
    let stored : w ≡ intending (view c.now.new.pass) (words_of new_object) = given ∙ ap (λ (k : ℕ). intending (view c.now.new.pass) (words_of (ops.New k))) c.requires.numbers.1 in
    let hw = ready one (words_of new_class) 1 (eight 0) u (view c.now.new.pass) w hu loaded.0 loaded.3.alone loaded.2 261 0 0 0 stored in
    let fresh = ready_fresh one (words_of new_class) 1 (eight 0) u (view c.now.new.pass) w hu loaded.0 loaded.3.alone loaded.2 261 0 0 0 stored c.args.world.now.limits c.open_write.ensures.same.1.limits c.requires.room in
    let may = may_make_object w hw fresh in
    (new_object, may)

pub close_write-requires-clause-may : goal.close_write-requires-clause-may
close_write-requires-clause-may c =
    let v = view c.args.pass.now in
    let u = view c.open_write.new.pass in
    let w = view c.intend.new.pass in
    let opened = c.in-Ok.ensures.opened in
    let hu = at_open v u c.requires.class c.args.o c.requires.numbers.0 opened.2 opened.4 in
    let loaded = c.now.ensures.loaded in
    let given : w ≡ intending (view c.now.new.pass) (words_of (ops.New c.args.c)) = c.intend.ensures.stored in
    let stored : w ≡ intending (view c.now.new.pass) (words_of new_object) = given ∙ ap (λ (k : ℕ). intending (view c.now.new.pass) (words_of (ops.New k))) c.requires.numbers.1 in
    let hw = ready one (words_of new_class) 1 (eight 0) u (view c.now.new.pass) w hu loaded.0 loaded.3.alone loaded.2 261 0 0 0 stored in
    let fresh = ready_fresh one (words_of new_class) 1 (eight 0) u (view c.now.new.pass) w hu loaded.0 loaded.3.alone loaded.2 261 0 0 0 stored c.args.world.now.limits c.open_write.ensures.same.1.limits c.requires.room in
    let may = may_make_object w hw fresh in
    let told = c.commit-place.ensures.written new_object may.write.intends in
    let x = view c.commit-place.new.pass in
    let hx = done one (words_of new_object) 1 (eight 0) w x hw told.0 told.3.saw.alone kinds.Commit new_object told.2 in
    may_close x hx c.args.o c.args.c c.requires.numbers.0 c.requires.numbers.1 (done_since one (words_of new_object) 1 (eight 0) w x hw told.0 told.3.saw.alone kinds.Commit new_object told.2)

pub returns-clause-object : goal.returns-clause-object
returns-clause-object c =
    let v = view c.args.pass.now in
    let u = view c.open_write.new.pass in
    let w = view c.intend.new.pass in
    let opened = c.in-Ok.ensures.opened in
    let hu = at_open v u c.requires.class c.args.o c.requires.numbers.0 opened.2 opened.4 in
    let loaded = c.now.ensures.loaded in
    let given : w ≡ intending (view c.now.new.pass) (words_of (ops.New c.args.c)) = c.intend.ensures.stored in
    let stored : w ≡ intending (view c.now.new.pass) (words_of new_object) = given ∙ ap (λ (k : ℕ). intending (view c.now.new.pass) (words_of (ops.New k))) c.requires.numbers.1 in
    let hw = ready one (words_of new_class) 1 (eight 0) u (view c.now.new.pass) w hu loaded.0 loaded.3.alone loaded.2 261 0 0 0 stored in
    let fresh = ready_fresh one (words_of new_class) 1 (eight 0) u (view c.now.new.pass) w hu loaded.0 loaded.3.alone loaded.2 261 0 0 0 stored c.args.world.now.limits c.open_write.ensures.same.1.limits c.requires.room in
    let may = may_make_object w hw fresh in
    let told = c.commit-place.ensures.written new_object may.write.intends in
    let x = view c.commit-place.new.pass in
    let hx = done one (words_of new_object) 1 (eight 0) w x hw told.0 told.3.saw.alone kinds.Commit new_object told.2 in
    let closed = c.close_write.ensures.closed in
    at_close x hx c.args.o c.args.c c.requires.numbers.0 c.requires.numbers.1 (view c.close_write.new.pass) closed.0 closed.2
