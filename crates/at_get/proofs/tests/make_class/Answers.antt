use Rattle.std.proofs.Common.{◌≡◌, ℕ, [], ◌∷◌, ap, ◌∙◌}
use Rattle.at_value.specs.declared.operation.Op as op
use Rattle.at_value.specs.declared.operation.Op.TheVariants as ops
use Rattle.at_value.specs.Packing.{words_of}
use Rattle.at_view.specs.declared.mark.StepKind.TheVariants as kinds
use Rattle.at_core.specs.Passes.{view}
use Rattle.at_core.specs.SomeRun.{new_class}
use Rattle.at_core.specs.Trials.{eight}
use Rattle.at_core.proofs.Trials.{done, may_make_class}
use Rattle.at_place.specs.Intending.{intending}
use Rattle.at_get.proofs.Trials.{ready, ready_fresh}
use Rattle.at_get.proofs.tests.make_class.Goals as goal

pub commit-requires-clause-may : goal.commit-requires-clause-may
commit-requires-clause-may c =
    let v = view c.args.pass.now in
    let w = view c.intend.new.pass in
    let loaded = c.now.ensures.loaded in
    let same : ops.NewClass c.args.c c.only.result ≡ new_class = (let bases = c.only.ensures ∙ ap (λ (k : ℕ). k ∷ []) c.object.ensures in λ t. ops.NewClass (c.requires.number t) (bases t)) in
    let given : w ≡ intending (view c.now.new.pass) (words_of (ops.NewClass c.args.c c.only.result)) = c.intend.ensures.stored in
    let stored : w ≡ intending (view c.now.new.pass) (words_of new_class) = given ∙ ap (λ (operation : op.Op). intending (view c.now.new.pass) (words_of operation)) same in
    let h = ready [] (0 ∷ 0 ∷ 0 ∷ 0 ∷ []) 0 (eight 0) v (view c.now.new.pass) w c.requires.taken loaded.0 loaded.3.alone loaded.2 16777473 0 0 0 stored in
    let fresh = ready_fresh [] (0 ∷ 0 ∷ 0 ∷ 0 ∷ []) 0 (eight 0) v (view c.now.new.pass) w c.requires.taken loaded.0 loaded.3.alone loaded.2 16777473 0 0 0 stored c.args.world.now.limits c.requires.of.limits c.requires.room in
    (new_class, may_make_class w h fresh)

pub returns-clause-class : goal.returns-clause-class
returns-clause-class c =
    let v = view c.args.pass.now in
    let w = view c.intend.new.pass in
    let loaded = c.now.ensures.loaded in
    let same : ops.NewClass c.args.c c.only.result ≡ new_class = (let bases = c.only.ensures ∙ ap (λ (k : ℕ). k ∷ []) c.object.ensures in λ t. ops.NewClass (c.requires.number t) (bases t)) in
    let given : w ≡ intending (view c.now.new.pass) (words_of (ops.NewClass c.args.c c.only.result)) = c.intend.ensures.stored in
    let stored : w ≡ intending (view c.now.new.pass) (words_of new_class) = given ∙ ap (λ (operation : op.Op). intending (view c.now.new.pass) (words_of operation)) same in
    let h = ready [] (0 ∷ 0 ∷ 0 ∷ 0 ∷ []) 0 (eight 0) v (view c.now.new.pass) w c.requires.taken loaded.0 loaded.3.alone loaded.2 16777473 0 0 0 stored in
    let fresh = ready_fresh [] (0 ∷ 0 ∷ 0 ∷ 0 ∷ []) 0 (eight 0) v (view c.now.new.pass) w c.requires.taken loaded.0 loaded.3.alone loaded.2 16777473 0 0 0 stored c.args.world.now.limits c.requires.of.limits c.requires.room in
    let told = c.commit.ensures.written new_class (may_make_class w h fresh).write.intends in
    done [] (words_of new_class) 0 (eight 0) w (view c.commit.new.pass) h told.0 told.3.saw.alone kinds.Commit new_class told.2
