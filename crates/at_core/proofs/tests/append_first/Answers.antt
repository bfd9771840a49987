use Rattle.std.proofs.Common.{◌≡◌, ℕ, [], ◌∷◌, sym, ap, ◌∙◌, subst}
use Rattle.at_value.specs.Packing.{words_of}
use Rattle.at_view.specs.declared.view.View.{View}
use Rattle.at_core.specs.HeadSteps.{MayAppend, key_loaded, key_appended}
use Rattle.at_core.specs.HeadPlays.{SawKey}
use Rattle.at_core.specs.Passes.{view}
use Rattle.at_core.specs.SomeRun.{new_class}
use Rattle.at_core.specs.Trials.{IsAt, eight, HasKey}
use Rattle.at_core.proofs.Trials.{at_key_loaded, at_appended, may_append, has_key}
use Rattle.at_core.proofs.tests.append_first.Goals as goal

pub append_key-requires-clause-may : goal.append_key-requires-clause-may
append_key-requires-clause-may c =
    let v = view c.args.pass.now in
    let l = c.load_key.ensures.loaded in
    let h = c.requires.class in
    let is : view c.load_key.new.pass ≡ key_loaded v 1 0 l.0 c.load_key.result = l.1 ∙ ap (λ (k : ℕ). key_loaded v k 0 l.0 c.load_key.result) c.requires.numbers.0 in
    let saw = subst (λ (k : ℕ). SawKey v k 0 c.load_key.result l.0) c.requires.numbers.0 l.2 in
    let may = may_append (key_loaded v 1 0 l.0 c.load_key.result) c.requires.copies l.0 saw.keys (sym saw.is ∙ c.if-load_key-ne0.false) (saw.copy h.types) h.types in
    let Q : View × ℕ × ℕ → Type 0 = λ x. MayAppend x.0 x.1 0 x.2 in
    subst Q (λ t. (sym is t, sym c.requires.numbers.0 t, sym c.requires.numbers.1 t)) may

pub returns-clause-class : goal.returns-clause-class
returns-clause-class c =
    let v = view c.args.pass.now in
    let l = c.load_key.ensures.loaded in
    let w = key_loaded v c.args.c 0 l.0 c.load_key.result in
    let is : view c.append_key.new.pass ≡ key_appended w c.args.c 0 c.args.n = c.append_key.ensures.appended ∙ ap (λ (x : View). key_appended x c.args.c 0 c.args.n) l.1 in
    subst (IsAt (new_class ∷ []) (words_of new_class) 0 (eight 0)) (sym is)
    (at_appended (new_class ∷ []) (words_of new_class) 0 (eight 0) w (at_key_loaded (new_class ∷ []) (words_of new_class) 0 (eight 0) v c.requires.class c.args.c 0 l.0 c.load_key.result) c.args.c 0 c.args.n)

pub returns-clause-key : goal.returns-clause-key
returns-clause-key c _ =
    let v = view c.args.pass.now in
    let l = c.load_key.ensures.loaded in
    let h = c.requires.class in
    let is : view c.load_key.new.pass ≡ key_loaded v 1 0 l.0 c.load_key.result = l.1 ∙ ap (λ (k : ℕ). key_loaded v k 0 l.0 c.load_key.result) c.requires.numbers.0 in
    let saw = subst (λ (k : ℕ). SawKey v k 0 c.load_key.result l.0) c.requires.numbers.0 l.2 in
    let has = has_key (key_loaded v 1 0 l.0 c.load_key.result) c.requires.copies l.0 saw.keys (sym saw.is ∙ c.if-load_key-ne0.false) (saw.copy h.types) in
    let Q : View × ℕ × ℕ → Type 0 = λ x. HasKey (key_appended x.0 x.1 0 x.2) in
    subst HasKey (sym c.append_key.ensures.appended) (subst Q (λ t. (sym is t, sym c.requires.numbers.0 t, sym c.requires.numbers.1 t)) has)
