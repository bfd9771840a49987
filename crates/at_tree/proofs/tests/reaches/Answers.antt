use Rattle.std.proofs.Common.{◌≡◌, ℕ, true, false, eqb, eq-eqb, List, [], Contains, refl, sym, ap, ◌∙◌}
use Rattle.std.specs.List.{list_any}
use Rattle.std.proofs.lemmas.Bool.{false≢true}
use Rattle.std.proofs.lemmas.List.Elements.{All-same, All-replicate}
use Rattle.std.proofs.lemmas.List.Folds.{list_any_at}
use Rattle.at_tree.proofs.Paths.{reach_here, reach_step}
use Rattle.at_tree.proofs.tests.reaches.Goals as goal

-- a class that is in a list is found there
found : (list : List ℕ) (d : ℕ) → Contains list d → list_any (λ y. eqb y d) list ≡ true
found list d h = list_any_at (λ y. eqb y d) list h.0 d h.1 (eq-eqb _ _ h.2)

pub returns-clause-apart : goal.returns-clause-apart
returns-clause-apart c = λ no r.
    let none = All-same (λ marked. marked ≡ false) _ _ (c.deref.ensures.value ∙ c.in_ok-unmarked.ensures.items_if_clones_equal (λ y h. h)) (All-replicate (λ marked. marked ≡ false) _ false refl) in
    let there : Contains c.in_ok-list.list.items c.args.d = (c.in_ok-list.ensures.unmarked none c.args.d).1 r in
    false≢true (sym no ∙ c.contains.ensures.value ∙ ap (list_any (λ y. eqb y c.args.d)) c.deref-2.ensures.value ∙ found _ _ there)

pub returns-clause-no_pair : goal.returns-clause-no_pair
returns-clause-no_pair c = λ no h.
    returns-clause-apart c no (reach_step c.args.tree.now [] c.args.c c.args.d c.args.d h (reach_here c.args.tree.now [] c.args.d c.args.d refl))
