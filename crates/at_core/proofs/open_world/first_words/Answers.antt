use Rattle.std.proofs.Common.{◌≡◌, ℕ, suc, ◌-◌, List, ◌∷◌, set, replicate, refl, ap, ◌∙◌, arith}
use Rattle.at_view.specs.Words.{table_words}
use Rattle.at_core.proofs.open_world.first_words.Goals as goal

-- two words of a list of zeros
ones : (n : ℕ) → ◌≡◌ {A = List ℕ} (set (set (replicate (suc (suc (suc (suc n)))) 0) 2 1) 3 1) (0 ∷ 0 ∷ 1 ∷ 1 ∷ replicate n 0)
ones n = refl

four : table_words ≡ suc (suc (suc (suc (table_words - 4))))
four = omega arith

pub returns : goal.returns
returns c =
    let items : c.in_ok-words.words.items ≡ replicate table_words 0 = c.in_ok-words.ensures.items_if_clones_equal (λ y same. same) in
    ap (λ (xs : List ℕ). set (set xs 2 1) 3 1) (items ∙ ap (λ (n : ℕ). replicate n 0) four) ∙ ones (table_words - 4)
