-- A word at the front of a text.
use Rattle.std.proofs.Common.{◌≡◌, ◌∙◌, ap, refl, sym, ℕ, ◌==◌, nat_eq, List, [], ◌∷◌, length, take, drop, true, false, cond, ◌&&◌, Some, None, inl, inr, true≢false}
use Rattle.std.proofs.lemmas.Bool.{cases_Bool, eqb-true, eq-eqb, false_from_ne_true}
use lib.Pointwise.{pointwise}
use Rattle.at_text.specs.Readers.{past}

symmetric : (a b : ℕ) → (a == b) ≡ (b == a)
symmetric a b =
    elim (cases_Bool (b == a)) [
      | inl e ↦ eq-eqb a b (sym (eqb-true b a e)) ∙ sym e
      | inr e ↦ false_from_ne_true (a == b) (λ h. true≢false (sym (eq-eqb b a (sym (eqb-true a b h))) ∙ e)) ∙ sym e
    ]

pub past_there : (word text : List ℕ) → pointwise nat_eq (take (length word) text) word ≡ true → past word text ≡ Some (drop (length word) text)
past_there [] text h = refl
past_there (b ∷ word) [] h = cc
past_there (b ∷ word) (t ∷ text) h =
    elim (t == b) as (λ e. ((t == b) ≡ e) → (e && pointwise nat_eq (take (length word) text) word) ≡ true → cond (b == t) (past word text) None ≡ Some (drop (length word) text)) [
      | true ↦ λ e h. ap (λ c. cond c (past word text) None) (symmetric b t ∙ e) ∙ past_there word text h
      | false ↦ λ e h. cc
    ] refl h

pub past_nowhere : (word text : List ℕ) → pointwise nat_eq (take (length word) text) word ≡ false → past word text ≡ None
past_nowhere [] text h = cc
past_nowhere (b ∷ word) [] h = refl
past_nowhere (b ∷ word) (t ∷ text) h =
    elim (t == b) as (λ e. ((t == b) ≡ e) → (e && pointwise nat_eq (take (length word) text) word) ≡ false → cond (b == t) (past word text) None ≡ None) [
      | true ↦ λ e h. ap (λ c. cond c (past word text) None) (symmetric b t ∙ e) ∙ past_nowhere word text h
      | false ↦ λ e h. ap (λ c. cond c (past word text) None) (symmetric b t ∙ e)
    ] refl h
