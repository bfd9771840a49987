-- Classes that are read one after another, each with a blank before it.
use Rattle.std.proofs.Common.{◌≡◌, ◌∙◌, ap, refl, sym, ℕ, ◌<◌, ◌≤◌, nat_le, arith, List, [], ◌∷◌, ◌++◌, length, length-append, true, false, cond, Option, Some, None}
use Rattle.std.proofs.lemmas.Bool.{le-leb, lt-leb}
use Rattle.at_value.specs.Widths as widths
use Rattle.at_script.specs.Literals.{◌>>=◌}
use Rattle.at_script.specs.Parts.{ScriptParts}
use Rattle.at_text.specs.Values.{class_item}
use Rattle.at_text.specs.Readers.{passing}
use Rattle.at_text.specs.ReadValues.{begins_item, class_item_at, classes_at, bases_at}
use Rattle.at_back.proofs.Items.{onto, onto_next, onto_wrong, onto_ended, onto_none}
use Rattle.at_back.proofs.Pieces.{class_item_gives}

module _ (s : ScriptParts) where
  pub shorter : (t : List ℕ) (p : ℕ × List ℕ) → class_item_at s t ≡ Some p → length p.1 < length t
  shorter t p h =
      let e = ap length ((class_item_gives s).there t p h).0 in
      let l = length-append (class_item s p.0) p.1 in
      let some : 0 < length (class_item s p.0) = omega arith in
      omega arith

  pub classes_begun : (t : List ℕ) → onto [] (classes_at s t) ≡ classes_at s t
  classes_begun t = onto_none (classes_at s t)

  pub class_first : (items : List ℕ) (t : List ℕ) (c : ℕ) (rest : List ℕ) → begins_item t ≡ true → class_item_at s t ≡ Some (c, rest) → onto items (classes_at s t) ≡ onto (items ++ c ∷ []) (classes_at s rest)
  class_first items t c rest h e = onto_next begins_item (class_item_at s) refl shorter items t (c, rest) h e

  pub class_wrong : (items : List ℕ) (t : List ℕ) → begins_item t ≡ true → class_item_at s t ≡ None → onto items (classes_at s t) ≡ None
  class_wrong items t h e = onto_wrong begins_item (class_item_at s) refl shorter items t h e

  pub classes_ended : (items : List ℕ) (t : List ℕ) → begins_item t ≡ false → onto items (classes_at s t) ≡ Some (items, t)
  classes_ended items t h = onto_ended begins_item (class_item_at s) refl shorter items t h

  -- Bases

  few : List ℕ × List ℕ → Option (List ℕ × List ℕ)
  few found = cond (nat_le (length found.0) widths.most_bases) (Some found) None

  pub bases_ended : (items t first : List ℕ) → onto items (classes_at s t) ≡ classes_at s first → begins_item t ≡ false → length items ≤ widths.most_bases → bases_at s first ≡ Some (items, t)
  unfolding passing few
  bases_ended items t first same h short =
      ap (λ o. o >>= few) (sym same ∙ classes_ended items t h) ∙ ap (λ b. cond b (Some (items, t)) None) (le-leb (length items) widths.most_bases short)

  pub bases_wrong : (items t first : List ℕ) → onto items (classes_at s t) ≡ classes_at s first → begins_item t ≡ true → class_item_at s t ≡ None → bases_at s first ≡ None
  unfolding passing few
  bases_wrong items t first same h e = ap (λ o. o >>= few) (sym same ∙ class_wrong items t h e)

  too_many : (items : List ℕ) (o : Option (List ℕ × List ℕ)) → widths.most_bases < length items → (onto items o >>= few) ≡ None
  unfolding few
  too_many items None long = refl
  too_many items (Some p) long =
      let l = length-append items p.0 in
      ap (λ b. cond b (Some (items ++ p.0, p.1)) None) (lt-leb (length (items ++ p.0)) widths.most_bases (omega arith))

  pub bases_full : (items t first : List ℕ) (c : ℕ) (rest : List ℕ) → onto items (classes_at s t) ≡ classes_at s first → begins_item t ≡ true → class_item_at s t ≡ Some (c, rest) → length items ≡ widths.most_bases → bases_at s first ≡ None
  unfolding passing few
  bases_full items t first c rest same h e long =
      let l = length-append items (c ∷ []) in
      ap (λ o. o >>= few) (sym same ∙ class_first items t c rest h e) ∙ too_many (items ++ c ∷ []) (classes_at s rest) (omega arith)
