-- Distinct texts that are put in one after another.
use Rattle.std.proofs.Common.{◌≡◌, ◌∙◌, ap, refl, sym, ℕ, ◌+◌, ◌<◌, ◌≤◌, arith, List, [], ◌∷◌, ◌++◌, length, take, get_or, slice_get, length-take, cond, bytes_eq, Option, Some, None, true≢false}
use Rattle.std.proofs.lemmas.Bool.{lt-ltb}
use Rattle.std.proofs.lemmas.List.{take_more, get_or-take}
use Rattle.std.proofs.lemmas.List.Quantifiers.{position-Some}
use Rattle.std.proofs.lemmas.Option.{slice_get-get_or}
use Rattle.at_name.specs.Texts.{place_of, found_or_added}
use Rattle.at_script.specs.Laws.{AreIdentifiers}
use Rattle.at_back.specs.Indexing.{texts_in, added}

-- a text that stands first at a place isn't among those before
absent : (t : List ℕ) (all : List (List ℕ)) (i : ℕ) → place_of t all ≡ Some i → place_of t (take i all) ≡ None
absent t all i h = none (place_of t (take i all)) refl
  where
    none : (o : Option ℕ) → place_of t (take i all) ≡ o → o ≡ None
    none None e = refl
    none (Some j) e =
        let first = position-Some (bytes_eq t) all i [] h in
        let other = position-Some (bytes_eq t) (take i all) j [] e in
        let short : length (take i all) ≤ i = rw length-take (omega arith) in
        let below : j < i = let k = other.0 in omega arith in
        absurd (true≢false (sym other.1 ∙ ap (bytes_eq t) (get_or-take i all j [] below) ∙ first.2 j below))

-- the next of them
pub added_next : (most : ℕ) (all : List (List ℕ)) (i : ℕ) → AreIdentifiers all → length all ≤ most → i < length all → added most (slice_get all i) (take i all) ≡ take (i + 1) all
added_next most all i are few below =
    let t : List ℕ = get_or all i [] in
    let there = slice_get-get_or all i [] below in
    let none = absent t all i (are i t there).1 in
    let room : length (take i all) < most = rw length-take (omega arith) in
    ap (λ o. added most o (take i all)) there ∙ ap (λ o. texts_in (take i all) (found_or_added most t (take i all) o)) none
    ∙ ap (λ b. texts_in (take i all) (cond b (Some (length (take i all), take i all ++ t ∷ [])) None)) (lt-ltb (length (take i all)) most room)
    ∙ sym (take_more all i [] below)
