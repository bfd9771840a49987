-- Lists that are taken piece by piece.
use Rattle.std.proofs.Common.{◌≡◌, ◌∙◌, ap, sym, ℕ, ◌+◌, ◌-◌, List, ◌++◌, length, take, drop}
use Rattle.std.proofs.lemmas.List.{drop-drop, take_rest, take-append-drop}

-- what is left at a place is a piece, and then what is left after it
pub drop_split : (place count : ℕ) (xs : List ℕ) → drop place xs ≡ take count (drop place xs) ++ drop (place + count) xs
drop_split place count xs = rw (← drop-drop count place xs) (sym (take-append-drop count (drop place xs)))

-- a piece that was copied out of a list from a place on is the prefix of what was left there
pub copied_split : (place count : ℕ) (items now piece : List ℕ) → now ≡ items → piece ≡ take count (take (length now - place) (drop place now)) → drop place items ≡ piece ++ drop (place + count) items
copied_split place count items now piece same copied =
    let prefix : piece ≡ take count (drop place items) = copied ∙ ap (take count) (take_rest now place ∙ ap (drop place) same) in
    drop_split place count items ∙ ap (λ l. l ++ drop (place + count) items) (sym prefix)
