-- What slices contain, as one of them is replaced.
use Rattle.std.proofs.Common.{◌≡◌, ◌∙◌, ap, sym, ℕ, ◌<◌, ◌+◌, List, ◌++◌, map, take, drop, length, get_or, set, arith}
use Rattle.std.specs.Borrow.{Bor}
use Rattle.std.proofs.lemmas.List.{length-map, map-set, get_or-map}
use Rattle.std.proofs.lemmas.List.Edits.{map_over_more}
use Rattle.at_c3.specs.Merge.{without_head}
use Rattle.at_c3.specs.Slices.{contents}

-- the slices before i are without the head, and now the one at i is too
pub contents_more : (c : ℕ) (was now : List (Bor (List ℕ))) (i : ℕ) (rest d : Bor (List ℕ)) → i < length was → length now ≡ length was
    → contents now ≡ map (without_head c) (take i (contents was)) ++ drop i (contents was)
    → rest.now ≡ without_head c (get_or now i d).now
    → contents (set now i rest) ≡ map (without_head c) (take (i + 1) (contents was)) ++ drop (i + 1) (contents was)
contents_more c was now i rest d within same so_far is_rest =
    let within_was : i < length (contents was) = omega (arith, length-map was (λ (slice : Bor (List ℕ)). slice.now)) in
    let within_now : i < length now = omega arith in
    map-set (λ slice. slice.now) now i rest
    ∙ ap (set (contents now) i) is_rest
    ∙ map_over_more (without_head c) (contents was) (contents now) i (get_or now i d).now within_was so_far
    (sym (get_or-map (λ slice. slice.now) now i d (get_or now i d).now within_now))
