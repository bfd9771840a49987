-- What a merge that takes no memory counts and puts together.
use Rattle.std.proofs.Common.{◌≡◌, ℕ, zero, suc, ◌+◌, ◌<◌, ◌≤◌, List, [], ◌∷◌, ◌++◌, drop, take, get_or, length, All, subst, sym, arith, length-append, length-drop}
use Rattle.std.specs.Borrow.{Bor}
use Rattle.std.specs.List.{concat}
use Rattle.std.proofs.lemmas.List.Elements.{All-nil, All-cons, All-head, All-tail}
use Rattle.smallvec.specs.SmallVec.{SmallVec, small_vec_len, HasRoomFor}
use Rattle.at_c3.specs.Counts.{tail_numbers}
use Rattle.at_c3.specs.Slices.{contents}
use Rattle.at_c3.specs.Room.{list_room, AreSmall, TakesNoMemory}

module _ {X : Type 0} (P : X → Type 0) where
  -- what is true of all of two lists is true of each
  all_left : (xs ys : List X) → All P (xs ++ ys) → All P xs
  all_left [] ys all = All-nil P
  all_left (x ∷ xs) ys all = All-cons P x xs (All-head P x (xs ++ ys) all) (all_left xs ys (All-tail P x (xs ++ ys) all))

  all_right : (xs ys : List X) → All P (xs ++ ys) → All P ys
  all_right [] ys all = all
  all_right (x ∷ xs) ys all = all_right xs ys (All-tail P x (xs ++ ys) all)

-- what is true of the numbers in all tails is true of those in one
pub all_of_tail : (P : ℕ → Type 0) (slices : List (Bor (List ℕ))) (i : ℕ) (d : Bor (List ℕ)) → i < length slices → All P (tail_numbers (contents slices)) → All P (drop 1 (get_or slices i d).now)
all_of_tail P [] i d below all = absurd (omega arith)
all_of_tail P (s ∷ ss) zero d below all = all_left P (drop 1 s.now) (tail_numbers (contents ss)) all
all_of_tail P (s ∷ ss) (suc i) d below all = all_of_tail P ss i d (omega arith) (all_right P (drop 1 s.now) (tail_numbers (contents ss)) all)

-- the numbers in the tails up to one are no more than those in all
pub tails_so_far : (slices : List (Bor (List ℕ))) (i : ℕ) (d : Bor (List ℕ)) → i < length slices
    → length (tail_numbers (contents (take i slices))) + length (drop 1 (get_or slices i d).now) ≤ length (tail_numbers (contents slices))
tails_so_far [] i d below = absurd (omega arith)
tails_so_far (s ∷ ss) zero d below = omega (arith, length-append (drop 1 s.now) (tail_numbers (contents ss)))
tails_so_far (s ∷ ss) (suc i) d below =
    omega (arith, tails_so_far ss i d (omega arith), length-append (drop 1 s.now) (tail_numbers (contents (take i ss))), length-append (drop 1 s.now) (tail_numbers (contents ss)))

-- the tails have no more numbers than the lists
pub tails_shorter : (lists : List (List ℕ)) → length (tail_numbers lists) ≤ length (concat lists)
tails_shorter [] = omega arith
tails_shorter (list ∷ lists) =
    omega (arith, length-drop 1 list, tails_shorter lists, length-append (drop 1 list) (tail_numbers lists), length-append list (concat lists))

-- one list has no more numbers than all
pub one_no_longer : (slices : List (Bor (List ℕ))) (i : ℕ) (d : Bor (List ℕ)) → i < length slices → length (get_or slices i d).now ≤ length (concat (contents slices))
one_no_longer [] i d below = absurd (omega arith)
one_no_longer (s ∷ ss) zero d below = omega (arith, length-append s.now (concat (contents ss)))
one_no_longer (s ∷ ss) (suc i) d below = omega (arith, one_no_longer ss i d (omega arith), length-append s.now (concat (contents ss)))

-- where there was room for the numbers that were left, there is room for those that are left now
pub room_goes_on : (old new : SmallVec ℕ) (n n' : ℕ) → HasRoomFor old n → small_vec_len new ≡ small_vec_len old + 1 → (HasRoomFor old 1 → new.capacity ≡ old.capacity) → n' < n → HasRoomFor new n'
room_goes_on old new n n' room len same less = let capacity = same (omega arith) in omega arith

-- what follows where a merge after n numbers has room
pub merge_room : {P : Type 0} (merged : SmallVec ℕ) (n most : ℕ) (lists given : List (List ℕ)) → lists ≡ given → TakesNoMemory n given → small_vec_len merged ≡ n → list_room ≤ merged.capacity → list_room ≤ most
    → (HasRoomFor merged (length (concat lists)) → length (concat lists) ≤ most → AreSmall lists → P) → P
merge_room merged n most lists given same fits len room large then =
    let few : n + length (concat lists) ≤ list_room = subst (λ ls. n + length (concat ls) ≤ list_room) (sym same) fits.short in
    then (omega arith) (omega arith) (subst AreSmall (sym same) fits.small)
