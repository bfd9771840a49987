-- A finite map from numbers, as its pairs by rising number.
use Rattle.std.specs.Prelude.{ℕ, suc, ◌≡◌, ◌≢◌, ◌==◌, ◌<◌, nat_lt, List, [], ◌∷◌, Option, Some, None, if◌then◌else◌}

-- what stands under the number
abbrev pub value_at : {V : Type 0} → ℕ → List (ℕ × V) → Option V
value_at n [] = None
value_at n (pair ∷ pairs) = if pair.0 == n then Some pair.1 else value_at n pairs

-- the map with this value under the number, and all else as it was
abbrev pub with_value : {V : Type 0} → ℕ → V → List (ℕ × V) → List (ℕ × V)
with_value n v [] = (n, v) ∷ []
with_value n v (pair ∷ pairs) =
    if nat_lt pair.0 n
    then pair ∷ with_value n v pairs
    else if pair.0 == n then (n, v) ∷ pairs else (n, v) ∷ pair ∷ pairs

-- the map without the number
abbrev pub without : {V : Type 0} → ℕ → List (ℕ × V) → List (ℕ × V)
without n [] = []
without n (pair ∷ pairs) = if pair.0 == n then pairs else pair ∷ without n pairs

-- the index of the first number from n on, and the length where there is none
abbrev pub place_in : {V : Type 0} → ℕ → List (ℕ × V) → ℕ
place_in n [] = 0
place_in n (pair ∷ pairs) = if nat_lt pair.0 n then suc (place_in n pairs) else 0

-- each number is above n
abbrev pub AreAbove : {V : Type 0} → ℕ → List (ℕ × V) → Type 0
AreAbove n [] = Unit {0}
AreAbove n (pair ∷ pairs) = (n < pair.0) × AreAbove n pairs

-- each number is below all that follow it
abbrev pub IsRising : {V : Type 0} → List (ℕ × V) → Type 0
IsRising [] = Unit {0}
IsRising (pair ∷ pairs) = AreAbove pair.0 pairs × IsRising pairs

-- What is true of every map: a change is read back at its number and nowhere else, and the numbers stay rising.
pub record MapLaws (V : Type 0) : Type 0 where
  pub put_here : (n : ℕ) (v : V) (pairs : List (ℕ × V)) → value_at n (with_value n v pairs) ≡ Some v
  pub put_elsewhere : (m n : ℕ) (v : V) (pairs : List (ℕ × V)) → m ≢ n → value_at m (with_value n v pairs) ≡ value_at m pairs
  pub put_rising : (n : ℕ) (v : V) (pairs : List (ℕ × V)) → IsRising pairs → IsRising (with_value n v pairs)
  pub cut_here : (n : ℕ) (pairs : List (ℕ × V)) → IsRising pairs → value_at n (without n pairs) ≡ None
  pub cut_elsewhere : (m n : ℕ) (pairs : List (ℕ × V)) → m ≢ n → value_at m (without n pairs) ≡ value_at m pairs
  pub cut_rising : (n : ℕ) (pairs : List (ℕ × V)) → IsRising pairs → IsRising (without n pairs)
