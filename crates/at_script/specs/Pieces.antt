-- The parts of a word, and lists of one and two parts.
use Rattle.std.specs.Prelude.{ℕ, ◌==◌, ◌+◌, List, [], ◌∷◌, take, drop, Option, Some, None, position}
use Rattle.std.specs.Option.{option_map}

-- what stands before the first of these bytes, and what stands after it, where there is one
abbrev pub halves : ℕ → List ℕ → Option (List ℕ × List ℕ)
halves byte word = option_map (λ i. (take i word, drop (i + 1) word)) (position (λ b. b == byte) word)

-- the one element, where there is one
abbrev pub one_part : {X : Type 0} → List X → Option X
one_part [] = None
one_part (x ∷ []) = Some x
one_part (x ∷ y ∷ rest) = None

-- an element before the one that follows
abbrev pub two_with : {X : Type 0} → X → Option X → Option (X × X)
two_with x None = None
two_with x (Some y) = Some (x, y)

-- the two elements, where there are two
abbrev pub two_parts : {X : Type 0} → List X → Option (X × X)
two_parts [] = None
two_parts (x ∷ rest) = two_with x (one_part rest)
