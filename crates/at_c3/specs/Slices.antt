-- private: about a type of the code; no public clause cites it. What slices contain.
use Rattle.std.specs.Prelude.{ℕ, List, map}
use Rattle.std.specs.Borrow.{Bor}

abbrev pub contents : List (Bor (List ℕ)) → List (List ℕ)
contents slices = map (λ slice. slice.now) slices
