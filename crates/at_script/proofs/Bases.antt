-- The classes of bases, one word after another.
use Rattle.std.proofs.Common.{ℕ, suc, ◌+◌, ◌≤◌, arith, List, [], ◌∷◌, ◌++◌, length, Result, Ok, Err, length-append}
use Rattle.std.specs.Prelude.{IfOk}
use Rattle.at_script.specs.declared.fault.LineFault.{LineFault}
use Rattle.at_script.specs.Reading.{both_of}
use Rattle.at_script.specs.Taking.{mapped}

-- there is room for one class less where one more is there
pub room_left : (most n : ℕ) (bases : Result (List ℕ) LineFault) (class : Result ℕ LineFault) → IfOk bases (λ cs. length cs + suc n ≤ most) → IfOk (mapped (λ (p : List ℕ × ℕ). p.0 ++ p.1 ∷ []) (both_of bases class)) (λ cs. length cs + n ≤ most)
room_left most n (Ok cs) (Ok c) h = omega (arith, length-append cs (c ∷ []))
room_left most n (Ok cs) (Err f) h = tt
room_left most n (Err f) (Ok c) h = tt
room_left most n (Err f) (Err g) h = tt
