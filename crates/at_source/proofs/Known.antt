-- Content that is known, or isn't, and grows or is taken piece by piece.
use Rattle.std.proofs.Common.{◌≡◌, ◌∙◌, ap, sym, refl, ℕ, ◌+◌, ◌-◌, List, [], ◌++◌, take, drop, length, append_assoc, Option, Some, None, append-nil}
use Rattle.std.proofs.lemmas.List.{take_rest}
use Rattle.std.proofs.Math.Seq.{take-add}
use Rattle.std.specs.Io.KnownBytes.{append_known, prepend_known}

-- what grew twice grew by both pieces
pub append_known-append : (known : Option (List ℕ)) (xs ys : List ℕ) → append_known (append_known known xs) ys ≡ append_known known (xs ++ ys)
append_known-append None xs ys = refl
append_known-append (Some bytes) xs ys = ap Some (append_assoc bytes xs ys)

-- what grew by nothing is the same
pub append_known-nil : (known : Option (List ℕ)) → append_known known [] ≡ known
append_known-nil None = refl
append_known-nil (Some bytes) = ap Some (append-nil bytes)

-- what lost two pieces lost both
pub prepend_known-append : (xs ys : List ℕ) (known : Option (List ℕ)) → prepend_known xs (prepend_known ys known) ≡ prepend_known (xs ++ ys) known
prepend_known-append xs ys None = refl
prepend_known-append xs ys (Some bytes) = ap Some (sym (append_assoc xs ys bytes))

-- a prefix was written, and then a prefix of what stands after it
pub sent_more : (a b c : Option (List ℕ)) (n m : ℕ) (bytes : List ℕ) → b ≡ append_known a (take n bytes) → c ≡ append_known b (take m (take (length bytes - n) (drop n bytes))) → c ≡ append_known a (take (n + m) bytes)
sent_more a b c n m bytes first second =
    second ∙ ap (λ l. append_known b (take m l)) (take_rest bytes n) ∙ ap (λ o. append_known o (take m (drop n bytes))) first ∙ append_known-append a (take n bytes) (take m (drop n bytes))
    ∙ ap (append_known a) (sym (take-add n m bytes))

-- a prefix was read, and then more after it
pub read_more : (a b c : Option (List ℕ)) (n m : ℕ) (before now : List ℕ) → a ≡ prepend_known (take n before) b → take n now ≡ take n before → b ≡ prepend_known (take m (drop n now)) c → a ≡ prepend_known (take (n + m) now) c
read_more a b c n m before now first same second =
    first ∙ ap (λ l. prepend_known l b) (sym same) ∙ ap (prepend_known (take n now)) second ∙ prepend_known-append (take n now) (take m (drop n now)) c ∙ ap (λ l. prepend_known l c) (sym (take-add n m now))
