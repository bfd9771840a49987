-- How a put and a cut change the number of names and of spare places.
use Rattle.std.proofs.Common.{ℕ, ◌≡◌, ◌<◌, ◌≤◌, ◌+◌, ◌-◌, ◌⊎◌, inl, inr, List, [], ◌∷◌, length, IsSome, is_some, IsOk, OnOk, Result, Ok, Err, Bool, true, false, ap, sym, ◌∙◌, if◌then◌else◌, arith, refl}
use Rattle.at_value.specs.Pairs.{value_at, with_value, without, IsRising}
use Rattle.at_value.proofs.Maps.{by_order, value_at-above}

-- a name that isn't there makes the map one longer
pub length-with_value : {V : Type 0} (n : ℕ) (v : V) (pairs : List (ℕ × V)) → IsRising pairs → length (with_value n v pairs) ≡ length pairs + (if is_some (value_at n pairs) then 0 else 1)
length-with_value n v [] h = refl
length-with_value n v (p ∷ ps) h =
    by_order p.0 n (λ lt ne _. rw (lt, ne) (omega (arith, length-with_value n v ps h.1))) (λ ge e _. rw (ge, e) (omega arith))
    (λ ge ne gt. let none = value_at-above p.0 n ps h.0 (omega arith) in rw (ge, ne, none) (omega arith))

-- what an `Ok` promises
promised : {T E : Type 0} {P : Type 0} (r : Result T E) → IsOk r → OnOk r P → P
promised (Ok x) is_ok h = h
promised (Err e) is_ok h = absurd (cc)

-- the capacity stays, and the length grows by one or stays
left_over : (there : Bool) (room room' len len' : ℕ) → room' ≡ room → len' ≡ len + (if there then 0 else 1) → room' - len' ≡ (if there then room - len else room - len - 1)
left_over true room room' len len' same e = omega arith
left_over false room room' len len' same e = omega arith

-- A put into a vector with room takes one spare place for a name that isn't there and none for a name that is there.
pub spare-after_put : {V E : Type 0} (n : ℕ) (v : V) (old new : List (ℕ × V)) (room room' len len' : ℕ) (r : Result (Unit {0}) E) → IsRising old
    → len ≡ length old → len' ≡ length new → OnOk r (new ≡ with_value n v old) → (IsSome (value_at n old) → IsOk r × (room' ≡ room)) → (len < room → IsOk r × (room' ≡ room))
    → IsSome (value_at n old) ⊎ (0 < room - len) → room' - len' ≡ (if is_some (value_at n old) then room - len else room - len - 1)
spare-after_put {V} n v old new room room' len len' r rising at_first at_last ok there free h =
    let fits : IsOk r × (room' ≡ room) = elim h [ inl found ↦ there found | inr left ↦ free (omega arith) ] in
    let longer : length new ≡ length old + (if is_some (value_at n old) then 0 else 1) = ap length (promised r fits.0 ok) ∙ length-with_value n v old rising in
    left_over (is_some (value_at n old)) room room' len len' fits.1 (at_last ∙ longer ∙ ap (λ k. k + (if is_some (value_at n old) then 0 else 1)) (sym at_first))

-- without a name that is there the map is one shorter
length-without : {V : Type 0} (n : ℕ) (pairs : List (ℕ × V)) → length pairs ≡ length (without n pairs) + (if is_some (value_at n pairs) then 1 else 0)
length-without n [] = refl
length-without n (p ∷ ps) =
    by_order p.0 n (λ _ ne _. rw ne (omega (arith, length-without n ps))) (λ _ e _. rw e (omega arith)) (λ _ ne _. rw ne (omega (arith, length-without n ps)))

-- the capacity stays, and the length falls by one or stays
given_back : (there : Bool) (room len len' : ℕ) → len ≤ room → len ≡ len' + (if there then 1 else 0) → room - len' ≡ (if there then room - len + 1 else room - len)
given_back true room len len' fits e = omega arith
given_back false room len len' fits e = omega arith

-- A cut of a vector that keeps its memory leaves one spare place more for a name that is there.
pub spare-after_cut : {V : Type 0} (n : ℕ) (old new : List (ℕ × V)) (room room' len len' : ℕ) → len ≡ length old → len' ≡ length new → len ≤ room → room' ≡ room → new ≡ without n old
    → room' - len' ≡ (if is_some (value_at n old) then room - len + 1 else room - len)
spare-after_cut n old new room room' len len' at_first at_last fits same cut =
    let shorter : len ≡ len' + (if is_some (value_at n old) then 1 else 0) =
    at_first ∙ length-without n old ∙ ap (λ k. k + (if is_some (value_at n old) then 1 else 0)) (sym (at_last ∙ ap length cut)) in
    ap (λ k. k - len') same ∙ given_back (is_some (value_at n old)) room len len' fits shorter
