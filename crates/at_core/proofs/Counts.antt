-- Counts of numbers, births and places.
use Rattle.std.proofs.Common.{◌≡◌, ◌≢◌, ℕ, suc, ◌+◌, ◌*◌, ◌<◌, ◌≤◌, ◌==◌, Bool, true, false, cond, List, [], ◌∷◌, ◌++◌, length, get_or, set, eq-eqb, ne_eqb, refl, sym, ap, ◌∙◌, subst, arith, get_or-set_same, get_or-set_other}
use Rattle.std.specs.Prelude.{Some, None, count_by, nat_lt, if◌then◌else◌}
use Rattle.std.specs.List.{position_or_len}
use Rattle.std.proofs.lemmas.Bool.{eqb-true}
use Rattle.std.proofs.lemmas.List.Sums.{sum_by-cons, sum_by-append, sum_by-set}
use mathlib.Core.Logic.{dite}
use native.Mathlib.Decide.{ℕ_discrete}
use Rattle.at_types.specs.Tags.{times}
use Rattle.at_core.specs.Rule.{weight}
use Rattle.at_core.specs.Steps.{without, next_number}

pub at_most_one : (b : Bool) → weight b ≤ 1
at_most_one true = omega arith
at_most_one false = omega arith

pub weight_same : (n : ℕ) → weight (n == n) ≡ 1
weight_same n = ap weight (eq-eqb n n refl)

pub weight_other : (m n : ℕ) → m ≢ n → weight (m == n) ≡ 0
weight_other m n ne = ap weight (ne_eqb m n ne)

pub weight_some : (b : Bool) → 0 < weight b → b ≡ true
weight_some true h = refl
weight_some false h = absurd (omega arith)

pub times_cons : (n m : ℕ) (ms : List ℕ) → times n (m ∷ ms) ≡ weight (m == n) + times n ms
times_cons n m ms = sum_by-cons (λ t. weight (t == n)) m ms

pub times_append : (n : ℕ) (xs ys : List ℕ) → times n (xs ++ ys) ≡ times n xs + times n ys
times_append n xs ys = sum_by-append (λ t. weight (t == n)) xs ys

-- a number that stands in the list is left out once
pub times_without : (b n : ℕ) (ms : List ℕ) → 0 < times n ms → times b (without n ms) + weight (n == b) ≡ times b ms
times_without b n [] h = absurd (omega arith)
times_without b n (m ∷ ms) h = by_test (m == n) refl (λ more. times_without b n ms more)
  where
    by_test : (t : Bool) → (m == n) ≡ t → (0 < times n ms → times b (without n ms) + weight (n == b) ≡ times b ms) → times b (without n (m ∷ ms)) + weight (n == b) ≡ times b (m ∷ ms)
    by_test true e later =
        let same : times b (without n (m ∷ ms)) ≡ times b ms = ap (λ (t : Bool). times b (if t then ms else m ∷ without n ms)) e in
        let one : weight (m == b) ≡ weight (n == b) = ap (λ (k : ℕ). weight (k == b)) (eqb-true m n e) in
        let c = times_cons b m ms in
        omega arith
    by_test false e later =
        let same : times b (without n (m ∷ ms)) ≡ times b (m ∷ without n ms) = ap (λ (t : Bool). times b (if t then ms else m ∷ without n ms)) e in
        let none : weight (m == n) ≡ 0 = ap weight e in
        let c = times_cons b m ms in
        let d = times_cons b m (without n ms) in
        let k = times_cons n m ms in
        let r = later (omega arith) in
        omega arith

-- The least free number

one_more : (n : ℕ) → 1 + n ≡ suc n
one_more n = omega arith

first_true : (bs : List Bool) → position_or_len (λ b. b) bs < length bs → get_or bs (position_or_len (λ b. b) bs) false ≡ true
first_true [] lt = absurd (omega arith)
first_true (true ∷ bs) lt = refl
first_true (false ∷ bs) lt =
    let n = position_or_len (λ b. b) bs in
    ap (λ (k : ℕ). get_or (false ∷ bs) k false) (one_more n) ∙ first_true bs (omega arith)

-- it is free, and below the length
pub record IsFree (numbers : List Bool) (n : ℕ) : Type 0 where
  pub below : n < length numbers
  pub free : get_or numbers n false ≡ true

some_is : (m n : ℕ) → Some m ≡ Some n → m ≡ n
some_is m n e = cc (e)

none_some : {Q : Type 0} (n : ℕ) → None ≡ Some n → Q
none_some n e = absurd (cc (e))

pub next_is_free : (numbers : List Bool) (n : ℕ) → next_number numbers ≡ Some n → IsFree numbers n
next_is_free numbers n e = by_test (position_or_len (λ b. b) numbers) refl (nat_lt (position_or_len (λ b. b) numbers) (length numbers)) refl
  where
    by_test : (k : ℕ) → position_or_len (λ b. b) numbers ≡ k → (t : Bool) → nat_lt (position_or_len (λ b. b) numbers) (length numbers) ≡ t → IsFree numbers n
    by_test k k_is true lt =
        let is : position_or_len (λ b. b) numbers ≡ n = some_is (position_or_len (λ b. b) numbers) n (sym (ap (λ (t : Bool). cond t (Some (position_or_len (λ b. b) numbers)) None) lt) ∙ e) in
        let below : position_or_len (λ b. b) numbers < length numbers = grind (arith, lt) in
        subst (IsFree numbers) is (record { below = below; free = first_true numbers below })
    by_test k k_is false ge = none_some n (sym (ap (λ (t : Bool). cond t (Some (position_or_len (λ b. b) numbers)) None) ge) ∙ e)

-- a number that is taken or freed
pub weight_set : (numbers : List Bool) (n k : ℕ) (b : Bool) → n < length numbers → weight (get_or (set numbers n b) k false) + weight (n == k) * weight (get_or numbers n false) ≡ weight (get_or numbers k false) + weight (n == k) * weight b
weight_set numbers n k b lt = dite (ℕ_discrete k n)
    (λ (e : k ≡ n).
    let here : weight (get_or (set numbers n b) k false) ≡ weight b = ap (λ (j : ℕ). weight (get_or (set numbers n b) j false)) e ∙ ap weight (get_or-set_same numbers n b false lt) in
    let one : weight (n == k) ≡ 1 = ap weight (eq-eqb n k (sym e)) in
    let was : weight (get_or numbers k false) ≡ weight (get_or numbers n false) = ap (λ (j : ℕ). weight (get_or numbers j false)) e in
    let m = ap (λ (j : ℕ). j * weight (get_or numbers n false)) one in
    let m' = ap (λ (j : ℕ). j * weight b) one in
    omega arith)
    (λ (ne : k ≢ n).
    let same : weight (get_or (set numbers n b) k false) ≡ weight (get_or numbers k false) = ap weight (get_or-set_other numbers n k b false ne) in
    let none : weight (n == k) ≡ 0 = weight_other n k (λ e. ne (sym e)) in
    let m = ap (λ (j : ℕ). j * weight (get_or numbers n false)) none in
    let m' = ap (λ (j : ℕ). j * weight b) none in
    omega arith)

pub count_set_free : (numbers : List Bool) (n : ℕ) (b : Bool) → n < length numbers → count_by (λ free. free) (set numbers n b) + weight (get_or numbers n false) ≡ count_by (λ free. free) numbers + weight b
count_set_free numbers n b lt = sum_by-set (λ free. weight free) numbers n b false lt
