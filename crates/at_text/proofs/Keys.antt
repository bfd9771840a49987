-- Keys that sort names as the bytes of their texts do.
use Rattle.std.proofs.Common.{◌≡◌, ◌≢◌, ◌∙◌, ap, sym, refl, ℕ, zero, suc, ◌+◌, ◌-◌, ◌<◌, ◌≤◌, List, [], ◌∷◌, ◌++◌, length, get_or, set, replicate, take, arith, false, subst, ◌⊎◌, inl, inr, slice_get, slice_index, get_or-set_same, get_or-set_other, zero-add, Some, map}
use Rattle.std.specs.List.{range_with_len, Contains, All}
use Rattle.std.specs.List.Sorted.{IsPermutation, IsSortedBy, IsNonDecreasingBy}
use Rattle.std.specs.declared.cmp.Ordering.{Ordering}
use Rattle.std.specs.declared.cmp.Ordering.TheVariants.{Less, Equal, Greater}
use Rattle.std.specs.Ordering.{ordering_reverse, is_gt, is_lt}
use Rattle.std.proofs.lemmas.Bool.Decides.{eqb_tells}
use Rattle.std.proofs.lemmas.List.FromFn.{length-range_with_len, get_or-range_with_len}
use Rattle.std.proofs.lemmas.List.Sorted.{Contains-permutation, All-permutation, length_permutation, sorted_far, ranks_by, IsPermutation-map}
use Rattle.std.proofs.lemmas.List.{get_or_default, map_more, map-id, get_or-map, length-map}
use Rattle.std.proofs.lemmas.Simd.{map-map}
use Rattle.std.proofs.lemmas.List.Elements.{All-more, All-map}
use Rattle.std.proofs.lemmas.Option.{slice_get_within, get_or_from_slice_get}
use Rattle.at_value.specs.declared.value.Value.{Value}
use Rattle.at_value.specs.Pairs.{AreAbove, IsRising}
use Rattle.at_text.specs.Order.{name_cmp, IsUpto, keyed, pair_of, AreGiven}
use Rattle.at_text.proofs.ByBytes.{name_cmp_total}

-- one more number
pub range_with_len_more : (a n : ℕ) → range_with_len a (n + 1) ≡ range_with_len a n ++ (a + n) ∷ []
range_with_len_more a zero = let e : a ≡ a + 0 = omega arith in ap (λ m. m ∷ []) e
range_with_len_more a (suc n) =
    let more : suc n + 1 ≡ suc (n + 1) = omega arith in
    let last : a + 1 + n ≡ a + suc n = omega arith in
    ap (range_with_len a) more ∙ ap (λ l. a ∷ l) (range_with_len_more (a + 1) n ∙ ap (λ m. range_with_len (a + 1) n ++ m ∷ []) last)

-- the numbers of a range are below its end
pub range_below : (n : ℕ) → All (λ m. m < n) (range_with_len 0 n)
range_below n = λ k d within.
    let low : k < n = omega (arith, within, length-range_with_len 0 n) in
    omega (arith, get_or-range_with_len 0 n k d low)

-- the number at a place of rising numbers is at least the place
pub place_upto : (n : ℕ) (xs : List (ℕ × Value)) → AreAbove n xs → IsRising xs → (i : ℕ) (d : ℕ × Value) → i < length xs → n + i < (get_or xs i d).0
place_upto n [] above rising i d within = absurd (omega arith)
place_upto n (x ∷ xs) above rising zero d within = omega (arith, above.0)
place_upto n (x ∷ xs) above rising (suc i) d within =
    omega (arith, above.0, place_upto x.0 xs rising.0 rising.1 i d (omega arith))

pub place_below : (xs : List (ℕ × Value)) → IsRising xs → (i : ℕ) (d : ℕ × Value) → i < length xs → i ≤ (get_or xs i d).0
place_below [] rising i d within = absurd (omega arith)
place_below (x ∷ xs) rising zero d within = omega arith
place_below (x ∷ xs) rising (suc i) d within = omega (arith, place_upto x.0 xs rising.0 rising.1 i d (omega arith))

zero_at : (n m : ℕ) → ◌≡◌ {A = ℕ} (get_or (replicate n 0) m 0) 0
zero_at zero m = refl
zero_at (suc n) zero = refl
zero_at (suc n) (suc m) = zero_at n m

-- no key is given at first
pub given_none : (sorted : List ℕ) (n : ℕ) → AreGiven 0 sorted (replicate n 0)
given_none sorted n =
    let none : (m : ℕ) → 0 < slice_index (replicate n 0) m → ⊥ = λ m high. omega (arith, zero_at n m) in
    record {
      all = λ k below. absurd (omega arith);
      within = λ m high. absurd (none m high);
      places = λ m high. absurd (none m high);
    }

-- what a number has after the key of n was written
after_write : (keys : List ℕ) (n key m : ℕ) → n < length keys → ((m ≡ n) × (slice_index (set keys n key) m ≡ key)) ⊎ ((m ≢ n) × (slice_index (set keys n key) m ≡ slice_index keys m))
after_write keys n key m within =
    elim (eqb_tells m n) [
      | inl same ↦ inl (same.1, ap (λ k. slice_index (set keys n key) k) same.1 ∙ get_or-set_same keys n key 0 within)
      | inr other ↦ inr (other.1, get_or-set_other keys n m key 0 other.1)
    ]

-- one more key is given
pub given_more : (sorted keys : List ℕ) (i n key : ℕ) → n < length keys → n ≡ slice_index sorted i → key ≡ i + 1 → AreGiven i sorted keys → AreGiven (i + 1) sorted (set keys n key)
given_more sorted keys i n key within at is given =
    let written = λ (m : ℕ). after_write keys n key m within in
    record {
      all = λ k below.
          elim (written (slice_index sorted k)) [
            | inl new ↦ omega (arith, new.1)
            | inr same ↦
                elim (eqb_tells k i) [
                  | inl last ↦ absurd (same.0 (ap (slice_index sorted) last.1 ∙ sym at))
                  | inr before ↦ (let low : k < i = omega (arith, before.1) in omega (arith, same.1, given.all k low))
                ]
          ];
      within = λ m high.
          elim (written m) [
            | inl new ↦ omega (arith, new.1)
            | inr same ↦ (let old : 0 < slice_index keys m = omega (arith, same.1) in omega (arith, same.1, given.within m old))
          ];
      places = λ m high.
          elim (written m) [
            | inl new ↦ (let place : slice_index (set keys n key) m - 1 ≡ i = omega (arith, new.1) in ap (slice_index sorted) place ∙ sym at ∙ sym new.0)
            | inr same ↦
                (let old : 0 < slice_index keys m = omega (arith, same.1) in ap (λ k. slice_index sorted (k - 1)) same.1 ∙ given.places m old)
          ];
    }

-- how many numbers are in the order of another list of them
pub range_length : {n : ℕ} {sorted : List ℕ} → IsPermutation (range_with_len 0 n) sorted → length sorted ≡ n
range_length {n} {sorted} same = length_permutation (range_with_len 0 n) sorted same ∙ length-range_with_len 0 n

-- each number has a key
key_given : (n : ℕ) (sorted keys : List ℕ) → IsPermutation (range_with_len 0 n) sorted → AreGiven n sorted keys → (a : ℕ) → a < n → 0 < slice_index keys a
key_given n sorted keys same given a low =
    let there : Contains (range_with_len 0 n) a = (a, omega (arith, length-range_with_len 0 n), get_or-range_with_len 0 n a a low ∙ zero-add a) in
    let found = Contains-permutation (range_with_len 0 n) sorted a same there in
    let is : slice_index sorted found.0 ≡ a = get_or_default sorted found.0 0 a found.1 ∙ found.2 in
    let within : found.0 < n = omega (arith, found.1, range_length same) in
    omega (arith, ap (slice_index keys) is, given.all found.0 within)

is_upto_if : (o : Ordering) → is_lt (ordering_reverse o) ≡ false → is_gt o ≡ false
is_upto_if Less is = refl
is_upto_if Equal is = refl
is_upto_if Greater is = cc

-- the names of a sorted list come one after another
places_upto : (texts : List (List ℕ)) (sorted : List ℕ) → IsSortedBy (λ a b. is_lt (name_cmp texts a b)) sorted → (i j : ℕ) → i ≤ j → j < length sorted → IsUpto texts (slice_index sorted i) (slice_index sorted j)
places_upto texts sorted up i j low within =
    let total = name_cmp_total texts in
    let far = sorted_far (λ a b. is_lt (name_cmp texts a b)) (ranks_by total (λ (n : ℕ). n)) sorted up i j 0 low within in
    is_upto_if (name_cmp texts (slice_index sorted i) (slice_index sorted j)) (ap is_lt (sym (total.antisymm (slice_index sorted j) (slice_index sorted i))) ∙ far)

-- keys that were given to all names sort them
pub keys_sort : (n : ℕ) (texts : List (List ℕ)) (sorted keys : List ℕ) → IsPermutation (range_with_len 0 n) sorted → IsSortedBy (λ a b. is_lt (name_cmp texts a b)) sorted → AreGiven n sorted keys → (a b : ℕ) → a < n → b < n → slice_index keys a ≤ slice_index keys b → IsUpto texts a b
keys_sort n texts sorted keys same up given a b low low' order =
    let high = key_given n sorted keys same given a low in
    let high' = key_given n sorted keys same given b low' in
    let i = slice_index keys a - 1 in
    let j = slice_index keys b - 1 in
    let up_to : i ≤ j = omega (arith, order, high, high') in
    let within : j < length sorted = omega (arith, given.within b high', range_length same) in
    let upto = places_upto texts sorted up i j up_to within in
    subst (λ m. IsUpto texts m b) (given.places a high) (subst (λ m. IsUpto texts (slice_index sorted i) m) (given.places b high') upto)

-- the pair at a place of a map stands under a number that is at least the place
pub pair_at : (own : List (ℕ × Value)) (i : ℕ) (pair : ℕ × Value) → slice_get own i ≡ Some pair → get_or own i pair ≡ pair
pair_at own i pair there = get_or_from_slice_get own i pair pair there

pub place_upto_pair : (own : List (ℕ × Value)) (i : ℕ) (pair : ℕ × Value) → IsRising own → slice_get own i ≡ Some pair → i ≤ pair.0
place_upto_pair own i pair rising there =
    let below = place_below own rising i pair (slice_get_within own i pair there) in
    subst (λ (p : ℕ × Value). i ≤ p.0) (pair_at own i pair there) below

-- one more pair is taken in
pub map_taken : {Y : Type 0} (f : ℕ × Value → Y) (own : List (ℕ × Value)) (i : ℕ) (pair : ℕ × Value) → slice_get own i ≡ Some pair → map f (take i own) ++ f pair ∷ [] ≡ map f (take (i + 1) own)
map_taken f own i pair there =
    ap (λ p. map f (take i own) ++ f p ∷ []) (sym (pair_at own i pair there)) ∙ sym (map_more f own i pair (slice_get_within own i pair there))

pub range_taken : (P : ℕ × Value → Type 0) (own : List (ℕ × Value)) (i : ℕ) (pair : ℕ × Value) → slice_get own i ≡ Some pair → P pair → All P (take i own) → All P (take (i + 1) own)
range_taken P own i pair there is all =
    All-more P own i pair (slice_get_within own i pair there) all (subst P (sym (pair_at own i pair there)) is)

-- the pairs in another order, without their keys
pub sorted_same : (keys : List ℕ) (own : List (ℕ × Value)) (entries : List (ℕ × ℕ × Value)) → IsPermutation (map (keyed keys) own) entries → IsPermutation own (map pair_of entries)
sorted_same keys own entries same =
    let P : List (ℕ × Value) → Type 0 = λ l. IsPermutation l (map pair_of entries) in
    subst P (map-map pair_of (keyed keys) own ∙ map-id own) (IsPermutation-map pair_of (map (keyed keys) own) entries same)

keyed_right : (keys : List ℕ) (own : List (ℕ × Value)) → All (λ e. e.0 ≡ slice_index keys e.1) (map (keyed keys) own)
keyed_right keys own = All-map (λ e. e.0 ≡ slice_index keys e.1) (keyed keys) own (λ k d within. refl)

-- entries by rising keys are pairs by rising keys of their names
pub sorted_up : (keys : List ℕ) (own : List (ℕ × Value)) (entries : List (ℕ × ℕ × Value)) → IsPermutation (map (keyed keys) own) entries → IsNonDecreasingBy (λ e. e.0) entries → IsNonDecreasingBy (λ pair. slice_index keys pair.0) (map pair_of entries)
sorted_up keys own entries same up i j d low within =
    let right = All-permutation (λ (e : ℕ × ℕ × Value). e.0 ≡ slice_index keys e.1) (map (keyed keys) own) entries same (keyed_right keys own) in
    let count : length (map pair_of entries) ≡ length entries = length-map entries pair_of in
    let j_in : j < length entries = omega (arith, within, count) in
    let i_in : i < length entries = omega (arith, j_in, low) in
    let e : ℕ × ℕ × Value = (0, d.0, d.1) in
    let key : (k : ℕ) → k < length entries → slice_index keys (get_or (map pair_of entries) k d).0 ≡ (get_or entries k e).0 =
    λ k k_in. ap (λ (p : ℕ × Value). slice_index keys p.0) (get_or-map pair_of entries k e d k_in) ∙ sym (right k e k_in) in
    omega (arith, key i i_in, key j j_in, up i j e low j_in)
