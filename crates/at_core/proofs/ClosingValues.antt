-- Inline values that were loaded under locks are those of one map.
use Rattle.std.proofs.Common.{ℕ, zero, suc, ◌≡◌, ◌≢◌, ◌<◌, ◌≤◌, ◌⊎◌, ⊎_elim, inl, inr, Bool, eq-eqb, ne_eqb, List, [], ◌∷◌, length, slice_index, slice_index_or, Option, Some, None, Result, Ok, Err, IfOk, All, if◌then◌else◌, ap, sym, subst, ◌∙◌, refl, arith}
use Rattle.std.proofs.lemmas.Bool.{cases_lt}
use Rattle.std.proofs.lemmas.Option.{none-some, same_Some}
use Rattle.std.proofs.Math.ListN.{get_or-eq_default}
use mathlib.Core.Logic.{dite}
use native.Mathlib.Decide.{ℕ_discrete}
use Rattle.at_value.specs.declared.value.Value as value
use Rattle.at_value.specs.Pairs.{value_at, IsRising}
use Rattle.at_value.specs.Words.{IsValue, word_of}
use Rattle.at_value.proofs.Maps.{by_order, value_at-above}
use Rattle.at_dict.specs.Inline.{AreInline, AreValuesOf, IsCell, IsWordOf, NoneIs}
use Rattle.at_value.specs.declared.limits.Limits.{Limits}
use Rattle.at_model.specs.World.{World, Map, IsNamespace, IsWellFormed, opening}
use Rattle.at_model.proofs.WorldSteps.{replay-formed}
use Rattle.at_model.proofs.Worlds.{opening_is_formed}
use Rattle.at_view.specs.declared.view.View.{View}
use Rattle.at_view.specs.Counts as counts
use Rattle.at_core.specs.Closing.{now_of, dictionary_of}
use Rattle.at_core.specs.HeadSteps.{known_keys, copied_values}
use Rattle.at_core.specs.Inline.{AreKeys, HaveGrown}
use Rattle.at_core.proofs.HeadFrames.{values_grow}

-- Maps with the same values are the same

module _ {V : Type 0} where
  head_value : (p : ℕ × V) (ps : List (ℕ × V)) → value_at p.0 (p ∷ ps) ≡ Some p.1
  head_value p ps = ap (λ (b : Bool). if b then Some p.1 else value_at p.0 ps) (eq-eqb p.0 p.0 refl)

  other_value : (n : ℕ) (p : ℕ × V) (ps : List (ℕ × V)) → p.0 ≢ n → value_at n (p ∷ ps) ≡ value_at n ps
  other_value n p ps ne = ap (λ (b : Bool). if b then Some p.1 else value_at n ps) (ne_eqb p.0 n ne)

  -- a number below the first one isn't there
  below_first : (n : ℕ) (p : ℕ × V) (ps : List (ℕ × V)) → IsRising (p ∷ ps) → n < p.0 → value_at n (p ∷ ps) ≡ None
  below_first n p ps rising lt = other_value n p ps (λ e. omega arith) ∙ value_at-above p.0 n ps rising.0 (omega arith)

  pub maps_same : (xs ys : List (ℕ × V)) → IsRising xs → IsRising ys → ((n : ℕ) → value_at n xs ≡ value_at n ys) → xs ≡ ys
  maps_same [] [] a b same = refl
  maps_same [] (q ∷ ys) a b same = absurd (none-some q.1 (same q.0 ∙ head_value q ys))
  maps_same (p ∷ xs) [] a b same = absurd (none-some p.1 (sym (same p.0) ∙ head_value p xs))
  maps_same (p ∷ xs) (q ∷ ys) a b same = by_order p.0 q.0
      (λ _ _ lt. absurd (none-some p.1 (sym (below_first p.0 q ys b lt) ∙ (sym (same p.0) ∙ head_value p xs))))
      (λ _ _ e.
      let first : p.1 ≡ q.1 = same_Some p.1 q.1 (sym (head_value p xs) ∙ (same p.0 ∙ (ap (λ n. value_at n (q ∷ ys)) e ∙ head_value q ys))) in
      let rest : xs ≡ ys = maps_same xs ys a.1 b.1 (λ n. dite (ℕ_discrete p.0 n)
      (λ (is : p.0 ≡ n).
      let left : value_at n xs ≡ None = value_at-above p.0 n xs a.0 (omega arith) in
      let right : value_at n ys ≡ None = value_at-above q.0 n ys b.0 (omega arith) in
      left ∙ sym right)
      (λ (ne : p.0 ≢ n). sym (other_value n p xs ne) ∙ (same n ∙ other_value n q ys (λ is. ne (e ∙ is))))) in
      let pair : p ≡ q = λ i. (e i, first i) in
      λ i. pair i ∷ rest i)
      (λ _ _ gt. absurd (none-some q.1 (sym (below_first q.0 p xs a gt) ∙ (same q.0 ∙ head_value q ys))))

-- No two maps have the same inline values

-- the laws of words
module _ (positive : (v : value.Value) → 0 < word_of v) (one_each : (u v : value.Value) → IsValue u → IsValue v → word_of u ≡ word_of v → u ≡ v) where
  one_word : (a b : Option value.Value) (word : ℕ) → IsWordOf a word → IsWordOf b word → a ≡ b
  one_word None None word x y = refl
  one_word None (Some v) word x y = let p = positive v in let e = y.1 in absurd (omega arith)
  one_word (Some u) None word x y = let p = positive u in let e = x.1 in absurd (omega arith)
  one_word (Some u) (Some v) word x y = ap Some (one_each u v x.0 y.0 (x.1 ∙ sym y.1))

  -- a name has a key before this index, or none
  find_key : (keys : ℕ → ℕ) (n most : ℕ) → ((i : ℕ) × (keys i ≡ suc n)) ⊎ ((i : ℕ) → i < most → keys i ≢ suc n)
  find_key keys n zero = inr (λ i lt e. omega arith)
  find_key keys n (suc most) = ⊎_elim
      (λ (found : (i : ℕ) × (keys i ≡ suc n)). inl found)
      (λ (none : (i : ℕ) → i < most → keys i ≢ suc n). dite (ℕ_discrete (keys most) (suc n))
      (λ (e : keys most ≡ suc n). inl (most, e))
      (λ (ne : keys most ≢ suc n). inr (λ i lt. dite (ℕ_discrete i most) (λ (e : i ≡ most). subst (λ (k : ℕ). keys k ≢ suc n) (sym e) ne) (λ (other : i ≢ most). none i (omega arith)))))
      (find_key keys n most)

  pub one_map : (xs ys : Map) (keys words : ℕ → ℕ) → AreKeys keys → IsRising xs → IsRising ys → AreValuesOf xs keys words → AreValuesOf ys keys words → xs ≡ ys
  one_map xs ys keys words are a b x y = maps_same xs ys a b (λ n. ⊎_elim
      (λ (found : (i : ℕ) × (keys i ≡ suc n)). one_word (value_at n xs) (value_at n ys) (words found.0) (x.under found.0 n found.1) (y.under found.0 n found.1))
      (λ (none : (i : ℕ) → i < counts.keys → keys i ≢ suc n).
      let nowhere : NoneIs n keys = λ i e. ⊎_elim
      (λ (lt : i < counts.keys). none i lt e)
      (λ (le : counts.keys ≤ i). let z = are.past i le in omega arith)
      (cases_lt i counts.keys) in
      x.named n nowhere ∙ sym (y.named n nowhere))
      (find_key keys n counts.keys))

-- What was loaded: the words are the inline values, and past the keys both are 0
pub words_are : (pairs : Map) (known keys values : ℕ → ℕ) (words : List ℕ) → AreKeys keys → HaveGrown known keys → AreValuesOf pairs known values → length words ≡ counts.inline_values
    → ((i : ℕ) → i < counts.inline_values → slice_index words i ≡ values i) → slice_index words ≡ values
words_are pairs known keys values words are grown h long copied = λ t i. at i (cases_lt i counts.inline_values) t
  where
    more : AreValuesOf pairs keys values
    more = values_grow pairs known keys values are grown h

    at : (i : ℕ) → (i < counts.inline_values) ⊎ (counts.inline_values ≤ i) → slice_index words i ≡ values i
    at i (inl lt) = copied i lt
    at i (inr le) = get_or-eq_default words 0 (omega (arith, long, le)) ∙ sym (more.past i (are.past i le))

pub inline_words : (pairs : Map) (known keys values : ℕ → ℕ) (words : List ℕ) → AreKeys keys → HaveGrown known keys → AreValuesOf pairs known values → length words ≡ counts.inline_values
    → ((i : ℕ) → IsCell (slice_index words i)) → ((i : ℕ) → i < counts.inline_values → slice_index words i ≡ values i) → AreInline keys (slice_index words)
inline_words pairs known keys values words are grown h long cells copied =
    let more = values_grow pairs known keys values are grown h in
    record {
      small = are.small;
      distinct = are.distinct;
      cells = cells;
      past = subst (λ (ws : ℕ → ℕ). (i : ℕ) → keys i ≡ 0 → ws i ≡ 0) (sym (words_are pairs known keys values words are grown h long copied)) more.past;
    }

-- Dictionaries of a well-formed world rise

rising_at : (w : World) (dicts : List Map) (o : ℕ) → All (IsNamespace w) dicts → IsRising (slice_index_or dicts o [])
rising_at w dicts o all = ⊎_elim
    (λ (lt : o < length dicts). (all o [] lt).rising)
    (λ (le : length dicts ≤ o). subst (λ (names : Map). IsRising names) (sym (get_or-eq_default dicts [] le)) tt)
    (cases_lt o (length dicts))

pub rising_dict : (limits : Limits) (v : View) (o : ℕ) → IsRising (dictionary_of (now_of limits v) o)
rising_dict limits v o =
    let w = now_of limits v in
    let formed : IsWellFormed w = replay-formed opening v.history.seen opening_is_formed in
    rising_at w w.dicts o formed.filled

both_ok : {X E : Type 0} (r : Result X E) (P Q R : X → Type 0) → IfOk r P → IfOk r Q → ((x : X) → P x → Q x → R x) → IfOk r R
both_ok (Ok x) P Q R p q f = f x p q
both_ok (Err e) P Q R p q f = tt

-- what was loaded are the inline values of the object's dictionary, and of no other map
pub loaded_map : {E : Type 0} (positive : (v : value.Value) → 0 < word_of v) (one_each : (u v : value.Value) → IsValue u → IsValue v → word_of u ≡ word_of v → u ≡ v)
    (limits : Limits) (v : View) (o c : ℕ) (keys words : List ℕ) (r : Result Map E) → AreKeys (slice_index keys) → HaveGrown (known_keys v c) (slice_index keys)
    → AreValuesOf (dictionary_of (now_of limits v) o) (known_keys v c) (copied_values v o) → slice_index words ≡ copied_values v o
    → IfOk r IsRising → IfOk r (λ pairs. AreValuesOf pairs (slice_index keys) (slice_index words)) → IfOk r (λ pairs. pairs ≡ dictionary_of (now_of limits v) o)
loaded_map positive one_each limits v o c keys words r are grown h copied rising values =
    let d = dictionary_of (now_of limits v) o in
    let more : AreValuesOf d (slice_index keys) (slice_index words) =
    subst (AreValuesOf d (slice_index keys)) (sym copied) (values_grow d (known_keys v c) (slice_index keys) (copied_values v o) are grown h) in
    both_ok r IsRising (λ pairs. AreValuesOf pairs (slice_index keys) (slice_index words)) (λ pairs. pairs ≡ d) rising values
    (λ pairs a x. one_map positive one_each pairs d (slice_index keys) (slice_index words) are a (rising_dict limits v o) x more)
