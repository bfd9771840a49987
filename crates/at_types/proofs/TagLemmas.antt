-- How often tags stand in the lists of a pool, and how long these lists are.
use Rattle.std.proofs.Common.{◌≡◌, ◌≢◌, ◌⊎◌, ◌∙◌, ap, sym, refl, ℕ, zero, suc, ◌+◌, ◌-◌, ◌^◌, ◌<◌, ◌≤◌, ◌==◌, cond, inl, inr, min, length, get_or, set, length-append, map, Bool, List, [], ◌∷◌, ◌++◌, Some, None, IfSome, slice_get, true, false, arith}
use Rattle.std.specs.List.{remove}
use Rattle.std.proofs.lemmas.Bool.{cases_eq, cases_lt, eq-eqb, eqb-true, ne_eqb}
use Rattle.std.proofs.lemmas.Option.{get_or_from_slice_get, slice_get_within}
use Rattle.std.proofs.lemmas.List.{length-map, length-set}
use Rattle.std.proofs.lemmas.List.Edits.{length-remove}
use Rattle.std.proofs.lemmas.List.Sums.{sum_by-cons, sum_by-append, sum_by_push, sum_by-set, sum_by-remove}
use Rattle.at_types.specs.declared.tags.LimboRow.{LimboRow}
use Rattle.at_types.specs.Tags.{TagState, times, times_in_limbo, tags_to, IsOut, IsInLimbo, IsPool}

abbrev weight : Bool → ℕ
weight b = cond b 1 0

-- a number is there once more
times-cons : (t x : ℕ) (xs : List ℕ) → times t (x ∷ xs) ≡ cond (x == t) 1 0 + times t xs
times-cons t x xs = sum_by-cons (λ y. cond (y == t) 1 0) x xs

pub times_push : (t x : ℕ) (xs : List ℕ) → times t (xs ++ x ∷ []) ≡ times t xs + cond (x == t) 1 0
times_push t x xs = sum_by_push (λ y. cond (y == t) 1 0) xs x

times-append : (t : ℕ) (xs ys : List ℕ) → times t (xs ++ ys) ≡ times t xs + times t ys
times-append t xs ys = sum_by-append (λ y. cond (y == t) 1 0) xs ys

-- a list that has a number, with the number taken out
without_one : (t : ℕ) (ys : List ℕ) → 0 < times t ys
    → (rest : List ℕ) × (length ys ≡ suc (length rest)) × ((u : ℕ) → times u ys ≡ cond (t == u) 1 0 + times u rest)
without_one t [] there = absurd (omega arith)
without_one t (y ∷ ys) there =
    elim (y == t) as (λ b. (y == t) ≡ b → (rest : List ℕ) × (length (y ∷ ys) ≡ suc (length rest)) × ((u : ℕ) → times u (y ∷ ys) ≡ cond (t == u) 1 0 + times u rest)) [
      | true ↦ λ here.
          let same : y ≡ t = eqb-true y t here in
          (ys, refl, λ u. times-cons u y ys ∙ ap (λ x. cond (x == u) 1 0 + times u ys) same)
      | false ↦ λ other.
          let later : times t (y ∷ ys) ≡ times t ys = times-cons t y ys ∙ ap (λ b. cond b 1 0 + times t ys) other ∙ omega arith in
          let found = without_one t ys (omega arith) in
          (y ∷ found.0, ap suc found.1, λ u. omega (arith, times-cons u y ys, times-cons u y found.0, found.2 u))
    ] refl

-- where no number stands more often in the one list than in the other, it is no longer
pub length-le_from_times : (xs ys : List ℕ) → ((t : ℕ) → times t xs ≤ times t ys) → length xs ≤ length ys
length-le_from_times [] ys few = omega arith
length-le_from_times (x ∷ xs) ys few =
    let here : (x == x) ≡ true = eq-eqb x x refl in
    let once : weight (x == x) ≡ weight true = ap weight here in
    let found = without_one x ys (omega (arith, few x, times-cons x x xs, once)) in
    let shorter : length xs ≤ length found.0 = length-le_from_times xs found.0 (λ t. omega (arith, few t, times-cons t x xs, found.2 t)) in
    omega (arith, found.1)

pub length-tags_to : (n : ℕ) → length (tags_to n) ≡ n
length-tags_to zero = refl
length-tags_to (suc n) = length-append (tags_to n) (suc n ∷ []) ∙ omega (arith, length-tags_to n)

-- each tag is among the tags of the pool
pub times-tags_to : (n t : ℕ) → 0 < t → t ≤ n → 0 < times t (tags_to n)
times-tags_to zero t positive within = absurd (omega arith)
times-tags_to (suc n) t positive within =
    elim (cases_eq t (suc n)) [
      | inl same ↦
          let here : (suc n == t) ≡ true = eq-eqb (suc n) t (sym same) in
          let once : weight (suc n == t) ≡ weight true = ap weight here in
          omega (arith, times_push t (suc n) (tags_to n), once)
      | inr other ↦ omega (arith, times_push t (suc n) (tags_to n), times-tags_to n t positive (omega arith))
    ]

-- no other number is
times-outside : (n t : ℕ) → (t < 1) ⊎ (n < t) → times t (tags_to n) ≡ 0
times-outside zero t outside = refl
times-outside (suc n) t outside =
    let before : times t (tags_to n) ≡ 0 =
    times-outside n t (elim outside [
      | inl low ↦ inl low
      | inr high ↦ inr (omega arith)
    ]) in
    let other : suc n ≢ t =
    λ same. elim outside [
      | inl low ↦ absurd (omega arith)
      | inr high ↦ absurd (omega arith)
    ] in
    times_push t (suc n) (tags_to n) ∙ ap (λ x. times t (tags_to n) + weight x) (ne_eqb (suc n) t other) ∙ omega (arith, before)

-- and none is there twice
times-tags_to-most : (n t : ℕ) → times t (tags_to n) ≤ 1
times-tags_to-most zero t = omega arith
times-tags_to-most (suc n) t =
    elim (cases_eq (suc n) t) [
      | inl same ↦
          let before : times t (tags_to n) ≡ 0 = times-outside n t (inr (omega arith)) in
          let once : weight (suc n == t) ≡ weight true = ap weight (eq-eqb (suc n) t same) in
          omega (arith, times_push t (suc n) (tags_to n), once, before)
      | inr other ↦
          let none : weight (suc n == t) ≡ weight false = ap weight (ne_eqb (suc n) t other) in
          omega (arith, times_push t (suc n) (tags_to n), none, times-tags_to-most n t)
    ]

-- what is there is in its range
in_range : (n t : ℕ) → 0 < times t (tags_to n) → (0 < t) × (t ≤ n)
in_range n t there =
    elim (cases_lt t 1) [
      | inl low ↦ absurd (omega (arith, times-outside n t (inl low)))
      | inr positive ↦
          elim (cases_lt n t) [
            | inl high ↦ absurd (omega (arith, times-outside n t (inr high)))
            | inr within ↦ (omega arith, omega arith)
          ]
    ]

-- the tags of rows
abbrev limbo_tags : List LimboRow → List ℕ
limbo_tags rows = map (λ row. row.tag) rows

times-limbo_tags : (t : ℕ) (rows : List LimboRow) → times t (limbo_tags rows) ≡ times_in_limbo t rows
times-limbo_tags t [] = refl
times-limbo_tags t (row ∷ rows) =
    times-cons t row.tag (limbo_tags rows) ∙ ap (λ n. cond (row.tag == t) 1 0 + n) (times-limbo_tags t rows)
    ∙ sym (sum_by-cons (λ (r : LimboRow). cond (r.tag == t) 1 0) row rows)

-- there are no more free tags and rows of limbo than tags
pub pool_fits : (size : ℕ) (free : List ℕ) (limbo : List LimboRow) → ((t : ℕ) → times t free + times_in_limbo t limbo ≤ times t (tags_to size))
    → length free + length limbo ≤ size
pool_fits size free limbo single =
    let all = free ++ limbo_tags limbo in
    let short : length all ≤ length (tags_to size) = length-le_from_times all (tags_to size) (λ t. omega (arith, single t, times-append t free (limbo_tags limbo), times-limbo_tags t limbo)) in
    omega (arith, length-tags_to size, length-append free (limbo_tags limbo), length-map limbo (λ (row : LimboRow). row.tag))

-- the pool with one more row, of a tag that is out
pub single_in_limbo : (size tag t : ℕ) (free : List ℕ) (limbo : List LimboRow) (row : LimboRow) → row.tag ≡ tag → 0 < tag → tag ≤ size → times tag free ≡ 0
    → times_in_limbo tag limbo ≡ 0 → times t free + times_in_limbo t limbo ≤ times t (tags_to size)
    → times t free + times_in_limbo t (limbo ++ row ∷ []) ≤ times t (tags_to size)
single_in_limbo size tag t free limbo row is positive within not_free not_in_limbo single =
    let more : times_in_limbo t (limbo ++ row ∷ []) ≡ times_in_limbo t limbo + cond (row.tag == t) 1 0 = sum_by_push (λ (r : LimboRow). cond (r.tag == t) 1 0) limbo row in
    elim (row.tag == t) as (λ b. (row.tag == t) ≡ b → times t free + times_in_limbo t (limbo ++ row ∷ []) ≤ times t (tags_to size)) [
      | true ↦ λ here.
          let same : tag ≡ t = sym is ∙ eqb-true row.tag t here in
          let one : weight (row.tag == t) ≡ weight true = ap weight here in
          let no_free : times t free ≡ 0 = ap (λ x. times x free) (sym same) ∙ not_free in
          let no_limbo : times_in_limbo t limbo ≡ 0 = ap (λ x. times_in_limbo x limbo) (sym same) ∙ not_in_limbo in
          omega (arith, more, one, times-tags_to size t (omega arith) (omega arith))
      | false ↦ λ other.
          let none : weight (row.tag == t) ≡ weight false = ap weight other in
          omega (arith, more, none)
    ] refl

-- What the calls leave of a pool

abbrev state : ℕ → List ℕ → List LimboRow → ℕ → ℕ → TagState
state size free limbo given freed = record { size = size; free = free; limbo = limbo; given = given; freed = freed }

-- the first free tag is given
pub pool-next : (size tag given freed now : ℕ) (free : List ℕ) (limbo : List LimboRow) → IsPool (state size (tag ∷ free) limbo given freed)
    → now ≡ min (given + 1) (2 ^ 64 - 1) → IsPool (state size free limbo now freed)
pool-next size tag given freed now free limbo pool counted = record {
  small = pool.small;
  single = λ t. omega (arith, pool.single t, times-cons t tag free);
  true_counts = record {
    fits = omega (arith, pool.true_counts.fits);
    balance = λ few. let before : given ≡ freed + length limbo + (size - (suc (length free) + length limbo)) = pool.true_counts.balance (omega arith) in omega (arith, pool.true_counts.fits);
  };
}

-- it is out then
pub next-out : (size tag given freed now : ℕ) (free : List ℕ) (limbo : List LimboRow) → IsPool (state size (tag ∷ free) limbo given freed)
    → IsOut (state size free limbo now freed) tag
next-out size tag given freed now free limbo pool =
    let once : weight (tag == tag) ≡ weight true = ap weight (eq-eqb tag tag refl) in
    let single : times tag (tag ∷ free) + times_in_limbo tag limbo ≤ times tag (tags_to size) = pool.single tag in
    let most = times-tags_to-most size tag in
    let range = in_range size tag (omega (arith, single, times-cons tag tag free, once)) in
    record {
      positive = range.0;
      within = range.1;
      not_free = omega (arith, single, most, times-cons tag tag free, once);
      not_in_limbo = omega (arith, single, most, times-cons tag tag free, once);
    }

-- the tag of a row is in limbo
row-in_limbo : (size given freed i : ℕ) (free : List ℕ) (limbo : List LimboRow) (row : LimboRow) → IsPool (state size free limbo given freed)
    → i < length limbo → row ≡ get_or limbo i row → IsInLimbo (state size free limbo given freed) row.tag
row-in_limbo size given freed i free limbo row pool within is =
    let f : LimboRow → ℕ = λ r. weight (r.tag == row.tag) in
    let once : f row ≡ weight true = ap weight (eq-eqb row.tag row.tag refl) in
    let single : times row.tag free + times_in_limbo row.tag limbo ≤ times row.tag (tags_to size) = pool.single row.tag in
    let without = sum_by-remove f limbo i row within in
    let most = times-tags_to-most size row.tag in
    let range = in_range size row.tag (omega (arith, single, once, ap f is, without)) in
    record {
      positive = range.0;
      within = range.1;
      not_free = omega (arith, single, most, once, ap f is, without);
      in_one_row = omega (arith, single, most, once, ap f is, without);
    }

pub rows-in_limbo : (size given freed i : ℕ) (free : List ℕ) (limbo : List LimboRow) → IsPool (state size free limbo given freed)
    → IfSome (slice_get limbo i) (λ row. IsInLimbo (state size free limbo given freed) row.tag)
rows-in_limbo size given freed i free limbo pool =
    elim (slice_get limbo i) as (λ r. slice_get limbo i ≡ r → IfSome r (λ row. IsInLimbo (state size free limbo given freed) row.tag)) [
      | None ↦ λ _. tt
      | Some row ↦ λ at.
          row-in_limbo size given freed i free limbo row pool (slice_get_within limbo i row at) (sym (get_or_from_slice_get limbo i row row at))
    ] refl

-- a tag that is out comes into limbo
pub pool-in_limbo : (size given freed tag : ℕ) (free : List ℕ) (limbo : List LimboRow) (row : LimboRow) → IsPool (state size free limbo given freed)
    → IsOut (state size free limbo given freed) tag → row.tag ≡ tag → IsPool (state size free (limbo ++ row ∷ []) given freed)
pool-in_limbo size given freed tag free limbo row pool is_out is =
    let single : (t : ℕ) → times t free + times_in_limbo t (limbo ++ row ∷ []) ≤ times t (tags_to size) = λ t. single_in_limbo size tag t free limbo row is is_out.positive is_out.within is_out.not_free is_out.not_in_limbo (pool.single t) in
    let fits : length free + length (limbo ++ row ∷ []) ≤ size = pool_fits size free (limbo ++ row ∷ []) single in
    record {
      small = pool.small;
      single = single;
      true_counts = record {
        fits = fits;
        balance = λ few. omega (arith, fits, pool.true_counts.fits, pool.true_counts.balance few, length-append limbo (row ∷ []));
      };
    }

-- there is room for it
pub pool-room : (size given freed tag : ℕ) (free : List ℕ) (limbo : List LimboRow) (row : LimboRow) → IsPool (state size free limbo given freed)
    → IsOut (state size free limbo given freed) tag → row.tag ≡ tag → length limbo < size
pool-room size given freed tag free limbo row pool is_out is =
    omega (arith, (pool-in_limbo size given freed tag free limbo row pool is_out is).true_counts.fits, length-append limbo (row ∷ []))

-- a row of limbo changes, and not its tag
pub pool-with_row : (size given freed i : ℕ) (free : List ℕ) (limbo : List LimboRow) (was now : LimboRow) → IsPool (state size free limbo given freed)
    → i < length limbo → was ≡ get_or limbo i was → now.tag ≡ was.tag → IsPool (state size free (set limbo i now) given freed)
pool-with_row size given freed i free limbo was now pool within is same =
    let long : length (set limbo i now) ≡ length limbo = length-set limbo i now in
    record {
      small = pool.small;
      single = λ t.
          let f : LimboRow → ℕ = λ r. weight (r.tag == t) in
          let e : f now ≡ f (get_or limbo i was) = ap (λ x. weight (x == t)) same ∙ ap f is in
          omega (arith, pool.single t, e, sum_by-set f limbo i now was within);
      true_counts = record {
        fits = omega (arith, pool.true_counts.fits, long);
        balance = λ few. omega (arith, pool.true_counts.balance few, long);
      };
    }

-- a tag comes from limbo to the end of the free ones
pub pool-freed : (size given freed now i : ℕ) (free : List ℕ) (limbo : List LimboRow) (row : LimboRow) → IsPool (state size free limbo given freed)
    → i < length limbo → row ≡ get_or limbo i row → now ≡ min (freed + 1) (2 ^ 64 - 1)
    → IsPool (state size (free ++ row.tag ∷ []) (remove limbo i) given now)
pool-freed size given freed now i free limbo row pool within is counted =
    let long : length (free ++ row.tag ∷ []) ≡ length free + 1 = length-append free (row.tag ∷ []) in
    let short : length (remove limbo i) + 1 ≡ length limbo = length-remove limbo i within in
    record {
      small = pool.small;
      single = λ t.
          let f : LimboRow → ℕ = λ r. weight (r.tag == t) in
          omega (arith, pool.single t, ap f is, times_push t row.tag free, sum_by-remove f limbo i row within);
      true_counts = record {
        fits = omega (arith, pool.true_counts.fits);
        balance = λ few. omega (arith, pool.true_counts.balance few, pool.true_counts.fits);
      };
    }
