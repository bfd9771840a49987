-- The opening state.
use Rattle.std.proofs.Common.{◌≡◌, ◌≢◌, inl, ℕ, zero, suc, ◌+◌, ◌-◌, ◌<◌, ◌≤◌, ◌==◌, ◌&&◌, Bool, true, false, true≢false, List, [], ◌∷◌, ◌++◌, length, map, get_or, replicate, refl, sym, ap, ◌∙◌, subst, ⊎_elim, arith, length-append}
use Rattle.std.specs.Prelude.{Some, None, count_by, nat_lt, slice_get, if◌then◌else◌}
use Rattle.std.proofs.lemmas.Bool.Decides.{nat_tests}
use Rattle.std.proofs.lemmas.List.{length-replicate, length-map}
use Rattle.std.proofs.lemmas.List.Sums.{sum_by-cons}
use mathlib.Core.Option.{some}
use lib.ListN.{get_elem?}
use Rattle.atomic_table.specs.Table.{opening}
use Rattle.atomic_table.proofs.Lists.{at_map, at_snoc}
use Rattle.at_value.specs.Widths.{objects}
use Rattle.at_value.specs.declared.limits.Limits.{Limits}
use Rattle.at_model.specs.declared.rows.Object.{Object}
use Rattle.at_model.specs.World.{World}
use Rattle.at_dict.specs.Dictionary.{Dictionary}
use Rattle.at_view.specs.declared.view.View.{View}
use Rattle.at_view.specs.Counts.{passes}
use Rattle.at_view.specs.Views.{first_view}
use Rattle.at_view.specs.Words.{Word, number_of, is_there, table_words, own_sequence, key, row_lock, head, inline_value}
use Rattle.at_core.specs.declared.lock.Lock as lock
use Rattle.at_core.specs.declared.lock.Lock.TheVariants as locks
use Rattle.at_core.specs.declared.stored.Stored.TheVariants as stored
use Rattle.at_core.specs.Heads.{shape_of, HasDictionary, IsHead}
use Rattle.at_core.specs.Inline.{IsHeadOf}
use Rattle.at_core.specs.Locks.{lock_word, slot_of, holds}
use Rattle.at_core.specs.Reads.{past_read, kin_read, holder_read, kept_read, types_read, row_read, known_read, looks_read, sequence_read, join_read, limit_read}
use Rattle.at_core.specs.Rule.{Slot, Homes, weight, LockRule, SlotRule, IsLock, Parts, Base, words_of, heads_of, keys_of, values_of, own_sequences_of, shape_under}
use Rattle.at_core.specs.Runs.{Core, opening_words, opening_numbers, opening_lists, AreFirstSlots, IsOpening, IsAllowed, CoreHolds, OpeningHolds}
use Rattle.at_model.specs.World as model
use Rattle.at_model.proofs.Worlds.{opening_is_formed}
use Rattle.at_core.proofs.Lists.{each_one}
use Rattle.at_core.proofs.Counts.{at_most_one, weight_other}
use Rattle.at_core.proofs.HeadFrames.{odd_even, none_known, none_backed}

-- what the list has at an index below its length
pub has_index : {A : Type 0} (xs : List A) (i : ℕ) → i < length xs → (x : A) × (get_elem? xs i ≡ some x)
has_index [] i lt = absurd (omega arith)
has_index (x ∷ xs) zero lt = (x, refl)
has_index (x ∷ xs) (suc i) lt = has_index xs i (omega arith)

zeros : (n i : ℕ) → ◌≡◌ {A = ℕ} (get_or (replicate n 0) i 0) 0
zeros zero i = refl
zeros (suc n) zero = refl
zeros (suc n) (suc i) = zeros n i

-- each word from the fifth on is 0
late_zero : (i : ℕ) → 4 ≤ i → get_or opening_words i 0 ≡ 0
late_zero zero le = absurd (omega arith)
late_zero (suc zero) le = absurd (omega arith)
late_zero (suc (suc zero)) le = absurd (omega arith)
late_zero (suc (suc (suc zero))) le = absurd (omega arith)
late_zero (suc (suc (suc (suc i)))) le = zeros (table_words - 4) i

late_word : (a : Word) → 4 ≤ number_of a → words_of opening_words a ≡ 0
late_word a le = by_test (is_there a) refl
  where
    by_test : (t : Bool) → is_there a ≡ t → words_of opening_words a ≡ 0
    by_test true e = ap (λ (t : Bool). if t then get_or opening_words (number_of a) 0 else 0) e ∙ late_zero (number_of a) le
    by_test false e = ap (λ (t : Bool). if t then get_or opening_words (number_of a) 0 else 0) e

pub free_at_first : (l : lock.Lock) → words_of opening_words (lock_word l) ≡ 0
free_at_first locks.Types = refl
free_at_first (locks.Row o) = late_word (row_lock o) (omega arith)

pub head_at_first : (o : ℕ) → heads_of (words_of opening_words) o ≡ 0
head_at_first o = late_word (head o) (omega arith)

key_at_first : (c i : ℕ) → keys_of (words_of opening_words) c i ≡ 0
key_at_first c i = late_word (key c i) (omega arith)

value_at_first : (o i : ℕ) → values_of (words_of opening_words) o i ≡ 0
value_at_first o i = late_word (inline_value o i) (omega arith)

-- each pass but the first is offline
no_sequence : (q : ℕ) → 0 ≢ q → own_sequences_of (words_of opening_words) q ≡ 0
no_sequence zero ne = absurd (ne refl)
no_sequence (suc q) ne = late_word (own_sequence (suc q)) (omega arith)

pub no_dictionary : (w : ℕ) → w ≡ 0 → ¬ HasDictionary (shape_of w)
no_dictionary w e = λ h. let z : (shape_of 0).layout ≡ 2 = ap (λ (n : ℕ). (shape_of n).layout) (sym e) ∙ h in absurd (omega arith)

pub long_enough : length opening_words ≡ table_words
long_enough = let n = length-replicate {A = ℕ} (table_words - 4) 0 in omega arith

-- Numbers

trues : (m k : ℕ) → weight (get_or (replicate m true) k false) ≡ weight (nat_lt k m)
trues zero k = ap weight (sym (let no : nat_lt k 0 ≡ false = grind (arith, nat_tests) in no))
trues (suc m) zero = ap weight (sym (let yes : nat_lt 0 (suc m) ≡ true = grind (arith, nat_tests) in yes))
trues (suc m) (suc k) = trues m k ∙ ap weight (same (nat_lt k m) refl)
  where
    same : (t : Bool) → nat_lt k m ≡ t → nat_lt k m ≡ nat_lt (suc k) (suc m)
    same true e = let lt : k < m = grind (arith, e) in let up : nat_lt (suc k) (suc m) ≡ true = grind (arith, nat_tests, lt) in e ∙ sym up
    same false e = let le : m ≤ k = grind (arith, e) in let up : nat_lt (suc k) (suc m) ≡ false = grind (arith, nat_tests, le) in e ∙ sym up

count_trues : (m : ℕ) → count_by (λ free. free) (replicate m true) ≡ m
count_trues zero = refl
count_trues (suc m) = let a = sum_by-cons (λ (b : Bool). weight b) true (replicate m true) in let r = count_trues m in omega arith

number_each : (n : ℕ) → weight (0 == n) + weight (get_or opening_numbers n false) ≡ weight (nat_lt n passes)
number_each zero = refl
number_each (suc n) =
    let z = weight_other 0 (suc n) (λ e. omega arith) in
    let t = trues (passes - 1) n in
    let s : weight (nat_lt n (passes - 1)) ≡ weight (nat_lt (suc n) passes) = ap weight (same (nat_lt n (passes - 1)) refl) in
    omega arith
  where
    same : (t : Bool) → nat_lt n (passes - 1) ≡ t → nat_lt n (passes - 1) ≡ nat_lt (suc n) passes
    same true e = let lt : n < passes - 1 = grind (arith, e) in let up : nat_lt (suc n) passes ≡ true = grind (arith, nat_tests, lt) in e ∙ sym up
    same false e = let le : passes - 1 ≤ n = grind (arith, e) in let up : nat_lt (suc n) passes ≡ false = grind (arith, nat_tests, le) in e ∙ sym up

no_place : (p : ℕ) → 0 ≡ weight (nat_lt 0 p && nat_lt p 1)
no_place zero = refl
no_place (suc p) = let no : nat_lt (suc p) 1 ≡ false = grind (arith, nat_tests) in sym (ap (λ (t : Bool). weight (nat_lt 0 (suc p) && t)) no ∙ and_false (nat_lt 0 (suc p)))
  where
    and_false : (t : Bool) → weight (t && false) ≡ 0
    and_false true = refl
    and_false false = refl

-- one row more
pub slots_more : (opened : World) (limits : Limits) (n : ℕ) (slots : List Slot) (body : Dictionary) → body.map ≡ [] → AreFirstSlots opened limits n slots → AreFirstSlots opened limits (n + 1) (slots ++ Some (stored.Body body) ∷ [])
slots_more opened limits n slots body none s = record {
  types = s.types;
  bodies = s.bodies ++ Some (stored.Body body) ∷ [];
  are = ap (λ xs. xs ++ Some (stored.Body body) ∷ []) s.are;
  agrees = s.agrees;
  long = let l = length-append s.bodies (Some (stored.Body body) ∷ []) in let e = s.long in omega arith;
  empty = λ o x e. ⊎_elim (λ (old : get_elem? s.bodies o ≡ some x). s.empty o x old) (λ (new : Some (stored.Body body) ≡ x). (body, sym new, none)) (at_snoc s.bodies (Some (stored.Body body)) x o e);
}

-- the opening state
pub first_core : (opened : World) (limits : Limits) (a : Core) (o : IsOpening opened limits a) → a ≡ record {
  table = opening opening_words (Some o.slots_are.types ∷ o.slots_are.bodies) (first_view limits);
  hands = λ id slot. None;
  ghost = record { history = []; lists = opening_lists limits };
}
first_core opened limits a o = o.after ∙ ap (λ (slots : List Slot). record {
  table = opening opening_words slots (first_view limits);
  hands = λ id slot. None;
  ghost = record { history = []; lists = opening_lists limits };
}) o.slots_are.are

module _ (opened : World) (limits : Limits) (a : Core) (allowed : IsAllowed limits) (o : IsOpening opened limits a) where
  v : View
  v = first_view limits

  no_object : (k : ℕ) (keys_are : ℕ → ℕ → ℕ) (values : ℕ → ℕ) → ((i : ℕ) → values i ≡ 0) → IsHeadOf opened k 0 keys_are values
  no_object k keys_are values none = record {
    object = record {
      absent = λ _. (refl, ap (λ (objects : List Object). slice_get objects k) o.objectless ∙ nothing k);
      present = λ ne. absurd (ne (omega arith));
    };
    blank = λ e. none;
    row = λ e. let z : (shape_of 0).layout ≡ 1 = e in absurd (omega arith);
    values = λ e. let z : (shape_of 0).layout ≡ 1 = e in absurd (omega arith);
  }
    where
      nothing : (i : ℕ) → slice_get {X = Object} [] i ≡ None
      nothing zero = refl
      nothing (suc i) = refl

  nothing_held : (l : lock.Lock) → holds l (first_view limits) ≡ false
  nothing_held locks.Types = refl
  nothing_held (locks.Row k) = refl

  lock_is : (l : lock.Lock) → LockRule (words_of opening_words (lock_word l)) (holder_read l (first_view limits) ∷ [])
  lock_is l = record {
    named = each_one (λ i u. u.held ≡ true → words_of opening_words (lock_word l) ≡ suc u.number) (holder_read l (first_view limits)) (λ on. absurd (true≢false (sym on ∙ nothing_held l)));
    one = λ i j u u' e e' h h'. absurd (each_one (λ i u. u.held ≡ true → ⊥) (holder_read l (first_view limits)) (λ on. true≢false (sym on ∙ nothing_held l)) i u e h);
    holder = λ busy. let z = free_at_first l in absurd (omega arith);
  }

  homes : Homes
  homes = map some (Some o.slots_are.types ∷ o.slots_are.bodies)

  slot_is : (l : lock.Lock) → IsLock l → SlotRule limits opened (opening_lists limits) (shape_under (heads_of (words_of opening_words)) l) l (words_of opening_words (lock_word l)) (get_elem? (map some (Some o.slots_are.types ∷ o.slots_are.bodies)) (slot_of l))
  slot_is locks.Types is = record { at_home = λ _. (o.slots_are.types, refl, o.slots_are.agrees); out = λ busy. let z = free_at_first locks.Types in absurd (omega arith) }
  slot_is (locks.Row k) is =
      let lt : k < length o.slots_are.bodies = (let e = o.slots_are.long in grind (arith, is, e)) in
      let there = has_index o.slots_are.bodies k lt in
      let body = o.slots_are.empty k there.0 there.1 in
      record {
        at_home = λ _. (
          stored.Body body.0,
          at_map some o.slots_are.bodies k there.0 there.1 ∙ ap (λ x. some (some x)) body.1,
          (body.0, refl, record { full = λ h. absurd (no_dictionary (heads_of (words_of opening_words) k) (head_at_first k) h); empty = λ _. body.2 }),
        );
        out = λ busy. let z = free_at_first (locks.Row k) in absurd (omega arith);
      }

  parts : Parts opened limits (words_of opening_words) (map some (Some o.slots_are.types ∷ o.slots_are.bodies)) (first_view limits ∷ []) (record { history = []; lists = opening_lists limits })
  parts = record {
    history = record {
      counted = refl;
      proper = tt;
      begun = each_one _ (past_read (first_view limits)) ([], refl);
      owned = λ p. no_place p;
      reached = each_one _ (past_read (first_view limits)) (λ p h. absurd (omega arith));
    };
    room = omega arith;
    kin = record {
      children = λ b pos. let z = weight_other 0 b (λ e. omega arith) in omega arith;
      distinct = λ b. let z = at_most_one (0 == b) in omega arith;
      later = each_one _ (kin_read (first_view limits)) (λ b h. absurd (omega arith));
      below = each_one _ (kin_read (first_view limits)) (omega arith);
      kept_below = each_one _ (kin_read (first_view limits)) (λ b h. absurd (omega arith));
    };
    locks = lock_is;
    numbers = record {
      whole = let n = length-replicate {A = Bool} (passes - 1) true in omega arith;
      each = λ n. let e = number_each n in omega arith;
      all = let e = count_trues (passes - 1) in let c = sum_by-cons (λ (b : Bool). weight b) false (replicate (passes - 1) true) in omega arith;
    };
    slots = slot_is;
    sequence = record {
      begun = omega arith;
      loaded = each_one _ (sequence_read (first_view limits)) (omega arith);
      offline = each_one _ (sequence_read (first_view limits)) (λ live off. absurd (true≢false off));
      online = each_one _ (sequence_read (first_view limits)) (λ live on. (omega arith, omega arith));
      spare = λ q none. no_sequence q (none 0 (sequence_read (first_view limits)) refl refl);
    };
    headed = record {
      heads_are = λ k. record {
        is = subst IsHead (sym (head_at_first k)) (omega arith, omega arith);
        says = λ whole. subst (λ (n : ℕ). IsHeadOf opened k n (keys_of (words_of opening_words)) (values_of (words_of opening_words) k)) (sym (head_at_first k)) (no_object k (keys_of (words_of opening_words)) (values_of (words_of opening_words) k) (value_at_first k));
        owned = λ odd. let z = head_at_first k in absurd (odd_even (heads_of (words_of opening_words) k) odd (omega arith));
      };
      open_are = λ k odd. let z = head_at_first k in absurd (odd_even (heads_of (words_of opening_words) k) odd (omega arith));
      rows_are = λ k h. absurd (no_dictionary (heads_of (words_of opening_words) k) (head_at_first k) h);
      openings = λ k. let z = head_at_first k in omega arith;
      keys = λ c. record {
        small = λ i. let z = key_at_first c i in omega arith;
        past = λ i le. key_at_first c i;
        first = λ i j le e. key_at_first c j;
        distinct = λ i j n e e'. let z = key_at_first c i in absurd (omega arith);
      };
      cells = λ k i. inl (value_at_first k i);
      known = each_one _ (known_read (first_view limits)) (none_known (keys_of (words_of opening_words)) [] refl);
      looks = each_one _ (looks_read (first_view limits)) (none_backed opened (heads_of (words_of opening_words)) (keys_of (words_of opening_words)) [] [] refl);
    };
    kept = λ l. each_one _ (kept_read l (first_view limits)) (λ on. absurd (true≢false (sym on ∙ nothing_held l)));
    types = each_one _ (types_read (first_view limits)) (λ on. absurd (true≢false (sym on)));
    rows = λ k. each_one _ (row_read k (first_view limits)) (λ on. absurd (true≢false (sym on)));
    joins = each_one _ (join_read (first_view limits)) (([], refl), ([], refl));
    limited = each_one _ (limit_read (first_view limits)) (λ _. refl);
    spent = each_one _ (first_view limits) (λ off. absurd (true≢false off));
  }

  pub opens : CoreHolds opened limits a
  opens = subst (CoreHolds opened limits) (sym (first_core opened limits a o)) (record {
    table_holds = record { words_are = long_enough; slots_are = ap suc (length-map o.slots_are.bodies some ∙ o.slots_are.long); small = allowed; formed = o.whole; parts = parts };
    hands_are = λ id u l e is. each_one (λ i x. false ≡ holds l x) (first_view limits) (sym (nothing_held l)) id u e;
  })

pub opening_holds : OpeningHolds
opening_holds = opens

-- The rule holds of a table that is opened so
pub opened_base : (limits : Limits) (words : List ℕ) (slots : List Slot) → IsAllowed limits → words ≡ opening_words → AreFirstSlots model.opening limits objects slots → Base model.opening limits (opening words slots (first_view limits))
opened_base limits words slots allowed words_are slots_are =
    let a : Core = record { table = opening opening_words slots (first_view limits); hands = λ id slot. None; ghost = record { history = []; lists = opening_lists limits } } in
    let holds = opens model.opening limits a allowed (record { whole = opening_is_formed; objectless = refl; slots = slots; slots_are = slots_are; after = refl }) in
    subst (λ (ws : List ℕ). Base model.opening limits (opening ws slots (first_view limits))) (sym words_are) (record { ghost = a.ghost; holds = holds.table_holds })
