-- Scans of keys, load by load.
use Rattle.std.proofs.Common.{◌≡◌, ◌≢◌, ℕ, suc, ◌+◌, ◌<◌, ◌≤◌, ◌⊎◌, inl, inr, Bool, cond, eq-eqb, List, [], ◌∷◌, ◌++◌, length, refl, sym, ap, ◌∙◌, subst, arith}
use Rattle.std.specs.Prelude.{true, slice_index, slice_index_or, All}
use Rattle.std.proofs.Math.Nat.{eq-or-lt_of_le}
use Rattle.std.proofs.lemmas.Bool.{cases_lt}
use Rattle.std.proofs.lemmas.List.{length-append}
use Rattle.std.proofs.lemmas.List.Elements.{All-append, All-cons, All-nil}
use Rattle.at_value.specs.Widths.{classes, names}
use Rattle.at_view.specs.declared.view.TypesView.{TypesView}
use Rattle.at_view.specs.declared.view.View.{View}
use Rattle.at_view.specs.Counts as counts
use Rattle.at_core.specs.HeadPlays.{SawKey}
use Rattle.at_core.specs.declared.lock.Lock.TheVariants as locks
use Rattle.at_core.specs.HeadSteps.{key_loaded, known_keys, copied_keys_of, MayAppend}
use Rattle.at_core.specs.Inline.{AreKeys, NoneIs}
use Rattle.at_core.specs.Looks.{keys_at}
use Rattle.at_core.specs.Locks.{holds}
use Rattle.at_keys.specs.declared.scanning.KeyAt.TheVariants as found
use Rattle.at_keys.specs.Scans.{keys_loaded, words_loaded, AreSeen, IsOther, Scans}

-- One load more

pub loaded_more : (c : ℕ) (v : View) (i : ℕ) (loads : List (List ℕ)) (known : List ℕ)
    → keys_loaded c v i (loads ++ known ∷ []) ≡ key_loaded (keys_loaded c v i loads) c (i + length loads) known (slice_index known (i + length loads))
loaded_more c v i [] known = let e : i + 0 ≡ i = omega arith in ap (λ (j : ℕ). key_loaded v c j known (slice_index known j)) (sym e)
loaded_more c v i (first ∷ loads) known =
    let e : suc i + length loads ≡ i + suc (length loads) = omega arith in
    let w = keys_loaded c (key_loaded v c i first (slice_index first i)) (suc i) loads in
    loaded_more c (key_loaded v c i first (slice_index first i)) (suc i) loads known ∙ ap (λ (j : ℕ). key_loaded w c j known (slice_index known j)) e

words_more : (i : ℕ) (loads : List (List ℕ)) (known : List ℕ) → words_loaded i (loads ++ known ∷ []) ≡ words_loaded i loads ++ slice_index known (i + length loads) ∷ []
words_more i [] known = let e : i + 0 ≡ i = omega arith in ap (λ (j : ℕ). slice_index known j ∷ []) (sym e)
words_more i (first ∷ loads) known =
    let e : suc i + length loads ≡ i + suc (length loads) = omega arith in
    ap (λ words. slice_index first i ∷ words) (words_more (suc i) loads known ∙ ap (λ (j : ℕ). words_loaded (suc i) loads ++ slice_index known j ∷ []) e)

words_long : (i : ℕ) (loads : List (List ℕ)) → length (words_loaded i loads) ≡ length loads
words_long i [] = refl
words_long i (known ∷ loads) = ap suc (words_long (suc i) loads)

pub seen_more : (c : ℕ) (v : View) (i : ℕ) (loads : List (List ℕ)) (known : List ℕ) → AreSeen c v i loads
    → SawKey (keys_loaded c v i loads) c (i + length loads) (slice_index known (i + length loads)) known → AreSeen c v i (loads ++ known ∷ [])
seen_more c v i [] known seen saw = let e : i + 0 ≡ i = omega arith in (subst (λ (j : ℕ). SawKey v c j (slice_index known j) known) e saw, tt)
seen_more c v i (first ∷ loads) known seen saw =
    let e : i + suc (length loads) ≡ suc i + length loads = omega arith in
    let u = key_loaded v c i first (slice_index first i) in
    (seen.0, seen_more c u (suc i) loads known seen.1 (subst (λ (j : ℕ). SawKey (keys_loaded c u (suc i) loads) c j (slice_index known j) known) e saw))

-- what is known of a class after a load of one of its keys
known_now : (c i : ℕ) (v : View) (known : List ℕ) (word : ℕ) → known_keys (key_loaded v c i known word) c ≡ slice_index known
known_now c i v known word = ap (λ (b : Bool). slice_index (cond b known (keys_at c v.known))) (eq-eqb c c refl)

-- So many keys were loaded in turn.
pub record HasLoaded (c : ℕ) (v w : View) (i : ℕ) : Type 0 where
  pub loads : List (List ℕ)
  pub long : length loads ≡ i
  pub after : w ≡ keys_loaded c v 0 loads
  pub seen : AreSeen c v 0 loads

abbrev pub loaded_none : (c : ℕ) (v : View) → HasLoaded c v v 0
loaded_none c v = record { loads = []; long = refl; after = refl; seen = tt }

module _ (c : ℕ) (v w : View) (i : ℕ) (l : HasLoaded c v w i) (known : List ℕ) (word : ℕ) (x : View) (loaded : x ≡ key_loaded w c i known word) (told : SawKey w c i word known) where
  pub at : 0 + length l.loads ≡ i
  at = let long = l.long in omega (arith, long)

  pub is : x ≡ key_loaded w c i known (slice_index known i)
  is = loaded ∙ ap (λ (k : ℕ). key_loaded w c i known k) told.is

  pub saw : SawKey w c i (slice_index known i) known
  saw = subst (λ (k : ℕ). SawKey w c i k known) told.is told

  abbrev pub loaded_next : HasLoaded c v x (i + 1)
  loaded_next = record {
    loads = l.loads ++ known ∷ [];
    long = length-append l.loads (known ∷ []) ∙ (let long = l.long in omega (arith, long));
    after = is ∙ (ap (λ (u : View). key_loaded u c i known (slice_index known i)) l.after
        ∙ (ap (λ (j : ℕ). key_loaded (keys_loaded c v 0 l.loads) c j known (slice_index known j)) (sym at) ∙ sym (loaded_more c v 0 l.loads known)));
    seen = seen_more c v 0 l.loads known l.seen (subst (λ (j : ℕ). SawKey (keys_loaded c v 0 l.loads) c j (slice_index known j) known) (sym at) (subst (λ (u : View). SawKey u c i (slice_index known i) known) l.after saw));
  }

  pub words_next : words_loaded 0 loaded_next.loads ≡ words_loaded 0 l.loads ++ word ∷ []
  words_next = words_more 0 l.loads known ∙ (ap (λ (j : ℕ). words_loaded 0 l.loads ++ slice_index known j ∷ []) at ∙ ap (λ (k : ℕ). words_loaded 0 l.loads ++ k ∷ []) (sym told.is))

  pub knows : known_keys x c ≡ slice_index known
  knows = ap (λ (u : View). known_keys u c) loaded ∙ known_now c i w known word

-- Scans

-- The scan so far: keys of other names were loaded, and are among the keys that are known.
pub record Passed (c n : ℕ) (v w : View) (i : ℕ) : Type 0 where
  pub so : HasLoaded c v w i
  pub others : All (IsOther n) (words_loaded 0 so.loads)
  pub known : (j : ℕ) → j < i → IsOther n (known_keys w c j)
  pub keys : 0 < i → AreKeys (known_keys w c)

pub passed_none : (c n : ℕ) (v : View) → Passed c n v v 0
passed_none c n v = record {
  so = loaded_none c v;
  others = All-nil (IsOther n);
  known = λ j less. absurd (omega (arith, less));
  keys = λ less. absurd (omega (arith, less));
}

module _ (c n : ℕ) (v w : View) (i : ℕ) (p : Passed c n v w i) (known : List ℕ) (word : ℕ) (x : View) (loaded : x ≡ key_loaded w c i known word) (told : SawKey w c i word known) where
  abbrev next : HasLoaded c v x (i + 1)
  next = loaded_next c v w i p.so known word x loaded told

  words_are : words_loaded 0 next.loads ≡ words_loaded 0 p.so.loads ++ word ∷ []
  words_are = words_next c v w i p.so known word x loaded told

  now_known : known_keys x c ≡ slice_index known
  now_known = knows c v w i p.so known word x loaded told

  -- keys that were passed are still those of other names
  still : (j : ℕ) → j < i → IsOther n (slice_index known j)
  still j less = let (used, other) = p.known j less in subst (IsOther n) (sym (told.grown j used)) (used, other)

  pub passed_more : IsOther n word → Passed c n v x (i + 1)
  passed_more other = record {
    so = next;
    others = subst (All (IsOther n)) (sym words_are) (All-append (IsOther n) (words_loaded 0 p.so.loads) (word ∷ []) p.others (All-cons (IsOther n) word [] other (All-nil (IsOther n))));
    known = λ j less. subst (λ (f : ℕ → ℕ). IsOther n (f j)) (sym now_known) (here j less);
    keys = λ _. subst AreKeys (sym now_known) told.keys;
  }
    where
      on_side : (j : ℕ) → (j ≡ i) ⊎ (j < i) → IsOther n (slice_index known j)
      on_side j (inl same) = subst (IsOther n) (told.is ∙ ap (slice_index known) (sym same)) other
      on_side j (inr before) = still j before

      here : (j : ℕ) → j < i + 1 → IsOther n (slice_index known j)
      here j less = on_side j (eq-or-lt_of_le (let e : j ≤ i = omega (arith, less) in e))

  pub scan_found : word ≡ suc n → Scans c n v x (found.At i)
  scan_found be = record {
    loads = next.loads;
    after = next.after;
    seen = next.seen;
    answers = (words_loaded 0 p.so.loads, p.others, words_long 0 p.so.loads ∙ p.so.long, words_are ∙ ap (λ (k : ℕ). words_loaded 0 p.so.loads ++ k ∷ []) be);
  }

  pub found_known : word ≡ suc n → known_keys x c i ≡ suc n
  found_known be = ap (λ (f : ℕ → ℕ). f i) now_known ∙ (sym told.is ∙ be)

  pub scan_unused : word ≡ 0 → Scans c n v x found.NotThere
  scan_unused be = record {
    loads = next.loads;
    after = next.after;
    seen = next.seen;
    answers = (words_loaded 0 p.so.loads, p.others, inl (words_are ∙ ap (λ (k : ℕ). words_loaded 0 p.so.loads ++ k ∷ []) be));
  }

  pub unused_known : word ≡ 0 → NoneIs n (known_keys x c)
  unused_known be j key = by_side (cases_lt j i)
    where
      named : slice_index known j ≡ suc n
      named = sym (ap (λ (f : ℕ → ℕ). f j) now_known) ∙ key

      by_side : (j < i) ⊎ (i ≤ j) → ⊥
      by_side (inl before) = (still j before).1 named
      by_side (inr after) = let none = told.keys.first i j after (sym told.is ∙ be) in omega (arith, named, none)

pub scan_full : (c n : ℕ) (v w : View) → Passed c n v w counts.keys → Scans c n v w found.NotThere
scan_full c n v w p = record { loads = p.so.loads; after = p.so.after; seen = p.so.seen; answers = (words_loaded 0 p.so.loads, p.others, inr (refl, words_long 0 p.so.loads ∙ p.so.long)) }

pub full_known : (c n : ℕ) (v w : View) → Passed c n v w counts.keys → NoneIs n (known_keys w c)
full_known c n v w p j key = by_side (cases_lt j counts.keys)
  where
    by_side : (j < counts.keys) ⊎ (counts.keys ≤ j) → ⊥
    by_side (inl before) = (p.known j before).1 key
    by_side (inr after) = let none = (p.keys (omega arith)).past j after in omega (arith, key, none)

-- Under the lock of the types

-- The keys that were loaded are the copies of the pass, and used.
pub record AreUsed (c : ℕ) (v w : View) (i : ℕ) : Type 0 where
  pub so : HasLoaded c v w i
  pub types : w.types ≡ v.types
  pub used : (j : ℕ) → j < i → slice_index (copied_keys_of v c) j ≢ 0

pub used_none : (c : ℕ) (v : View) → AreUsed c v v 0
used_none c v = record { so = loaded_none c v; types = refl; used = λ j less. absurd (omega (arith, less)) }

module _ (c : ℕ) (v w : View) (i : ℕ) (u : AreUsed c v w i) (held : holds locks.Types v ≡ true) (known : List ℕ) (word : ℕ) (x : View) (loaded : x ≡ key_loaded w c i known word) (told : SawKey w c i word known) where
  -- the word is that of the copy
  pub copy_is : word ≡ slice_index (copied_keys_of v c) i
  copy_is = told.is ∙ (ap (λ (ks : List ℕ). slice_index ks i) (told.copy (ap (λ (t : TypesView). t.hold.held) u.types ∙ held)) ∙ ap (λ (t : TypesView). slice_index (slice_index_or t.words.keys c []) i) u.types)

  pub types_are : x.types ≡ v.types
  types_are = ap (λ (y : View). y.types) loaded ∙ u.types

  pub used_more : word ≢ 0 → AreUsed c v x (i + 1)
  used_more ne = record { so = loaded_next c v w i u.so known word x loaded told; types = types_are; used = λ j less. on_side j (eq-or-lt_of_le (let e : j ≤ i = omega (arith, less) in e)) }
    where
      on_side : (j : ℕ) → (j ≡ i) ⊎ (j < i) → slice_index (copied_keys_of v c) j ≢ 0
      on_side j (inl same) = λ none. ne (copy_is ∙ (ap (slice_index (copied_keys_of v c)) (sym same) ∙ none))
      on_side j (inr before) = u.used j before

  -- where it is unused, a key may be appended there
  pub may_append : (n : ℕ) → word ≡ 0 → c < classes → i < counts.keys → n < names → NoneIs n (slice_index (copied_keys_of v c)) → MayAppend x c i n
  may_append n be class less name absent = record {
    held = ap (λ (t : TypesView). t.hold.held) types_are ∙ held;
    class = class;
    index = less;
    unused = ap (λ (t : TypesView). slice_index (slice_index_or t.words.keys c []) i) types_are ∙ (sym copy_is ∙ be);
    earlier = λ j before z. u.used j before (sym (ap (λ (t : TypesView). slice_index (slice_index_or t.words.keys c []) j) types_are) ∙ z);
    name = name;
    absent = λ j z. absent j (sym (ap (λ (t : TypesView). slice_index (slice_index_or t.words.keys c []) j) types_are) ∙ z);
  }
