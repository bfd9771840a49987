-- Words that are loaded one by one under locks, for the end of a world.
use Rattle.std.proofs.Common.{ℕ, zero, suc, ◌≡◌, ◌≢◌, ◌<◌, ◌≤◌, ◌+◌, ◌⊎◌, true, inl, inr, List, [], ◌∷◌, ◌++◌, length, length-append, take, take_all, Some, None, slice_get, slice_index, slice_set, slice_index_or, ap, sym, subst, ◌∙◌, refl, arith}
use Rattle.std.proofs.lemmas.Bool.{cases_lt}
use Rattle.std.proofs.lemmas.List.{get_or-set_same, get_or-set_other, length-set, take_more}
use Rattle.std.proofs.lemmas.Option.{none-some, slice_get_within, get_or_from_slice_get}
use Rattle.std.proofs.Math.ListN.{get_or-eq_default}
use mathlib.Core.Logic.{dite}
use native.Mathlib.Decide.{ℕ_discrete}
use Rattle.at_value.specs.declared.operation.Op as op
use Rattle.at_view.specs.declared.view.View.{View}
use Rattle.at_view.specs.Counts.{keys, inline_values}
use Rattle.at_core.specs.declared.lock.Lock as lock
use Rattle.at_core.specs.declared.lock.Lock.TheVariants as locks
use Rattle.at_core.specs.declared.world.Pass.{Pass}
use Rattle.at_core.specs.Closing.{IsStill, HasLoaded}
use Rattle.at_core.specs.HeadPlays.{SawCell, SawKey}
use Rattle.at_core.specs.HeadSteps.{head_loaded, inline_loaded, key_loaded, known_keys, copied_values, copied_keys_of}
use Rattle.at_core.specs.Inline.{AreKeys, HaveGrown, IsCell}
use Rattle.at_core.specs.Locks.{hold_of, holds, copy_at}
use Rattle.at_core.specs.Looks.{keys_at}
use Rattle.at_core.specs.Passes.{view, IsSame, HasSameHand}
use Rattle.at_core.proofs.HeadFrames.{grown_trans, keys_here}
use Rattle.at_core.proofs.PassSteps.{same_pass, same_then}

-- Passes that are still

pub still_same : (v : View) → IsStill v v
still_same v = record { who = refl; history = refl; joined = refl; intent = refl; tags = refl; read = refl; write = refl; kept = refl }

pub still_longer : (u v w : View) → IsStill u v → IsStill v w → IsStill u w
still_longer u v w a b = record {
  who = b.who ∙ a.who;
  history = b.history ∙ a.history;
  joined = b.joined ∙ a.joined;
  intent = b.intent ∙ a.intent;
  tags = b.tags ∙ a.tags;
  read = b.read ∙ a.read;
  write = b.write ∙ a.write;
  kept = b.kept ∙ a.kept;
}

-- Loads

pub loaded_none : (p : Pass) → HasLoaded p p
loaded_none p = record { same = same_pass p; slots = λ k. refl; still = still_same (view p); types = refl; holds = refl; rows = refl }

pub loaded_longer : (p q r : Pass) → HasLoaded p q → HasLoaded q r → HasLoaded p r
loaded_longer p q r a b = record {
  same = same_then p q r a.same b.same;
  slots = λ k. b.slots k ∙ a.slots k;
  still = still_longer (view p) (view q) (view r) a.still b.still;
  types = b.types ∙ a.types;
  holds = b.holds ∙ a.holds;
  rows = b.rows ∙ a.rows;
}

-- the view after a load
record IsLoad (v w : View) : Type 0 where
  still : IsStill v w
  types : w.types ≡ v.types
  holds : w.holds ≡ v.holds
  rows : w.rows ≡ v.rows

load_is : (p q : Pass) (w : View) → IsSame p q → HasSameHand p q → IsLoad (view p) w → view q ≡ w → HasLoaded p q
load_is p q w same slots load is =
    let l : IsLoad (view p) (view q) = subst (IsLoad (view p)) (sym is) load in
    record { same = same; slots = slots; still = l.still; types = l.types; holds = l.holds; rows = l.rows }

head_is : (v : View) (o : ℕ) (at : List op.Op) (n : ℕ) → IsLoad v (head_loaded v o at n)
head_is v o at n = record {
  still = record { who = refl; history = refl; joined = refl; intent = refl; tags = refl; read = refl; write = refl; kept = refl };
  types = refl;
  holds = refl;
  rows = refl;
}

inline_is : (v : View) (o i : ℕ) (keys_are : ℕ → ℕ → ℕ) (n : ℕ) → IsLoad v (inline_loaded v o i keys_are n)
inline_is v o i keys_are n = record {
  still = record { who = refl; history = refl; joined = refl; intent = refl; tags = refl; read = refl; write = refl; kept = refl };
  types = refl;
  holds = refl;
  rows = refl;
}

key_is : (v : View) (c i : ℕ) (known : List ℕ) (n : ℕ) → IsLoad v (key_loaded v c i known n)
key_is v c i known n = record {
  still = record { who = refl; history = refl; joined = refl; intent = refl; tags = refl; read = refl; write = refl; kept = refl };
  types = refl;
  holds = refl;
  rows = refl;
}

pub loaded_head : (p q : Pass) (o : ℕ) (at : List op.Op) (n : ℕ) → IsSame p q → HasSameHand p q → view q ≡ head_loaded (view p) o at n → HasLoaded p q
loaded_head p q o at n same slots is = load_is p q (head_loaded (view p) o at n) same slots (head_is (view p) o at n) is

pub loaded_inline : (p q : Pass) (o i : ℕ) (keys_are : ℕ → ℕ → ℕ) (n : ℕ) → IsSame p q → HasSameHand p q → view q ≡ inline_loaded (view p) o i keys_are n → HasLoaded p q
loaded_inline p q o i keys_are n same slots is = load_is p q (inline_loaded (view p) o i keys_are n) same slots (inline_is (view p) o i keys_are n) is

pub loaded_key : (p q : Pass) (c i : ℕ) (known : List ℕ) (n : ℕ) → IsSame p q → HasSameHand p q → view q ≡ key_loaded (view p) c i known n → HasLoaded p q
loaded_key p q c i known n same slots is = load_is p q (key_loaded (view p) c i known n) same slots (key_is (view p) c i known n) is

-- what a load leaves of locks and copies
pub held_loaded : (p q : Pass) (l : lock.Lock) → HasLoaded p q → hold_of l (view q) ≡ hold_of l (view p)
held_loaded p q locks.Types a = ap (λ t. t.hold) a.types
held_loaded p q (locks.Row o) a = ap (λ hs. hold_of (locks.Row o) (record (view p) { holds = hs })) a.holds

pub copy_loaded : (p q : Pass) (o : ℕ) → HasLoaded p q → copy_at o (view q).rows ≡ copy_at o (view p).rows
copy_loaded p q o a = ap (copy_at o) a.rows

-- an index below the next one is this or one below it
last_or_below : {P : Type 0} (i j : ℕ) → j < suc i → (j < i → P) → (j ≡ i → P) → P
last_or_below i j lt below last = dite (ℕ_discrete j i) last (λ (ne : j ≢ i). below (omega arith))

-- Keys

-- the keys that the holder of the lock of the types has, and of which so many were loaded
pub record HasLoadedKeys (p q : Pass) (c i : ℕ) (words : List ℕ) : Type 0 where
  pub loaded : HasLoaded p q
  pub long : length words ≡ keys
  pub grown : HaveGrown (known_keys (view p) c) (known_keys (view q) c)
  pub are : 0 < i → (known_keys (view q) c ≡ slice_index (copied_keys_of (view p) c)) × AreKeys (slice_index (copied_keys_of (view p) c))
  pub read : (j : ℕ) → j < i → slice_index words j ≡ slice_index (copied_keys_of (view p) c) j

-- one key more
pub key_more : (p q r : Pass) (c i next n : ℕ) (known words : List ℕ) → next ≡ suc i → holds locks.Types (view p) ≡ true → HasLoadedKeys p q c i words → i < keys
    → IsSame q r → HasSameHand q r → view r ≡ key_loaded (view q) c i known n → SawKey (view q) c i n known → HasLoadedKeys p r c next (slice_set words i n)
key_more p q r c i next n known words is held h lt same slots after saw =
    let load = loaded_key q r c i known n same slots after in
    let holds_it : holds locks.Types (view q) ≡ true = ap (λ t. t.hold.held) h.loaded.types ∙ held in
    let copied : known ≡ copied_keys_of (view p) c = saw.copy holds_it ∙ ap (λ t. slice_index_or t.words.keys c []) h.loaded.types in
    let now : keys_at c (view r).known ≡ known = ap (λ (v : View). keys_at c v.known) after ∙ keys_here c (record { class = c; keys = known }) (view q).known refl in
    subst (λ (k : ℕ). HasLoadedKeys p r c k (slice_set words i n)) (sym is) (record {
      loaded = loaded_longer p q r h.loaded load;
      long = length-set words i n ∙ h.long;
      grown = grown_trans (known_keys (view p) c) (known_keys (view q) c) (known_keys (view r) c) h.grown
          (subst (λ (ks : List ℕ). HaveGrown (known_keys (view q) c) (slice_index ks)) (sym now) saw.grown);
      are = λ _. (ap slice_index (now ∙ copied), subst (λ (ks : List ℕ). AreKeys (slice_index ks)) copied saw.keys);
      read = λ j below. last_or_below i j below
          (λ before. get_or-set_other words i j n 0 (λ e. omega arith) ∙ h.read j before)
          (λ (e : j ≡ i). ap (slice_index (slice_set words i n)) e ∙ (get_or-set_same words i n 0 (let l = h.long in omega arith)
          ∙ (saw.is ∙ (ap (λ ks. slice_index ks i) copied ∙ ap (slice_index (copied_keys_of (view p) c)) (sym e)))));
    })

-- once all are loaded
pub keys_all : (p q : Pass) (c i : ℕ) (words : List ℕ) → keys ≤ i → HasLoadedKeys p q c i words → slice_index words ≡ slice_index (copied_keys_of (view p) c)
keys_all p q c i words le h = λ t j. at j (cases_lt j keys) t
  where
    at : (j : ℕ) → (j < keys) ⊎ (keys ≤ j) → slice_index words j ≡ slice_index (copied_keys_of (view p) c) j
    at j (inl lt) = h.read j (omega arith)
    at j (inr past) = get_or-eq_default words 0 (let l = h.long in omega arith) ∙ sym ((h.are (omega arith)).1.past j past)

pub are_keys : (p q : Pass) (c i : ℕ) (words : List ℕ) → keys ≤ i → HasLoadedKeys p q c i words → AreKeys (slice_index words)
are_keys p q c i words le h = subst AreKeys (sym (keys_all p q c i words le h)) (h.are (omega arith)).1

pub have_grown : (p q : Pass) (c i : ℕ) (words : List ℕ) → keys ≤ i → HasLoadedKeys p q c i words → HaveGrown (known_keys (view p) c) (slice_index words)
have_grown p q c i words le h =
    subst (HaveGrown (known_keys (view p) c)) ((h.are (omega arith)).0 ∙ sym (keys_all p q c i words le h)) h.grown

-- Inline values

pub record HasLoadedValues (p q : Pass) (o i : ℕ) (words : List ℕ) : Type 0 where
  pub loaded : HasLoaded p q
  pub long : length words ≡ inline_values
  pub cells : (j : ℕ) → IsCell (slice_index words j)
  pub read : (j : ℕ) → j < i → slice_index words j ≡ copied_values (view p) o j

pub value_more : (p q r : Pass) (o i next n : ℕ) (keys_are : ℕ → ℕ → ℕ) (words : List ℕ) → next ≡ suc i → holds (locks.Row o) (view p) ≡ true → HasLoadedValues p q o i words → i < inline_values
    → IsSame q r → HasSameHand q r → view r ≡ inline_loaded (view q) o i keys_are n → SawCell (view q) o i n keys_are → HasLoadedValues p r o next (slice_set words i n)
value_more p q r o i next n keys_are words is held h lt same slots after saw =
    let holds_it : holds (locks.Row o) (view q) ≡ true = ap (λ y. y.held) (held_loaded p q (locks.Row o) h.loaded) ∙ held in
    let copied : n ≡ copied_values (view p) o i = saw.copy holds_it ∙ ap (λ ws. slice_index ws.values i) (copy_loaded p q o h.loaded) in
    let here : slice_index (slice_set words i n) i ≡ n = get_or-set_same words i n 0 (let l = h.long in omega arith) in
    subst (λ (k : ℕ). HasLoadedValues p r o k (slice_set words i n)) (sym is) (record {
      loaded = loaded_longer p q r h.loaded (loaded_inline q r o i keys_are n same slots after);
      long = length-set words i n ∙ h.long;
      cells = λ j. dite (ℕ_discrete j i)
          (λ (e : j ≡ i). subst IsCell (sym (ap (slice_index (slice_set words i n)) e ∙ here)) saw.cell)
          (λ (ne : j ≢ i). subst IsCell (sym (get_or-set_other words i j n 0 ne)) (h.cells j));
      read = λ j below. last_or_below i j below
          (λ before. get_or-set_other words i j n 0 (λ e. omega arith) ∙ h.read j before)
          (λ (e : j ≡ i). ap (slice_index (slice_set words i n)) e ∙ (here ∙ (copied ∙ ap (copied_values (view p) o) (sym e))));
    })

-- A list that is copied item by item

module _ {A : Type 0} where
  pub copied_more : (all done next : List A) (n : ℕ) (x : A) → n ≡ length done → done ≡ take (length done) all → slice_get all n ≡ Some x → next ≡ done ++ x ∷ [] → next ≡ take (length next) all
  copied_more all done next n x is h here more =
      let lt : n < length all = slice_get_within all n x here in
      let long : length next ≡ n + 1 = ap length more ∙ (length-append done (x ∷ []) ∙ ap (λ k. k + 1) (sym is)) in
      let begun : done ≡ take n all = h ∙ ap (λ k. take k all) (sym is) in
      more ∙ (ap (λ xs. xs ++ x ∷ []) begun ∙ (ap (λ y. take n all ++ y ∷ []) (sym (get_or_from_slice_get all n x x here)) ∙ (sym (take_more all n x lt) ∙ ap (λ k. take k all) (sym long))))

  none_past : (all : List A) (n : ℕ) → slice_get all n ≡ None → length all ≤ n
  none_past [] n e = omega arith
  none_past (x ∷ xs) zero e = absurd (none-some x (sym e))
  none_past (x ∷ xs) (suc n) e = let le = none_past xs n e in omega arith

  pub copied_all : (all done : List A) (n : ℕ) → n ≡ length done → done ≡ take (length done) all → slice_get all n ≡ None → done ≡ all
  copied_all all done n is h none = let le = none_past all n none in h ∙ take_all (length done) all (omega (arith, is, le))
