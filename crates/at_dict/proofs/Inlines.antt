-- Inline values that are listed one by one.
use Rattle.std.proofs.Common.{ℕ, zero, suc, ◌≡◌, ◌≢◌, ◌<◌, ◌≤◌, ◌+◌, ◌-◌, is_some, if◌then◌else◌, ⊎_elim, List, length, slice_index, Option, None, ap, sym, subst, ◌∙◌, refl, arith}
use Rattle.std.proofs.lemmas.Bool.{cases_lt}
use mathlib.Core.Logic.{dite}
use native.Mathlib.Decide.{ℕ_discrete}
use Rattle.at_value.specs.declared.value.Value as value
use Rattle.at_value.specs.declared.value.Value.TheVariants as values
use Rattle.at_value.specs.Pairs.{IsRising, value_at, with_value}
use Rattle.at_value.specs.Words.{HasWord, word_of}
use Rattle.at_value.proofs.Maps.{put_here, put_elsewhere, put_rising}
use Rattle.at_dict.specs.Dictionary.{Dictionary, spare_with}
use Rattle.at_dict.specs.Inline.{IsWordOf, IsWordUnder, AreInline, AreValuesOf}
use Rattle.at_dict.proofs.Rooms.{length-with_value}

abbrev pub Map : Type 0
Map = List (ℕ × value.Value)

-- no value's word is 0
pub word_positive : (v : value.Value) → 0 < word_of v
word_positive values.Nothing = omega arith
word_positive (values.Int i) = omega arith
word_positive (values.Text n) = omega arith
word_positive (values.Func f) = omega arith
word_positive (values.Prop p) = omega arith
word_positive (values.Static f) = omega arith
word_positive (values.ClassM f) = omega arith
word_positive (values.Class c) = omega arith
word_positive (values.Obj o) = omega arith

-- the map has the values of the words before this index
pub record AreListed (i : ℕ) (keys words : ℕ → ℕ) (pairs : Map) : Type 0 where
  pub under : (j n : ℕ) → j < i → keys j ≡ suc n → IsWordUnder n pairs (words j)
  pub named : (n : ℕ) → ((j : ℕ) → j < i → keys j ≢ suc n) → value_at n pairs ≡ None

-- so has a dictionary, each pair in a place that was spare
pub record AreFilled (i spare : ℕ) (keys words : List ℕ) (body : Dictionary) : Type 0 where
  pub listed : AreListed i (slice_index keys) (slice_index words) body.map
  pub places : body.spare + length body.map ≡ spare
  pub few : length body.map ≤ i
  pub rising : IsRising body.map

-- an index below the next one is this or one below it
last_or_below : {P : Type 0} (i j : ℕ) → j < suc i → (j < i → P) → (j ≡ i → P) → P
last_or_below i j lt below last = dite (ℕ_discrete j i) last (λ (ne : j ≢ i). below (omega arith))

module _ (keys words : ℕ → ℕ) (all : AreInline keys words) where
  -- a name whose key stands at the index has none before
  fresh : (i n : ℕ) (pairs : Map) → AreListed i keys words pairs → keys i ≡ suc n → value_at n pairs ≡ None
  fresh i n pairs h e = h.named n (λ j lt same. let is = all.distinct j i n same e in omega arith)

  -- the word has no value
  pub none_listed : (i : ℕ) (pairs : Map) → AreListed i keys words pairs → ((v : value.Value) → ¬ HasWord v (words i)) → AreListed (suc i) keys words pairs
  none_listed i pairs h none = record {
    under = λ j n lt e. last_or_below i j lt (λ below. h.under j n below e)
        (λ (is : j ≡ i).
        let here : keys i ≡ suc n = sym (ap keys is) ∙ e in
        let zero : words i ≡ 0 = ⊎_elim (λ (z : words i ≡ 0). z) (λ (some : (v : value.Value) × HasWord v (words i)). absurd (none some.0 some.1)) (all.cells i) in
        subst (λ (found : Option value.Value). IsWordOf found (words j)) (sym (fresh i n pairs h here)) (ap words is ∙ zero));
    named = λ n no. h.named n (λ j lt. no j (omega arith));
  }

  -- the word has a value, which is put under the name
  pub some_listed : (i n : ℕ) (v : value.Value) (pairs : Map) → AreListed i keys words pairs → HasWord v (words i) → keys i ≡ suc n → AreListed (suc i) keys words (with_value n v pairs)
  some_listed i n v pairs h has e = record {
    under = λ j m lt at. last_or_below i j lt
        (λ below. subst (λ (found : Option value.Value). IsWordOf found (words j))
        (sym (put_elsewhere m n v pairs (λ (same : m ≡ n). let is = all.distinct j i m at (e ∙ ap suc (sym same)) in omega arith))) (h.under j m below at))
        (λ (is : j ≡ i).
        let same : m ≡ n = (let a : suc m ≡ suc n = sym at ∙ (ap keys is ∙ e) in omega arith) in
        subst (λ (k : ℕ). IsWordOf (value_at k (with_value n v pairs)) (words j)) (sym same)
        (subst (λ (found : Option value.Value). IsWordOf found (words j)) (sym (put_here n v pairs)) (subst (HasWord v) (sym (ap words is)) has)));
    named = λ m no. put_elsewhere m n v pairs (λ (same : m ≡ n). no i (omega arith) (e ∙ ap suc (sym same))) ∙ h.named m (λ j lt. no j (omega arith));
  }

  -- a name with a value has no value before, and its key isn't 0
  pub next_name : (i : ℕ) (v : value.Value) → HasWord v (words i) → (n : ℕ) × (keys i ≡ suc n)
  next_name i v has = by_key (keys i) refl
    where
      by_key : (k : ℕ) → keys i ≡ k → (n : ℕ) × (keys i ≡ suc n)
      by_key zero e = let positive = word_positive v in let word = has.1 in let none = all.past i e in absurd (omega arith)
      by_key (suc n) e = (n, e)

  pub not_yet : (i n : ℕ) (pairs : Map) → AreListed i keys words pairs → keys i ≡ suc n → value_at n pairs ≡ None
  not_yet = fresh

  -- once all are listed
  pub all_listed : (most : ℕ) (pairs : Map) → ((i : ℕ) → most ≤ i → keys i ≡ 0) → AreListed most keys words pairs → AreValuesOf pairs keys words
  all_listed most pairs past h = record {
    under = λ i n e. dite_lt i most (λ lt. h.under i n lt e) (λ le. absurd (let z = past i le in omega arith));
    named = λ n none. h.named n (λ j lt. none j);
    past = all.past;
  }
    where
      dite_lt : {P : Type 0} (a b : ℕ) → (a < b → P) → (b ≤ a → P) → P
      dite_lt a b lt le = ⊎_elim lt le (cases_lt a b)

-- A dictionary with one pair more, or with none
module _ (keys words : List ℕ) (all : AreInline (slice_index keys) (slice_index words)) where
  pub filled_same : (i next spare : ℕ) (body after : Dictionary) → next ≡ suc i → after ≡ body → AreFilled i spare keys words body
      → ((v : value.Value) → ¬ HasWord v (slice_index words i)) → AreFilled next spare keys words after
  filled_same i next spare body after is same h none =
      subst (λ (b : Dictionary). AreFilled next spare keys words b) (sym same)
      (subst (λ (k : ℕ). AreFilled k spare keys words body) (sym is)
      (record { listed = none_listed (slice_index keys) (slice_index words) all i body.map h.listed none; places = h.places; few = (let f = h.few in omega arith); rising = h.rising }))

  pub filled_more : (i next spare n : ℕ) (v : value.Value) (body after : Dictionary) → next ≡ suc i → AreFilled i spare keys words body → i < spare
      → HasWord v (slice_index words i) → slice_index keys i ≡ suc n → after.map ≡ with_value n v body.map → after.spare ≡ spare_with n body → AreFilled next spare keys words after
  filled_more i next spare n v body after is h room has e put left =
      let none : value_at n body.map ≡ None = not_yet (slice_index keys) (slice_index words) all i n body.map h.listed e in
      let one : length after.map ≡ length body.map + 1 =
      ap length put ∙ (length-with_value n v body.map h.rising ∙ ap (λ (found : Option value.Value). length body.map + (if is_some found then 0 else 1)) none) in
      let less : after.spare ≡ body.spare - 1 = left ∙ ap (λ (found : Option value.Value). if is_some found then body.spare else body.spare - 1) none in
      let few = h.few in
      let places = h.places in
      subst (λ (k : ℕ). AreFilled k spare keys words after) (sym is)
      (record {
        listed = subst (AreListed (suc i) (slice_index keys) (slice_index words)) (sym put) (some_listed (slice_index keys) (slice_index words) all i n v body.map h.listed has e);
        places = omega arith;
        few = omega arith;
        rising = subst IsRising (sym put) (put_rising n v body.map h.rising);
      })
