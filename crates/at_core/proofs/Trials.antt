-- What the steps of the tests' helpers leave, and what they ask.
use Rattle.std.proofs.Common.{◌≡◌, ◌≢◌, inr, ℕ, zero, suc, ◌+◌, ◌<◌, ◌||◌, Bool, true, false, IsTrue, List, [], ◌∷◌, ◌++◌, length, ne_eqb, refl, sym, ap, ◌∙◌, subst, arith}
use Rattle.std.specs.Prelude.{Some, None, nat_lt, slice_set, slice_get, slice_index, slice_index_or, if◌then◌else◌}
use Rattle.std.proofs.lemmas.Bool.Decides.{nat_tests}
use Rattle.std.proofs.lemmas.Option.{none-some}
use mathlib.Core.Logic.{dite}
use native.Mathlib.Decide.{ℕ_discrete}
use Rattle.at_value.specs.declared.operation.Op as op
use Rattle.at_value.specs.declared.limits.Limits.{Limits}
use Rattle.at_value.specs.declared.value.Value.TheVariants as values
use Rattle.at_value.specs.Packing.{words_of, HasWords}
use Rattle.at_value.specs.Pairs.{value_at}
use Rattle.at_model.specs.World.{opening}
use Rattle.at_model.specs.History.{replay}
use Rattle.at_model.specs.Step.{is_write}
use Rattle.at_dict.specs.Dictionary.{Dictionary}
use Rattle.at_view.specs.declared.mark.StepKind as step_kind
use Rattle.at_view.specs.declared.view.RowWords.{RowWords}
use Rattle.at_view.specs.declared.view.View.{View}
use Rattle.at_view.specs.Words.{key, inline_value}
use Rattle.at_core.specs.declared.lock.Lock.TheVariants as locks
use Rattle.at_view.specs.Views.{first_view}
use Rattle.at_core.specs.declared.stored.Stored.{Stored}
use Rattle.at_core.specs.declared.stored.Stored.TheVariants as stored
use Rattle.at_core.specs.Heads.{sequence_of, shape_of, unmade, inline, HasDictionary, IsWhole, IsOpened}
use Rattle.at_core.specs.HeadSteps.{head_opened, head_closed, inline_stored, key_loaded, key_appended, known_keys, copied_values, copied_keys_of, MayOpen, MayClose, MayStore, MayAppend}
use Rattle.at_core.specs.Inline.{AreKeys, AreValuesOf, IsHeadOf, IsWordUnder}
use Rattle.at_core.specs.Locks.{hold_of, holds}
use Rattle.at_core.specs.PlaceSteps.{place_loaded, with_word, intent_stored, written, Covers, MayWrite, MayCommit, MayCommitIf}
use Rattle.at_core.specs.Plays.{IsAlone, RowSays}
use Rattle.at_core.specs.Rule.{listed}
use Rattle.at_core.specs.SomeRun.{new_class, new_object, first_value, head_of}
use Rattle.at_core.specs.Steps.{Moment, taken, copied_heads, MayGive, ValueAgrees}
use Rattle.at_core.specs.Trials.{IsAt, eight, HasWordCopies, HasKey}
use Rattle.at_core.proofs.Committing.{held_written, hold_stamped}
use Rattle.at_core.proofs.HeadFrames.{odd_even}
use Rattle.at_core.proofs.SomeRunWords.{listed_zero}
use Rattle.at_core.proofs.SomeRunWrites.{one_base, covers_none, covers_moved, covers_row}

-- What each step leaves

module _ (history : List op.Op) (words : List ℕ) (head : ℕ) (row : List ℕ) (v : View) (h : IsAt history words head row v) where
  pub at_loaded : (at : List op.Op) → at ≡ history → IsAt history words head row (place_loaded v at)
  at_loaded at e = record { alone = record { first = h.alone.first; childless = h.alone.childless }; seen = e; intends = h.intends; types = h.types; row = h.row; copy = h.copy }

  pub at_intended : (j n : ℕ) → IsAt history (with_word words j n) head row (intent_stored v j n)
  at_intended j n = record { alone = record { first = h.alone.first; childless = h.alone.childless }; seen = h.seen; intends = ap (λ (ws : List ℕ). with_word ws j n) h.intends; types = h.types; row = h.row; copy = h.copy }

  pub at_written : (kind : step_kind.StepKind) (at : List op.Op) (operation : op.Op) → at ≡ history → IsAt (history ++ operation ∷ []) words head row (written kind v at operation)
  at_written kind at operation e = record {
    alone = record { first = h.alone.first; childless = h.alone.childless };
    seen = ap (λ (xs : List op.Op). xs ++ operation ∷ []) e;
    intends = h.intends;
    types = h.types;
    row = held_written (locks.Row 0) kind v at operation ∙ h.row;
    copy = h.copy;
  }

  -- what the lock of the row keeps counts from there
  pub since_written : (kind : step_kind.StepKind) (at : List op.Op) (operation : op.Op) → at ≡ history → (hold_of (locks.Row 0) (written kind v at operation)).since ≡ history ++ operation ∷ []
  since_written kind at operation e = ap (λ k. k.since) (hold_stamped (at ++ operation ∷ []) 0 v.holds h.row) ∙ ap (λ (xs : List op.Op). xs ++ operation ∷ []) e

  pub at_opened : IsAt history words (suc head) row (head_opened v 0)
  at_opened = record {
    alone = record { first = h.alone.first; childless = h.alone.childless };
    seen = h.seen;
    intends = h.intends;
    types = h.types;
    row = h.row;
    copy = ap (λ (r : RowWords). record r { head = suc r.head }) h.copy;
  }

  pub at_closed : (word : ℕ) → IsAt history words word row (head_closed v 0 word)
  at_closed word = record {
    alone = record { first = h.alone.first; childless = h.alone.childless };
    seen = h.seen;
    intends = h.intends;
    types = h.types;
    row = h.row;
    copy = ap (λ (r : RowWords). record r { head = word }) h.copy;
  }

  pub at_stored : (i n : ℕ) → IsAt history words head (slice_set row i n) (inline_stored v 0 i n)
  at_stored i n = record {
    alone = record { first = h.alone.first; childless = h.alone.childless };
    seen = h.seen;
    intends = h.intends;
    types = h.types;
    row = h.row;
    copy = ap (λ (r : RowWords). record r { values = slice_set r.values i n }) h.copy;
  }

  pub at_key_loaded : (c i : ℕ) (known : List ℕ) (n : ℕ) → IsAt history words head row (key_loaded v c i known n)
  at_key_loaded c i known n = record { alone = record { first = h.alone.first; childless = h.alone.childless }; seen = h.seen; intends = h.intends; types = h.types; row = h.row; copy = h.copy }

  pub at_appended : (c i n : ℕ) → IsAt history words head row (key_appended v c i n)
  at_appended c i n = record { alone = record { first = h.alone.first; childless = h.alone.childless }; seen = h.seen; intends = h.intends; types = h.types; row = h.row; copy = h.copy }

  -- What the copies say

  pub head_is : copied_heads v 0 ≡ head
  head_is = ap (λ (r : RowWords). r.head) h.copy

  pub values_are : copied_values v 0 ≡ slice_index row
  values_are = ap (λ (r : RowWords). slice_index r.values) h.copy

  -- What steps ask

  pub may_open : (limits : Limits) → v.who.limits ≡ limits → IsWhole head → sequence_of head < limits.head_max → MayOpen v 0
  may_open limits same whole below = record {
    held = h.row;
    whole = subst IsWhole (sym head_is) whole;
    below = subst (λ (n : ℕ). sequence_of n < v.who.limits.head_max) (sym head_is) (subst (λ (l : Limits). sequence_of head < l.head_max) (sym same) below);
  }

  pub may_write : (operation : op.Op) → HasWords operation words → v.intent.fresh ≡ true → IsTrue (is_write (replay opening history) operation) → Covers (replay opening history) v operation → MayWrite opening v operation
  may_write operation intends fresh write covers = record {
    intends = subst (HasWords operation) (sym h.intends) intends;
    fresh = fresh;
    write = subst (λ (xs : List op.Op). IsTrue (is_write (replay opening xs) operation)) (sym h.seen) write;
    covers = subst (λ (xs : List op.Op). Covers (replay opening xs) v operation) (sym h.seen) covers;
  }

-- a place below the limit was loaded
pub fresh_after : (v : View) (at history : List op.Op) (limits : Limits) → at ≡ history → v.who.limits ≡ limits → length history < limits.place_max → (place_loaded v at).intent.fresh ≡ true
fresh_after v at history limits same limited below =
    let lt : length at < v.who.limits.place_max = (let e = ap (λ (xs : List op.Op). length xs) same in let l = ap (λ (x : Limits). x.place_max) limited in omega (arith, e, l, below)) in
    let yes : nat_lt (length at) v.who.limits.place_max ≡ true = grind (arith, nat_tests, lt) in
    ap (λ (b : Bool). v.intent.fresh || b) yes ∙ or_true v.intent.fresh
  where
    or_true : (b : Bool) → (b || true) ≡ true
    or_true true = refl
    or_true false = refl

-- What the helpers' views are: once the place is loaded and a word of an operation stored, and once that is written

module _ (history : List op.Op) (words : List ℕ) (head : ℕ) (row : List ℕ) (v w : View) (h : IsAt history words head row v) (at : List op.Op) (alone : IsAlone v → at ≡ v.history.seen) where
  pub ready : (j n : ℕ) → w ≡ intent_stored (place_loaded v at) j n → IsAt history (with_word words j n) head row w
  ready j n is = subst (IsAt history (with_word words j n) head row) (sym is) (at_intended history words head row (place_loaded v at) (at_loaded history words head row v h at (alone h.alone ∙ h.seen)) j n)

  pub ready_fresh : (j n : ℕ) (limits : Limits) → w ≡ intent_stored (place_loaded v at) j n → v.who.limits ≡ limits → length history < limits.place_max → w.intent.fresh ≡ true
  ready_fresh j n limits is limited below = ap (λ (x : View). x.intent.fresh) is ∙ fresh_after v at history limits (alone h.alone ∙ h.seen) limited below

  pub done : (kind : step_kind.StepKind) (operation : op.Op) → w ≡ written kind v at operation → IsAt (history ++ operation ∷ []) words head row w
  done kind operation is = subst (IsAt (history ++ operation ∷ []) words head row) (sym is) (at_written history words head row v h kind at operation (alone h.alone ∙ h.seen))

  pub done_since : (kind : step_kind.StepKind) (operation : op.Op) → w ≡ written kind v at operation → (hold_of (locks.Row 0) w).since ≡ history ++ operation ∷ []
  done_since kind operation is = ap (λ (x : View). (hold_of (locks.Row 0) x).since) is ∙ since_written history words head row v h kind at operation (alone h.alone ∙ h.seen)

-- Words that are all 0

pub eight_none : (f : ℕ → ℕ) → ((i : ℕ) → slice_index (listed 8 f) i ≡ 0) → listed 8 f ≡ eight 0
eight_none f none = λ t. none 0 t ∷ none 1 t ∷ none 2 t ∷ none 3 t ∷ none 4 t ∷ none 5 t ∷ none 6 t ∷ none 7 t ∷ []

pub none_of_eight : (i : ℕ) → slice_index (eight 0) i ≡ 0
none_of_eight i = listed_zero 8 (λ j. 0) (λ j. refl) i

-- those after the first
none_after : (n i : ℕ) → slice_index (eight n) (suc i) ≡ 0
none_after n i = listed_zero 7 (λ j. 0) (λ j. refl) i

-- The row of an object that isn't made

module _ (w : View) (says : RowSays opening (locks.Row 0) w) (none : slice_get (replay opening (hold_of (locks.Row 0) w).since).objects 0 ≡ None) where
  pub unmade_is : (copied_heads w 0 ≡ 0) × ((i : ℕ) → copied_values w 0 i ≡ 0)
  unmade_is = dite (ℕ_discrete (shape_of (copied_heads w 0)).layout unmade)
      (λ (e : (shape_of (copied_heads w 0)).layout ≡ unmade). ((says.1.object.absent e).0, says.1.blank e))
      (λ (ne : (shape_of (copied_heads w 0)).layout ≢ unmade). absurd (none-some _ (sym none ∙ says.1.object.present ne)))

-- both locks are taken, one after the other, by a pass that is alone and has seen nothing
module _ (limits : Limits) (v w : View) (first second : Moment) (one : v ≡ taken locks.Types (first_view limits) first) (none : first.history ≡ []) (two : w ≡ taken (locks.Row 0) v second)
    (alone : IsAlone v → second.history ≡ v.history.seen) (says : RowSays opening (locks.Row 0) (taken (locks.Row 0) v second)) where
  abbrev both : View
  both = taken (locks.Row 0) (taken locks.Types (first_view limits) first) second

  is_both : w ≡ both
  is_both = two ∙ ap (λ (x : View). taken (locks.Row 0) x second) one

  none_yet : second.history ≡ []
  none_yet = alone (subst IsAlone (sym one) (record { first = refl; childless = refl })) ∙ (ap (λ (x : View). x.history.seen) one ∙ none)

  unmade_yet : (copied_heads both 0 ≡ 0) × ((i : ℕ) → copied_values both 0 i ≡ 0)
  unmade_yet = unmade_is both (subst (λ (x : View). RowSays opening (locks.Row 0) (taken (locks.Row 0) x second)) one says) (ap (λ (xs : List op.Op). slice_get (replay opening xs).objects 0) none_yet)

  pub begun : IsAt [] (0 ∷ 0 ∷ 0 ∷ 0 ∷ []) 0 (eight 0) w
  begun = subst (IsAt [] (0 ∷ 0 ∷ 0 ∷ 0 ∷ []) 0 (eight 0)) (sym is_both) (record {
    alone = record { first = refl; childless = refl };
    seen = none_yet;
    intends = refl;
    types = refl;
    row = refl;
    copy = λ t. record { head = unmade_yet.0 t; values = eight_none (λ i. second.words (inline_value 0 i)) unmade_yet.1 t };
  })

  pub begun_copies : HasWordCopies w
  begun_copies = (first.words, ap (λ (x : View). x.types.words) is_both)

  pub begun_body : (x : Stored) → ValueAgrees opening (locks.Row 0) (taken (locks.Row 0) v second) second.lists x → (body : Dictionary) × (x ≡ stored.Body body) × (body.map ≡ [])
  begun_body x agrees =
      let a = subst (λ (y : View). ValueAgrees opening (locks.Row 0) (taken (locks.Row 0) y second) second.lists x) one agrees in
      (a.0, a.1, a.2.empty (λ has. (let z : (shape_of 0).layout ≡ 2 = subst (λ (n : ℕ). HasDictionary (shape_of n)) unmade_yet.0 has in absurd (omega arith))))

-- Making the class

pub may_make_class : (v : View) → IsAt [] (words_of new_class) 0 (eight 0) v → v.intent.fresh ≡ true → MayCommit opening v new_class
may_make_class v h fresh = record {
  write = may_write [] (words_of new_class) 0 (eight 0) v h new_class ((omega arith, (omega arith, one_base)), refl) fresh refl (covers_none _ _ _ refl refl);
  types = h.types;
}

-- Appending its first key

module _ (v : View) (copies : HasWordCopies v) (known : List ℕ) (are : AreKeys (slice_index known)) (zero_is : slice_index known 0 ≡ 0) (copy : known ≡ copied_keys_of v 1) where
  keys_of_one : copied_keys_of v 1 ≡ listed 8 (λ j. copies.0 (key 1 j))
  keys_of_one = ap (λ t. slice_index_or t.keys 1 []) copies.1

  no_keys : (i : ℕ) → slice_index (copied_keys_of v 1) i ≡ 0
  no_keys i = subst (λ (ks : List ℕ). slice_index ks i ≡ 0) copy (are.first 0 i (omega arith) zero_is)

  pub may_append : holds locks.Types v ≡ true → MayAppend v 1 0 20
  may_append types = record {
    held = types;
    class = omega arith;
    index = omega arith;
    unused = no_keys 0;
    earlier = λ j lt. absurd (omega arith);
    name = omega arith;
    absent = λ i e. let z = no_keys i in absurd (omega (arith, z, e));
  }

  pub has_key : HasKey (key_appended v 1 0 20)
  has_key =
      let none : copied_keys_of v 1 ≡ eight 0 = keys_of_one ∙ eight_none (λ j. copies.0 (key 1 j)) (λ i. subst (λ (ks : List ℕ). slice_index ks i ≡ 0) keys_of_one (no_keys i)) in
      ap (λ (ks : List ℕ). slice_set ks 0 21) none

-- Making the object

module _ (v : View) (h : IsAt (new_class ∷ []) (words_of new_object) 1 (eight 0) v) (fresh : v.intent.fresh ≡ true) where
  pub may_make_object : MayCommit opening v new_object
  may_make_object = record {
    write = may_write (new_class ∷ []) (words_of new_object) 1 (eight 0) v h new_object (omega arith, refl) fresh refl
        (covers_moved _ v _ 0 refl refl (h.row, subst IsOpened (sym (head_is (new_class ∷ []) (words_of new_object) 1 (eight 0) v h)) refl));
    types = h.types;
  }

abbrev pub made : List op.Op
made = new_class ∷ new_object ∷ []

module _ (v : View) (h : IsAt made (words_of new_object) 1 (eight 0) v) (since : (hold_of (locks.Row 0) v).since ≡ made) where
  head_one : copied_heads v 0 ≡ 1
  head_one = head_is made (words_of new_object) 1 (eight 0) v h

  no_value : (i : ℕ) → copied_values v 0 i ≡ 0
  no_value i = ap (λ (f : ℕ → ℕ). f i) (values_are made (words_of new_object) 1 (eight 0) v h) ∙ none_of_eight i

  pub may_close_made : MayClose opening v 0 (head_of inline 0)
  may_close_made = record {
    held = h.row;
    is = (omega arith, omega arith);
    whole = refl;
    next = ap (λ (n : ℕ). suc (sequence_of n)) (sym head_one);
    made = λ e. absurd (omega arith);
    says = subst (λ (xs : List op.Op). IsHeadOf (replay opening xs) 0 (head_of inline 0) (known_keys v) (copied_values v 0)) (sym since) (record {
      object = record { absent = λ e. absurd (omega arith); present = λ e. refl };
      blank = λ e. absurd (omega arith);
      row = λ e. refl;
      values = λ e. record { under = λ i n is. no_value i; named = λ n none. refl; past = λ i none. no_value i };
    });
    stays = λ has. let z : (shape_of 1).layout ≡ 2 = subst (λ (n : ℕ). HasDictionary (shape_of n)) head_one has in absurd (omega arith);
    named = λ has. absurd (omega arith);
  }

-- Giving it a value

abbrev pub set_to : List op.Op
set_to = new_class ∷ new_object ∷ first_value ∷ []

-- its only value is that under the only key
value_right : AreValuesOf ((20, values.Nothing) ∷ []) (slice_index (eight 21)) (slice_index (eight 1))
value_right = record { under = under; named = named; past = past }
  where
    under : (i n : ℕ) → slice_index (eight 21) i ≡ suc n → IsWordUnder n ((20, values.Nothing) ∷ []) (slice_index (eight 1) i)
    under zero n is = let same : 20 ≡ n = omega (arith, is) in subst (λ (m : ℕ). IsWordUnder m ((20, values.Nothing) ∷ []) 1) same (tt, refl)
    under (suc i) n is = let z = none_after 21 i in absurd (omega (arith, is, z))

    named : (n : ℕ) → ((i : ℕ) → slice_index (eight 21) i ≢ suc n) → value_at n ((20, values.Nothing) ∷ []) ≡ None
    named n none = ap (λ (b : Bool). if b then Some values.Nothing else None) (ne_eqb 20 n (λ e. none 0 (ap suc e)))

    past : (i : ℕ) → slice_index (eight 21) i ≡ 0 → slice_index (eight 1) i ≡ 0
    past zero e = absurd (omega (arith, e))
    past (suc i) e = none_after 1 i

module _ (v : View) (h : IsAt made (words_of first_value) (suc (head_of inline 0)) (eight 0) v) where
  pub may_store : MayStore v 0 0 1
  may_store = record {
    held = h.row;
    is_open = subst IsOpened (sym (head_is made (words_of first_value) (suc (head_of inline 0)) (eight 0) v h)) refl;
    index = omega arith;
    cell = inr (values.Nothing, (tt, refl));
  }

module _ (v : View) (h : IsAt made (words_of first_value) (suc (head_of inline 0)) (eight 1) v) where
  set_head : copied_heads v 0 ≡ suc (head_of inline 0)
  set_head = head_is made (words_of first_value) (suc (head_of inline 0)) (eight 1) v h

  pub may_set : (limits : Limits) → v.who.limits ≡ limits → 2 < limits.place_max → v.intent.fresh ≡ true → MayCommitIf opening v first_value
  may_set limits limited room fresh = record {
    write = may_write made (words_of first_value) (suc (head_of inline 0)) (eight 1) v h first_value ((omega arith, omega arith, tt), refl) fresh refl
        (covers_row _ v first_value 0 refl refl (h.row, λ inlined. odd_even (suc (head_of inline 0)) refl (subst IsWhole set_head inlined.0)));
    alone = refl;
    below = (let e = ap (λ (xs : List op.Op). length xs) h.seen in let l = ap (λ (x : Limits). x.place_max) limited in omega (arith, e, l, room));
  }

module _ (v : View) (h : IsAt set_to (words_of first_value) (suc (head_of inline 0)) (eight 1) v) (key : HasKey v) (since : (hold_of (locks.Row 0) v).since ≡ set_to) where
  open_head : copied_heads v 0 ≡ suc (head_of inline 0)
  open_head = head_is set_to (words_of first_value) (suc (head_of inline 0)) (eight 1) v h

  values_now : AreValuesOf ((20, values.Nothing) ∷ []) (known_keys v 1) (copied_values v 0)
  values_now =
      let Q : (ℕ → ℕ) × (ℕ → ℕ) → Type 0 = λ x. AreValuesOf ((20, values.Nothing) ∷ []) x.0 x.1 in
      subst Q (λ t. (slice_index (sym key t), sym (values_are set_to (words_of first_value) (suc (head_of inline 0)) (eight 1) v h) t)) value_right

  pub may_close_set : MayClose opening v 0 (head_of inline 0 + 2)
  may_close_set = record {
    held = h.row;
    is = (omega arith, omega arith);
    whole = refl;
    next = ap (λ (n : ℕ). suc (sequence_of n)) (sym open_head);
    made = λ e. absurd (omega arith);
    says = subst (λ (xs : List op.Op). IsHeadOf (replay opening xs) 0 (head_of inline 0 + 2) (known_keys v) (copied_values v 0)) (sym since) (record {
      object = record { absent = λ e. absurd (omega arith); present = λ e. refl };
      blank = λ e. absurd (omega arith);
      row = λ e. refl;
      values = λ e. values_now;
    });
    stays = λ has. let z : (shape_of (suc (head_of inline 0))).layout ≡ 2 = subst (λ (n : ℕ). HasDictionary (shape_of n)) open_head has in absurd (omega arith);
    named = λ has. absurd (omega arith);
  }

-- the row goes back with its dictionary empty
pub may_give_row : (v : View) (h : IsAt set_to (words_of first_value) (head_of inline 0 + 2) (eight 1) v) (body : Dictionary) → body.map ≡ [] → MayGive opening (locks.Row 0) v v.types.lists (stored.Body body)
may_give_row v h body empty =
    let is = head_is set_to (words_of first_value) (head_of inline 0 + 2) (eight 1) v h in record {
      held = h.row;
      returns = refl;
      agrees = (
        body,
        refl,
        record {
          full = λ has. (let z : (shape_of (head_of inline 0 + 2)).layout ≡ 2 = subst (λ (n : ℕ). HasDictionary (shape_of n)) is has in absurd (omega arith));
          empty = λ none. empty;
        },
      );
      shut = subst IsWhole (sym is) refl;
    }
