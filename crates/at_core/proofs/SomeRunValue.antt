-- The last part of the run that is written out: another pass finds another place than it has seen, and then gives an
-- object a value.
use Rattle.std.proofs.Common.{◌≡◌, ℕ, zero, suc, ◌<◌, ◌≤◌, ◌%◌, Bool, true, false, List, [], ◌∷◌, ◌++◌, length, drop, refl, sym, ap, ◌∙◌, subst, inl, arith}
use Rattle.std.specs.Prelude.{Some, nat_lt, slice_index, slice_set, ◌||◌, ◌-◌}
use Rattle.std.proofs.lemmas.Bool.Decides.{nat_tests}
use mathlib.Core.Option.{some}
use mathlib.Core.Option as maybe
use Rattle.at_value.specs.declared.limits.Limits.{Limits}
use Rattle.at_model.specs.World.{opening}
use Rattle.at_view.specs.declared.view.TypeLists.{TypeLists}
use Rattle.at_view.specs.declared.view.View.{View}
use Rattle.at_view.specs.Counts.{inline_values}
use Rattle.at_view.specs.Views.{blank}
use Rattle.at_view.specs.Words.{table_words, place, intent, head, inline_value, row_lock}
use Rattle.at_core.specs.declared.lock.Lock.TheVariants as locks
use Rattle.at_core.specs.declared.stored.Stored.{Stored}
use Rattle.at_core.specs.Heads.{sequence_of, shape_of, inline, dictionary, HasDictionary, IsInline}
use Rattle.at_core.specs.Locks.{holds}
use Rattle.at_core.specs.Rule.{Slot, Homes, listed, words_of}
use Rattle.at_core.specs.Runs.{Core, Event, Hands, lock_take, head_open, head_close, inline_store, place_load, intent_store, commit, commit_miss, commit_if, head_load, inline_load, key_load, Goes, Leads}
use Rattle.at_core.specs.SomeRun.{new_class, new_object, first_value, head_of, word_in, value_events}
use Rattle.at_core.proofs.SomeRunWords.{Store, puts, loads, with_stores, listed_zero, said_here, said_beside, wide_with}
use Rattle.at_core.proofs.SomeRunWrites.{covers_moved, covers_row}

not_inline : ¬ IsInline (head_of dictionary 0)
not_inline inside = let e = inside.1 in absurd (omega arith)

-- what is known once an object is made
pub record ValueStart : Type 0 where
  pub words : List ℕ
  pub wide : length words ≡ table_words
  pub two : words_of words place ≡ 2
  pub row_free : words_of words (row_lock 0) ≡ 0
  pub made : words_of words (head 0) ≡ head_of dictionary 0
  pub next_free : words_of words (row_lock 1) ≡ 0
  pub unmade : words_of words (head 1) ≡ 0
  pub valueless : (i : ℕ) → words_of words (inline_value 1 i) ≡ 0
  pub types : maybe.Option Slot
  pub row : Stored
  pub next_row : Stored
  pub homes : Homes
  pub first : View
  pub rowless : holds (locks.Row 1) first ≡ false
  pub second : View
  pub third : View
  pub hands : Hands
  pub lists : TypeLists

module _ (limits : Limits) (room : 4 ≤ limits.place_max) (heads : 0 < limits.head_max) (s : ValueStart) where
  -- the first pass, which has the lock of the types
  abbrev pub mover : View
  mover = record s.first {
    who = record s.first.who { live = true; number = 0; limits = limits };
    history = record s.first.history { seen = new_class ∷ new_object ∷ [] };
    intent = record { words = word_in new_object 0 ∷ 0 ∷ 0 ∷ 0 ∷ []; fresh = false };
    types = record s.first.types { hold = record s.first.types.hold { held = true } };
  }

  -- the third, which has done nothing
  abbrev pub writer : View
  writer = record s.third {
    who = record s.third.who { live = true; number = 1; limits = limits };
    intent = blank.intent;
    holds = [];
    rows = [];
  }

  abbrev pub start : Core
  start = record {
    table = record { words = s.words; homes = s.types ∷ some (Some s.row) ∷ some (Some s.next_row) ∷ s.homes; views = mover ∷ s.second ∷ writer ∷ [] };
    hands = s.hands;
    ghost = record { history = new_class ∷ new_object ∷ []; lists = s.lists };
  }

  abbrev StepFrom : Event → Core → Type 0
  StepFrom event a = (b : Core) × Goes opening event a b

  -- The first pass takes a row

  abbrev pub takes_row : StepFrom (lock_take 0 (locks.Row 1)) start
  takes_row = (_, record { view = _; value = s.next_row; makes = record { there = refl; live = refl }; asked = s.rowless; is_lock = refl; free = s.next_free; home = refl; after = refl })

  pub below : sequence_of (words_of s.words (head 1)) < limits.head_max
  below = subst (λ (n : ℕ). sequence_of n < limits.head_max) (sym s.unmade) heads

  abbrev pub opens : StepFrom (head_open 0 1) takes_row.0
  opens = (_, record { view = _; makes = record { there = refl; live = refl }; object = omega arith; asked = record { held = refl; whole = ap (λ (n : ℕ). n % 2) s.unmade; below = below }; after = refl })

  -- the head is open
  pub odd : suc (words_of s.words (head 1)) % 2 ≡ 1
  odd = ap (λ (n : ℕ). suc n % 2) s.unmade

  abbrev pub stores : StepFrom (inline_store 0 1 0 0) opens.0
  stores = (_, record { view = _; makes = record { there = refl; live = refl }; object = omega arith; asked = record { held = refl; is_open = odd; index = omega arith; cell = inl refl }; after = refl })

  -- The third intends a write

  abbrev first_stores : List Store
  first_stores = puts (row_lock 1) 1 ∷ puts (head 1) (suc (words_of s.words (head 1))) ∷ puts (inline_value 1 0) 0 ∷ []

  pub row_is_free : words_of (with_stores s.words first_stores) (row_lock 0) ≡ 0
  row_is_free = said_beside s.words s.wide (row_lock 0) first_stores refl ∙ s.row_free

  abbrev pub takes_other : StepFrom (lock_take 2 (locks.Row 0)) stores.0
  takes_other = (_, record { view = _; value = s.row; makes = record { there = refl; live = refl }; asked = refl; is_lock = refl; free = row_is_free; home = refl; after = refl })

  abbrev pub loads_place : StepFrom (place_load 2) takes_other.0
  loads_place = (_, record { view = _; makes = record { there = refl; live = refl }; after = refl })

  abbrev pub intends : StepFrom (intent_store 2 0 (word_in first_value 0)) loads_place.0
  intends = (_, record { view = _; makes = record { there = refl; live = refl }; index = omega arith; after = refl })

  abbrev pub intends_more : StepFrom (intent_store 2 1 (word_in first_value 1)) intends.0
  intends_more = (_, record { view = _; makes = record { there = refl; live = refl }; index = omega arith; after = refl })

  -- The first makes another object

  abbrev pub other_loads : StepFrom (place_load 0) intends_more.0
  other_loads = (_, record { view = _; makes = record { there = refl; live = refl }; after = refl })

  pub fresh : nat_lt 2 limits.place_max ≡ true
  fresh = let yes : nat_lt 2 limits.place_max ≡ true = grind (arith, nat_tests, room) in yes

  abbrev pub commits : StepFrom (commit 0 new_object) other_loads.0
  commits = (
    _,
    record {
      view = _;
      makes = record { there = refl; live = refl };
      asked = record {
        write = record { intends = (omega arith, refl); fresh = fresh; write = refl; covers = covers_moved _ _ _ 1 refl refl (refl, odd) };
        types = refl;
      };
      after = refl;
    },
  )

  -- its values are all 0
  pub no_value : (i : ℕ) → slice_index (slice_set (listed inline_values (λ j. words_of s.words (inline_value 1 j))) 0 0) i ≡ 0
  no_value zero = refl
  no_value (suc i) = listed_zero (inline_values - 1) (λ j. words_of s.words (inline_value 1 (suc j))) (λ j. s.valueless (suc j)) i

  pub no_dictionary_yet : ¬ HasDictionary (shape_of (suc (words_of s.words (head 1))))
  no_dictionary_yet has = let z : (shape_of 1).layout ≡ 2 = ap (λ (n : ℕ). (shape_of (suc n)).layout) (sym s.unmade) ∙ has in absurd (omega arith)

  abbrev pub closes : StepFrom (head_close 0 1 (head_of inline 1)) commits.0
  closes = (
    _,
    record {
      view = _;
      makes = record { there = refl; live = refl };
      object = omega arith;
      asked = record {
        held = refl;
        is = (omega arith, omega arith);
        whole = refl;
        next = ap (λ (n : ℕ). suc (sequence_of (suc n))) (sym s.unmade);
        made = λ e. absurd (omega arith);
        says = record {
          object = record { absent = λ e. absurd (omega arith); present = λ e. refl };
          blank = λ e. absurd (omega arith);
          row = λ e. refl;
          values = λ e. record { under = λ i n is. no_value i; named = λ n none. refl; past = λ i none. no_value i };
        };
        stays = λ has. absurd (no_dictionary_yet has);
        named = λ has. absurd (omega arith);
      };
      after = refl;
    },
  )

  -- What the words say then

  -- those before the write of the first pass
  abbrev earlier : List Store
  earlier =
      first_stores ++ puts (row_lock 0) 2 ∷ loads place ∷ puts (intent 1 0) (word_in first_value 0)
      ∷ puts (intent 1 1) (word_in first_value 1) ∷ loads place ∷ []

  abbrev write : Store
  write = puts place (suc (words_of (with_stores s.words earlier) place))

  abbrev written_words : List ℕ
  written_words = with_stores (with_stores s.words earlier) (write ∷ [])

  pub written_wide : length written_words ≡ table_words
  written_wide = wide_with (with_stores s.words earlier) (write ∷ []) (wide_with s.words earlier s.wide)

  abbrev close : Store
  close = puts (head 1) (head_of inline 1)

  -- it took the third place
  pub three : words_of (with_stores written_words (close ∷ [])) place ≡ 3
  three =
      said_beside written_words written_wide place (close ∷ []) refl
      ∙ (said_here (with_stores s.words earlier) (wide_with s.words earlier s.wide) place _ refl
      ∙ ap suc (said_beside s.words s.wide place earlier refl ∙ s.two))

  -- The third finds another place than it has seen, and then writes

  -- the values of the object 0 stand in a dictionary
  pub not_in_words : ¬ IsInline (words_of (with_stores s.words first_stores) (head 0))
  not_in_words = subst (λ (n : ℕ). ¬ IsInline n) (sym (said_beside s.words s.wide (head 0) first_stores refl ∙ s.made)) not_inline

  abbrev pub misses : StepFrom (commit_miss 2 first_value) closes.0
  misses = (
    _,
    record {
      view = _;
      makes = record { there = refl; live = refl };
      asked = record {
        write = record {
          intends = ((omega arith, omega arith, tt), refl);
          fresh = fresh;
          write = refl;
          covers = covers_row _ _ _ 0 refl refl (refl, not_in_words);
        };
        alone = refl;
        below = omega (arith, room);
      };
      moved = λ e. let t = three in absurd (omega arith);
      after = refl;
    },
  )

  abbrev pub loads_again : StepFrom (place_load 2) misses.0
  loads_again = (_, record { view = _; makes = record { there = refl; live = refl }; after = refl })

  -- the place is the third still
  pub three_still : words_of (with_stores written_words (close ∷ loads place ∷ loads place ∷ [])) place ≡ 3
  three_still =
      said_beside (with_stores written_words (close ∷ [])) (wide_with written_words (close ∷ []) written_wide) place (loads place ∷ loads place ∷ []) refl
      ∙ three

  pub fresh_again : (nat_lt 2 limits.place_max || nat_lt 3 limits.place_max) ≡ true
  fresh_again = ap (λ (b : Bool). b || nat_lt 3 limits.place_max) fresh

  abbrev pub commits_there : StepFrom (commit_if 2 first_value) loads_again.0
  commits_there = (
    _,
    record {
      view = _;
      makes = record { there = refl; live = refl };
      asked = record {
        write = record {
          intends = ((omega arith, omega arith, tt), refl);
          fresh = fresh_again;
          write = refl;
          covers = covers_row _ _ _ 0 refl refl (refl, not_in_words);
        };
        alone = refl;
        below = omega (arith, room);
      };
      found = three_still;
      after = refl;
    },
  )

  abbrev pub loads_head : StepFrom (head_load 2 1) commits_there.0
  loads_head = (_, record { view = _; makes = record { there = refl; live = refl }; object = omega arith; after = refl })

  abbrev pub loads_value : StepFrom (inline_load 2 1 0) loads_head.0
  loads_value = (_, record { view = _; makes = record { there = refl; live = refl }; object = omega arith; index = omega arith; after = refl })

  abbrev pub loads_key : StepFrom (key_load 2 1 0) loads_value.0
  loads_key = (_, record { view = _; makes = record { there = refl; live = refl }; class = omega arith; index = omega arith; after = refl })

  pub value_leads : Leads opening value_events start loads_key.0
  value_leads = (_, takes_row.1, (_, opens.1, (_, stores.1, (_, takes_other.1, (_, loads_place.1, (_, intends.1, (_, intends_more.1, writes_lead)))))))
    where
      writes_lead : Leads opening (drop 7 value_events) intends_more.0 loads_key.0
      writes_lead = (_, other_loads.1, (_, commits.1, (_, closes.1, (_, misses.1, (_, loads_again.1, (_, commits_there.1, (_, loads_head.1, (_, loads_value.1, (_, loads_key.1, refl)))))))))
