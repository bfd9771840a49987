-- The second part of the run that is written out: a pass splits off, a key is appended, and a class is made.
use Rattle.std.proofs.Common.{◌≡◌, ℕ, suc, ◌≤◌, true, false, List, [], ◌∷◌, ◌++◌, length, refl, ap, ◌∙◌, arith}
use Rattle.std.specs.Prelude.{Some, nat_lt, slice_index}
use Rattle.std.proofs.lemmas.Bool.Decides.{nat_tests}
use mathlib.Core.Option.{some}
use Rattle.at_value.specs.declared.limits.Limits.{Limits}
use Rattle.at_model.specs.World.{opening}
use Rattle.at_view.specs.declared.view.TypeLists.{TypeLists}
use Rattle.at_view.specs.declared.view.View.{View}
use Rattle.at_view.specs.Counts.{keys}
use Rattle.at_view.specs.Views.{blank}
use Rattle.at_view.specs.Words.{Word, table_words, place, type_lock, intent, key}
use Rattle.at_core.specs.declared.lock.Lock.TheVariants as locks
use Rattle.at_core.specs.declared.stored.Stored.{Stored}
use Rattle.at_core.specs.Rule.{Homes, listed, words_of}
use Rattle.at_core.specs.Runs.{Core, Event, Hands, lock_take, slot_out, split, place_load, intent_store, commit, key_append, opening_numbers, words_at, Goes, Leads}
use Rattle.at_core.specs.SomeRun.{new_class, word_in, class_events}
use Rattle.at_core.proofs.SomeRunWords.{Store, puts, loads, with_stores, listed_zero, are_beside, said_here, said_beside, wide_with}
use Rattle.at_core.proofs.SomeRunWrites.{one_base, covers_none}

-- what is known of words, slots, views and lists once the first part is done
pub record ClassStart : Type 0 where
  pub words : List ℕ
  pub wide : length words ≡ table_words
  pub unwritten : words_of words place ≡ 0
  pub free : words_of words type_lock ≡ 0
  pub keyless : (i : ℕ) → words_of words (key 1 i) ≡ 0
  pub types : Stored
  pub homes : Homes
  pub first : View
  pub second : View
  pub hands : Hands
  pub lists : TypeLists

module _ (limits : Limits) (room : 4 ≤ limits.place_max) (s : ClassStart) where
  -- the first pass, which has no lock and intends nothing
  abbrev pub mover : View
  mover = record s.first {
    who = record s.first.who { live = true; number = 0; limits = limits };
    history = record s.first.history { seen = [] };
    intent = blank.intent;
    types = record s.first.types { hold = record s.first.types.hold { held = false } };
    holds = [];
    rows = [];
  }

  abbrev pub start : Core
  start = record {
    table = record { words = s.words; homes = some (Some s.types) ∷ s.homes; views = mover ∷ s.second ∷ [] };
    hands = s.hands;
    ghost = record { history = []; lists = record s.lists { numbers = opening_numbers } };
  }

  abbrev StepFrom : Event → Core → Type 0
  StepFrom event a = (b : Core) × Goes opening event a b

  abbrev pub takes_types : StepFrom (lock_take 0 locks.Types) start
  takes_types = (_, record { view = _; value = s.types; makes = record { there = refl; live = refl }; asked = refl; is_lock = refl; free = s.free; home = refl; after = refl })

  abbrev pub has_types_out : StepFrom (slot_out 0 locks.Types) takes_types.0
  has_types_out = (_, (s.types, record { view = _; makes = record { there = refl; live = refl }; is_lock = refl; asked = refl; in_hand = refl; after = refl }))

  abbrev pub splits_off : StepFrom (split 0) has_types_out.0
  splits_off = (_, record { view = _; number = 1; makes = record { there = refl; live = refl }; out = refl; asked = record { alone = record { types = refl; rows = λ o. refl }; free = refl }; after = refl })

  -- no key of the class is used
  pub no_key : (i : ℕ) → slice_index (listed keys (λ j. words_of s.words (key 1 j))) i ≡ 0
  no_key i = listed_zero keys (λ j. words_of s.words (key 1 j)) s.keyless i

  abbrev pub appends : StepFrom (key_append 0 1 0 20) splits_off.0
  appends = (
    _,
    record {
      view = _;
      makes = record { there = refl; live = refl };
      asked = record {
        held = refl;
        class = omega arith;
        index = omega arith;
        unused = no_key 0;
        earlier = λ j lt. absurd (omega arith);
        name = omega arith;
        absent = λ i e. let z = no_key i in absurd (omega arith);
      };
      after = refl;
    },
  )

  abbrev pub loads_place : StepFrom (place_load 0) appends.0
  loads_place = (_, record { view = _; makes = record { there = refl; live = refl }; after = refl })

  abbrev pub intends : StepFrom (intent_store 0 0 (word_in new_class 0)) loads_place.0
  intends = (_, record { view = _; makes = record { there = refl; live = refl }; index = omega arith; after = refl })

  pub fresh : nat_lt 0 limits.place_max ≡ true
  fresh = let yes : nat_lt 0 limits.place_max ≡ true = grind (arith, nat_tests, room) in yes

  abbrev pub commits : StepFrom (commit 0 new_class) intends.0
  commits = (
    _,
    record {
      view = _;
      makes = record { there = refl; live = refl };
      asked = record {
        write = record {
          intends = ((omega arith, (omega arith, one_base)), refl);
          fresh = fresh;
          write = refl;
          covers = covers_none _ _ _ refl refl;
        };
        types = refl;
      };
      after = refl;
    },
  )

  pub class_leads : Leads opening class_events start commits.0
  class_leads = (_, takes_types.1, (_, has_types_out.1, (_, splits_off.1, (_, appends.1, (_, loads_place.1, (_, intends.1, (_, commits.1, refl)))))))

  -- What the words say then

  -- those before the write
  abbrev pub stores : List Store
  stores =
      puts type_lock 1 ∷ puts (key 1 0) 21 ∷ loads place ∷ puts (intent 0 0) (word_in new_class 0) ∷ []

  pub one : words_at commits.0 place ≡ 1
  one = said_here (with_stores s.words stores) (wide_with s.words stores s.wide) place _ refl ∙ ap suc (said_beside s.words s.wide place stores refl ∙ s.unwritten)

  abbrev pub write : Store
  write = puts place (suc (words_of (with_stores s.words stores) place))

  pub class_wide : length commits.0.table.words ≡ table_words
  class_wide = wide_with (with_stores s.words stores) (write ∷ []) (wide_with s.words stores s.wide)

  abbrev pub all_stores : List Store
  all_stores = stores ++ write ∷ []

  pub class_stays : (a : Word) → are_beside a all_stores ≡ true → words_at commits.0 a ≡ words_of s.words a
  class_stays a beside = said_beside s.words s.wide a all_stores beside
