-- The third part of the run that is written out: the first pass makes an object.
use Rattle.std.proofs.Common.{◌≡◌, ℕ, suc, ◌<◌, ◌≤◌, ◌%◌, true, false, List, [], ◌∷◌, ◌++◌, length, refl, sym, ap, ◌∙◌, subst, inl, arith}
use Rattle.std.specs.Prelude.{Some, nat_lt}
use Rattle.std.proofs.lemmas.Bool.Decides.{nat_tests}
use mathlib.Core.Option.{some}
use mathlib.Core.Option as maybe
use Rattle.at_value.specs.declared.limits.Limits.{Limits}
use Rattle.at_model.specs.World.{opening}
use Rattle.at_dict.specs.Dictionary.{Dictionary}
use Rattle.at_view.specs.declared.view.TypeLists.{TypeLists}
use Rattle.at_view.specs.declared.view.View.{View}
use Rattle.at_view.specs.Words.{Word, table_words, place, intent, head, row_lock}
use Rattle.at_core.specs.declared.lock.Lock.TheVariants as locks
use Rattle.at_core.specs.declared.stored.Stored.TheVariants as stored
use Rattle.at_core.specs.Heads.{sequence_of, dictionary}
use Rattle.at_core.specs.Rule.{Slot, Homes, words_of}
use Rattle.at_core.specs.Runs.{Core, Event, Hands, words_at, lock_take, lock_give, head_open, place_load, intent_store, commit, head_close, Goes, Leads}
use Rattle.at_core.specs.SomeRun.{new_class, new_object, head_of, word_in, object_events}
use Rattle.at_core.proofs.SomeRunWords.{Store, puts, loads, with_stores, are_beside, said_here, said_beside, wide_with}
use Rattle.at_core.proofs.SomeRunWrites.{covers_moved}

-- what is known once a class is made
pub record ObjectStart : Type 0 where
  pub words : List ℕ
  pub wide : length words ≡ table_words
  pub one : words_of words place ≡ 1
  pub row_free : words_of words (row_lock 0) ≡ 0
  pub unmade : words_of words (head 0) ≡ 0
  pub types : maybe.Option Slot
  pub body : Dictionary
  pub empty : body.map ≡ []
  pub homes : Homes
  pub first : View
  pub second : View
  pub third : View
  pub hands : Hands
  pub lists : TypeLists

module _ (limits : Limits) (room : 4 ≤ limits.place_max) (heads : 0 < limits.head_max) (s : ObjectStart) where
  -- the first pass, which has the lock of the types and no row
  abbrev pub mover : View
  mover = record s.first {
    who = record s.first.who { live = true; number = 0; limits = limits };
    history = record s.first.history { seen = new_class ∷ [] };
    intent = record { words = word_in new_class 0 ∷ 0 ∷ 0 ∷ 0 ∷ []; fresh = false };
    types = record s.first.types { hold = record s.first.types.hold { held = true } };
    holds = [];
    rows = [];
  }

  abbrev pub start : Core
  start = record {
    table = record { words = s.words; homes = s.types ∷ some (Some (stored.Body s.body)) ∷ s.homes; views = mover ∷ s.second ∷ s.third ∷ [] };
    hands = s.hands;
    ghost = record { history = new_class ∷ []; lists = s.lists };
  }

  abbrev StepFrom : Event → Core → Type 0
  StepFrom event a = (b : Core) × Goes opening event a b

  abbrev pub takes_row : StepFrom (lock_take 0 (locks.Row 0)) start
  takes_row = (_, record { view = _; value = stored.Body s.body; makes = record { there = refl; live = refl }; asked = refl; is_lock = refl; free = s.row_free; home = refl; after = refl })

  pub below : sequence_of (words_of s.words (head 0)) < limits.head_max
  below = subst (λ (n : ℕ). sequence_of n < limits.head_max) (sym s.unmade) heads

  abbrev pub opens : StepFrom (head_open 0 0) takes_row.0
  opens = (_, record { view = _; makes = record { there = refl; live = refl }; object = omega arith; asked = record { held = refl; whole = ap (λ (n : ℕ). n % 2) s.unmade; below = below }; after = refl })

  -- the head is open
  pub odd : suc (words_of s.words (head 0)) % 2 ≡ 1
  odd = ap (λ (n : ℕ). suc n % 2) s.unmade

  abbrev pub loads_place : StepFrom (place_load 0) opens.0
  loads_place = (_, record { view = _; makes = record { there = refl; live = refl }; after = refl })

  abbrev pub intends : StepFrom (intent_store 0 0 (word_in new_object 0)) loads_place.0
  intends = (_, record { view = _; makes = record { there = refl; live = refl }; index = omega arith; after = refl })

  pub fresh : nat_lt 1 limits.place_max ≡ true
  fresh = let yes : nat_lt 1 limits.place_max ≡ true = grind (arith, nat_tests, room) in yes

  abbrev pub commits : StepFrom (commit 0 new_object) intends.0
  commits = (
    _,
    record {
      view = _;
      makes = record { there = refl; live = refl };
      asked = record {
        write = record {
          intends = (omega arith, refl);
          fresh = fresh;
          write = refl;
          covers = covers_moved _ _ _ 0 refl refl (refl, odd);
        };
        types = refl;
      };
      after = refl;
    },
  )

  abbrev pub closes : StepFrom (head_close 0 0 (head_of dictionary 0)) commits.0
  closes = (
    _,
    record {
      view = _;
      makes = record { there = refl; live = refl };
      object = omega arith;
      asked = record {
        held = refl;
        is = (omega arith, omega arith);
        whole = refl;
        next = ap (λ (n : ℕ). suc (sequence_of (suc n))) (sym s.unmade);
        made = λ e. absurd (omega arith);
        says = record {
          object = record { absent = λ e. absurd (omega arith); present = λ e. refl };
          blank = λ e. absurd (omega arith);
          row = λ e. absurd (omega arith);
          values = λ e. absurd (omega arith);
        };
        stays = λ e. refl;
        named = λ e. inl refl;
      };
      after = refl;
    },
  )

  abbrev pub gives_row : StepFrom (lock_give 0 (locks.Row 0)) closes.0
  gives_row = (
    _,
    record {
      view = _;
      value = stored.Body s.body;
      back = _;
      makes = record { there = refl; live = refl };
      is_lock = refl;
      in_hand = refl;
      asked = record { held = refl; returns = refl; agrees = (s.body, refl, record { full = λ e. s.empty; empty = λ e. s.empty }); shut = refl };
      after = refl;
    },
  )

  pub object_leads : Leads opening object_events start gives_row.0
  object_leads = (_, takes_row.1, (_, opens.1, (_, loads_place.1, (_, intends.1, (_, commits.1, (_, closes.1, (_, gives_row.1, refl)))))))

  -- What the words say then

  -- those before the write, and those after it
  abbrev pub earlier : List Store
  earlier =
      puts (row_lock 0) 1 ∷ puts (head 0) (suc (words_of s.words (head 0))) ∷ loads place ∷ puts (intent 0 0) (word_in new_object 0) ∷ []

  abbrev pub write : Store
  write = puts place (suc (words_of (with_stores s.words earlier) place))

  abbrev pub later : List Store
  later = puts (head 0) (head_of dictionary 0) ∷ puts (row_lock 0) 0 ∷ []

  abbrev written_words : List ℕ
  written_words = with_stores (with_stores s.words earlier) (write ∷ [])

  written_wide : length written_words ≡ table_words
  written_wide = wide_with (with_stores s.words earlier) (write ∷ []) (wide_with s.words earlier s.wide)

  abbrev closed_words : List ℕ
  closed_words = with_stores written_words (puts (head 0) (head_of dictionary 0) ∷ [])

  closed_wide : length closed_words ≡ table_words
  closed_wide = wide_with written_words (puts (head 0) (head_of dictionary 0) ∷ []) written_wide

  pub object_wide : length gives_row.0.table.words ≡ table_words
  object_wide = wide_with closed_words (puts (row_lock 0) 0 ∷ []) closed_wide

  pub two : words_at gives_row.0 place ≡ 2
  two =
      said_beside written_words written_wide place later refl
      ∙ (said_here (with_stores s.words earlier) (wide_with s.words earlier s.wide) place _ refl
      ∙ ap suc (said_beside s.words s.wide place earlier refl ∙ s.one))

  pub row_free_again : words_at gives_row.0 (row_lock 0) ≡ 0
  row_free_again = said_here closed_words closed_wide (row_lock 0) 0 refl

  pub made : words_at gives_row.0 (head 0) ≡ head_of dictionary 0
  made = said_beside closed_words closed_wide (head 0) (puts (row_lock 0) 0 ∷ []) refl ∙ said_here written_words written_wide (head 0) (head_of dictionary 0) refl

  abbrev pub all_stores : List Store
  all_stores = (earlier ++ write ∷ []) ++ later

  pub object_stays : (a : Word) → are_beside a all_stores ≡ true → words_at gives_row.0 a ≡ words_of s.words a
  object_stays a beside = said_beside s.words s.wide a all_stores beside
