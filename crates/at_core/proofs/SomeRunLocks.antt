-- The first part of the run that is written out: locks, passes and sequences.
use Rattle.std.proofs.Common.{◌≡◌, ◌≢◌, ℕ, zero, suc, ◌<◌, ◌%◌, Bool, true, false, true≢false, List, [], ◌∷◌, ◌++◌, length, take, drop, refl, sym, ap, ◌∙◌, subst, arith}
use Rattle.std.specs.Prelude.{Some, None, ◌&&◌, not}
use mathlib.Core.Option.{some}
use Rattle.at_value.specs.declared.limits.Limits.{Limits}
use Rattle.at_model.specs.World.{opening}
use Rattle.at_dict.specs.Dictionary.{Dictionary}
use Rattle.at_view.specs.declared.view.TypeLists.{TypeLists}
use Rattle.at_view.specs.declared.view.View.{View}
use Rattle.at_view.specs.Views.{first_view}
use Rattle.at_view.specs.Words.{Word, is_same, table_words, type_lock, global_sequence, own_sequence, row_lock, head}
use Rattle.at_core.specs.declared.lock.Lock as lock
use Rattle.at_core.specs.declared.lock.Lock.TheVariants as locks
use Rattle.at_core.specs.declared.stored.Stored.{Stored}
use Rattle.at_core.specs.declared.stored.Stored.TheVariants as stored
use Rattle.at_core.specs.Locks.{slot_of, holds}
use Rattle.at_core.specs.Rule.{Homes, TypesAgree, words_of}
use Rattle.at_core.specs.Steps.{Moment, taken, missed, given, lists_parted, child, lists_joined}
use Rattle.at_core.specs.Runs.{Core, Event, lock_take, lock_miss, lock_give, slot_out, slot_in, split, join, global_load, go_online, go_offline, moment_of, words_at, opening_lists, Goes, Leads}
use Rattle.at_core.specs.SomeRun.{lock_events}
use Rattle.at_core.proofs.SomeRunWords.{Store, puts, loads, with_stores, are_beside, said_here, said_beside, wide_with}
use Rattle.at_core.proofs.LockLemmas.{hold_beside, hold_kept}
use Rattle.at_core.proofs.Opening.{no_dictionary}

-- a new pass that found a lock held, and took a row and gave it back, has no lock
row_let_go : (v : View) (n : ℕ) (at : Moment) (l : lock.Lock) → holds l (given (locks.Row 0) (taken (locks.Row 0) (missed locks.Types (child v) n) at)) ≡ false
row_let_go v n at locks.Types = refl
row_let_go v n at (locks.Row zero) = refl
row_let_go v n at (locks.Row (suc o)) =
    let ne : locks.Row (suc o) ≢ locks.Row 0 = λ e. let same = ap slot_of e in omega arith in
    ap (λ h. h.held) (hold_kept (locks.Row (suc o)) (locks.Row 0) (taken (locks.Row 0) (missed locks.Types (child v) n) at) ne ∙ hold_beside (locks.Row (suc o)) (locks.Row 0) (missed locks.Types (child v) n) at ne)

-- what is known at first of words and slots
pub record LockStart (limits : Limits) : Type 0 where
  pub words : List ℕ
  pub wide : length words ≡ table_words
  pub free : words_of words type_lock ≡ 0
  pub row_free : words_of words (row_lock 0) ≡ 0
  pub unmade : words_of words (head 0) ≡ 0
  pub begun : 0 < words_of words global_sequence
  pub types : Stored
  pub agrees : (t : _) × (types ≡ stored.Types t) × TypesAgree limits.tags opening (opening_lists limits) t.value
  pub body : Dictionary
  pub empty : body.map ≡ []
  pub homes : Homes

module _ (limits : Limits) (s : LockStart limits) where
  abbrev pub start : Core
  start = record {
    table = record { words = s.words; homes = some (Some s.types) ∷ some (Some (stored.Body s.body)) ∷ s.homes; views = first_view limits ∷ [] };
    hands = λ id slot. None;
    ghost = record { history = []; lists = opening_lists limits };
  }

  -- The types that are put in

  -- the lists once the second pass is split off, and once it is taken in
  abbrev pub split_lists : TypeLists
  split_lists = lists_parted (opening_lists limits)

  abbrev pub join_lists : TypeLists
  join_lists = lists_joined split_lists 1

  -- the types with other numbers
  abbrev pub types_with : List Bool → Stored
  types_with numbers = stored.Types (record s.agrees.0 { value = record s.agrees.0.value { numbers = numbers } })

  pub agree_with : (lists : TypeLists) → lists.pool ≡ (opening_lists limits).pool → lists.limbo ≡ (opening_lists limits).limbo
      → (t : _) × (types_with lists.numbers ≡ stored.Types t) × TypesAgree limits.tags opening lists t.value
  agree_with lists pool limbo =
      let g = s.agrees.2 in
      (_, refl, record { stands = record { classes = g.stands.classes; objects = g.stands.objects }; size = g.size; numbers = refl; pool = g.pool ∙ sym pool; limbo = g.limbo ∙ sym limbo })

  -- The words: the lock of the types is taken, found held and given back, and then a row is taken and given back

  abbrev held_words : List ℕ
  held_words = with_stores s.words (puts type_lock 1 ∷ [])

  abbrev freed_words : List ℕ
  freed_words = with_stores held_words (loads type_lock ∷ puts type_lock 0 ∷ [])

  held_wide : length held_words ≡ table_words
  held_wide = wide_with s.words (puts type_lock 1 ∷ []) s.wide

  freed_wide : length freed_words ≡ table_words
  freed_wide = wide_with held_words (loads type_lock ∷ puts type_lock 0 ∷ []) held_wide

  busy : words_of held_words type_lock ≡ 1
  busy = said_here s.words s.wide type_lock 1 refl

  -- the lock of the types is free again, and no other word has changed
  abbrev row_stores : List Store
  row_stores = puts (row_lock 0) 2 ∷ puts (row_lock 0) 0 ∷ []

  still : (a : Word) → is_same a type_lock ≡ false → words_of freed_words a ≡ words_of s.words a
  still a ne = said_beside s.words s.wide a (puts type_lock 1 ∷ loads type_lock ∷ puts type_lock 0 ∷ []) (ap (λ (b : Bool). not b && (not b && true)) ne)

  missed_wide : length (with_stores held_words (loads type_lock ∷ [])) ≡ table_words
  missed_wide = wide_with held_words (loads type_lock ∷ []) held_wide

  free_again : words_of (with_stores freed_words row_stores) type_lock ≡ 0
  free_again =
      said_beside freed_words freed_wide type_lock row_stores refl
      ∙ said_here (with_stores held_words (loads type_lock ∷ [])) missed_wide type_lock 0 refl

  -- The steps, each from where the one before leads

  abbrev StepFrom : Event → Core → Type 0
  StepFrom event a = (b : Core) × Goes opening event a b

  abbrev takes_types : StepFrom (lock_take 0 locks.Types) start
  takes_types = (_, record { view = _; value = s.types; makes = record { there = refl; live = refl }; asked = refl; is_lock = refl; free = s.free; home = refl; after = refl })

  abbrev has_types_out : StepFrom (slot_out 0 locks.Types) takes_types.0
  has_types_out = (_, (s.types, record { view = _; makes = record { there = refl; live = refl }; is_lock = refl; asked = refl; in_hand = refl; after = refl }))

  abbrev splits_off : StepFrom (split 0) has_types_out.0
  splits_off = (_, record { view = _; number = 1; makes = record { there = refl; live = refl }; out = refl; asked = record { alone = record { types = refl; rows = λ o. refl }; free = refl }; after = refl })

  abbrev puts_types_in : StepFrom (slot_in 0 locks.Types (types_with split_lists.numbers)) splits_off.0
  puts_types_in = (_, record { view = _; makes = record { there = refl; live = refl }; is_lock = refl; asked = refl; in_hand = refl; after = refl })

  abbrev finds_held : StepFrom (lock_miss 1 locks.Types) puts_types_in.0
  finds_held = (_, record { view = _; makes = record { there = refl; live = refl }; is_lock = refl; asked = refl; busy = λ e. let b = busy in absurd (omega arith); after = refl })

  abbrev gives_types : StepFrom (lock_give 0 locks.Types) finds_held.0
  gives_types = (
    _,
    record {
      view = _;
      value = types_with split_lists.numbers;
      back = split_lists;
      makes = record { there = refl; live = refl };
      is_lock = refl;
      in_hand = refl;
      asked = record { held = refl; returns = refl; agrees = agree_with split_lists refl refl; shut = λ o on. absurd (true≢false (sym on)) };
      after = refl;
    },
  )

  abbrev takes_row : StepFrom (lock_take 1 (locks.Row 0)) gives_types.0
  takes_row = (_, record { view = _; value = stored.Body s.body; makes = record { there = refl; live = refl }; asked = refl; is_lock = refl; free = still (row_lock 0) refl ∙ s.row_free; home = refl; after = refl })

  abbrev gives_row : StepFrom (lock_give 1 (locks.Row 0)) takes_row.0
  gives_row = (
    _,
    record {
      view = _;
      value = stored.Body s.body;
      back = _;
      makes = record { there = refl; live = refl };
      is_lock = refl;
      in_hand = refl;
      asked = record { held = refl; returns = refl; agrees = (s.body, refl, record { full = λ h. absurd (no_dictionary _ (still (head 0) refl ∙ s.unmade) h); empty = λ _. s.empty }); shut = ap (λ (n : ℕ). n % 2) (still (head 0) refl ∙ s.unmade) };
      after = refl;
    },
  )

  abbrev takes_again : StepFrom (lock_take 0 locks.Types) gives_row.0
  takes_again = (_, record { view = _; value = types_with split_lists.numbers; makes = record { there = refl; live = refl }; asked = refl; is_lock = refl; free = free_again; home = refl; after = refl })

  abbrev has_out_again : StepFrom (slot_out 0 locks.Types) takes_again.0
  has_out_again = (_, (types_with split_lists.numbers, record { view = _; makes = record { there = refl; live = refl }; is_lock = refl; asked = refl; in_hand = refl; after = refl }))

  abbrev takes_in : StepFrom (join 0 1) has_out_again.0
  takes_in = (
    _,
    record {
      view = _;
      joined = _;
      makes = record { there = refl; live = refl };
      apart = λ e. omega arith;
      ends = record { there = refl; live = refl };
      out = refl;
      asked = record {
        alone = record { types = refl; rows = λ o. refl };
        child = omega arith;
        lockless = row_let_go (taken locks.Types (first_view limits) (moment_of start)) (words_of held_words type_lock) (moment_of gives_types.0);
        closed = refl;
        offline = refl;
      };
      after = refl;
    },
  )

  abbrev puts_in_again : StepFrom (slot_in 0 locks.Types (types_with join_lists.numbers)) takes_in.0
  puts_in_again = (_, record { view = _; makes = record { there = refl; live = refl }; is_lock = refl; asked = refl; in_hand = refl; after = refl })

  abbrev gives_again : StepFrom (lock_give 0 locks.Types) puts_in_again.0
  gives_again = (
    _,
    record {
      view = _;
      value = types_with join_lists.numbers;
      back = join_lists;
      makes = record { there = refl; live = refl };
      is_lock = refl;
      in_hand = refl;
      asked = record { held = refl; returns = refl; agrees = agree_with join_lists refl refl; shut = λ o on. absurd (true≢false (sym on)) };
      after = refl;
    },
  )

  -- the global sequence has not changed
  abbrev pub offline_stores : List Store
  offline_stores = puts type_lock 1 ∷ loads type_lock ∷ puts type_lock 0 ∷ puts (row_lock 0) 2 ∷ puts (row_lock 0) 0 ∷ puts type_lock 1 ∷ puts type_lock 0 ∷ puts (own_sequence 0) 0 ∷ []

  abbrev pub offline_words : List ℕ
  offline_words = with_stores s.words offline_stores

  pub global_still : words_of offline_words global_sequence ≡ words_of s.words global_sequence
  global_still = said_beside s.words s.wide global_sequence offline_stores refl

  abbrev leaves : StepFrom (go_offline 0) gives_again.0
  leaves = (_, record { view = _; makes = record { there = refl; live = refl }; asked = record { closed = refl }; after = refl })

  abbrev looks_up : StepFrom (global_load 0) leaves.0
  looks_up = (_, record { view = _; makes = record { there = refl; live = refl }; after = refl })

  abbrev pub returns : StepFrom (go_online 0) looks_up.0
  returns = (_, record { view = _; makes = record { there = refl; live = refl }; asked = record { offline = refl; loaded = subst (λ (n : ℕ). 0 < n) (sym global_still) s.begun; closed = refl }; after = refl })

  -- those from the seventh on, and all
  leads_on : Leads opening (drop 6 (lock_events (types_with split_lists.numbers) (types_with join_lists.numbers))) gives_types.0 returns.0
  leads_on = (_, takes_row.1, (_, gives_row.1, (_, takes_again.1, (_, has_out_again.1, (_, takes_in.1, (_, puts_in_again.1, (_, gives_again.1, (_, leaves.1, (_, looks_up.1, (_, returns.1, refl))))))))))

  pub locks_lead : Leads opening (lock_events (types_with split_lists.numbers) (types_with join_lists.numbers)) start returns.0
  locks_lead = (_, takes_types.1, (_, has_types_out.1, (_, splits_off.1, (_, puts_types_in.1, (_, finds_held.1, (_, gives_types.1, leads_on))))))

  -- What the words say then

  abbrev pub later_stores : List Store
  later_stores = loads global_sequence ∷ puts (own_sequence 0) (words_of offline_words global_sequence) ∷ []

  abbrev pub all_stores : List Store
  all_stores = offline_stores ++ later_stores

  pub locks_wide : length returns.0.table.words ≡ table_words
  locks_wide = wide_with s.words all_stores s.wide

  pub stays : (a : Word) → are_beside a all_stores ≡ true → words_at returns.0 a ≡ words_of s.words a
  stays a beside = said_beside s.words s.wide a all_stores beside

  pub type_lock_free : words_at returns.0 type_lock ≡ 0
  type_lock_free =
      said_beside (with_stores s.words (take 7 all_stores)) (wide_with s.words (take 7 all_stores) s.wide) type_lock (drop 7 all_stores) refl
      ∙ said_here (with_stores s.words (take 6 all_stores)) (wide_with s.words (take 6 all_stores) s.wide) type_lock 0 refl

  pub row_lock_free : words_at returns.0 (row_lock 0) ≡ 0
  row_lock_free =
      said_beside (with_stores s.words (take 5 all_stores)) (wide_with s.words (take 5 all_stores) s.wide) (row_lock 0) (drop 5 all_stores) refl
      ∙ said_here (with_stores s.words (take 4 all_stores)) (wide_with s.words (take 4 all_stores) s.wide) (row_lock 0) 0 refl
