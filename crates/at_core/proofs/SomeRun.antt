-- The run that is written out.
use Rattle.std.proofs.Common.{◌≡◌, ℕ, zero, suc, ◌-◌, ◌<◌, ◌≤◌, Bool, true, false, List, [], ◌∷◌, ◌++◌, map, get_or, drop, refl, sym, ap, ◌∙◌, subst, arith}
use Rattle.std.specs.Prelude.{Some, None, if◌then◌else◌}
use Rattle.std.proofs.lemmas.List.{get_or-replicate}
use mathlib.Core.Option.{some, none, some-injective, some-ne-none}
use lib.ListN.{get_elem?}
use Rattle.atomic_table.specs.Table as tables
use Rattle.at_value.specs.declared.limits.Limits.{Limits}
use Rattle.at_model.specs.World.{World, opening}
use Rattle.at_dict.specs.Dictionary.{Dictionary}
use Rattle.at_view.specs.Views.{blank, first_view}
use Rattle.at_view.specs.Words.{Word, number_of, is_there, table_words, place, key, head, inline_value, row_lock}
use Rattle.at_view.proofs.WordLaws.{inside}
use Rattle.at_core.specs.declared.lock.Lock.TheVariants as locks
use Rattle.at_core.specs.declared.stored.Stored.{Stored}
use Rattle.at_core.specs.declared.stored.Stored.TheVariants as stored
use Rattle.at_core.specs.Rule.{Slot, TypesAgree, words_of}
use Rattle.at_core.specs.Runs.{Core, Event, lock_take, lock_miss, lock_give, slot_out, slot_in, split, join, global_load, go_online, go_offline, place_load, intent_store, commit, commit_if, commit_miss, head_load, inline_load, key_load, head_open, head_close, inline_store, key_append, opening_lists, opening_words, Leads}
use Rattle.at_core.specs.SomeRun.{some_events, lock_events, class_events, object_events, value_events, HaveEachKind, SomeRunGoes}
use Rattle.at_core.proofs.SomeRunWords.{are_beside}
use Rattle.at_core.proofs.SomeRunLocks as first_part
use Rattle.at_core.proofs.SomeRunLocks.{LockStart}
use Rattle.at_core.proofs.SomeRunClass as second_part
use Rattle.at_core.proofs.SomeRunClass.{ClassStart}
use Rattle.at_core.proofs.SomeRunObject as third_part
use Rattle.at_core.proofs.SomeRunObject.{ObjectStart}
use Rattle.at_core.proofs.SomeRunValue as last_part
use Rattle.at_core.proofs.SomeRunValue.{ValueStart}
use Rattle.at_core.proofs.Opening.{first_core, has_index, free_at_first, head_at_first, long_enough}

pub have_each_kind : HaveEachKind
have_each_kind x y (lock_take id l) = (0, omega arith, refl)
have_each_kind x y (slot_out id l) = (1, omega arith, refl)
have_each_kind x y (split id) = (2, omega arith, refl)
have_each_kind x y (slot_in id l z) = (3, omega arith, refl)
have_each_kind x y (lock_miss id l) = (4, omega arith, refl)
have_each_kind x y (lock_give id l) = (5, omega arith, refl)
have_each_kind x y (join id other) = (10, omega arith, refl)
have_each_kind x y (go_offline id) = (13, omega arith, refl)
have_each_kind x y (global_load id) = (14, omega arith, refl)
have_each_kind x y (go_online id) = (15, omega arith, refl)
have_each_kind x y (key_append id c i n) = (19, omega arith, refl)
have_each_kind x y (place_load id) = (20, omega arith, refl)
have_each_kind x y (intent_store id j n) = (21, omega arith, refl)
have_each_kind x y (commit id operation) = (22, omega arith, refl)
have_each_kind x y (head_open id o) = (24, omega arith, refl)
have_each_kind x y (inline_store id o i n) = (32, omega arith, refl)
have_each_kind x y (head_close id o n) = (28, omega arith, refl)
have_each_kind x y (commit_miss id operation) = (40, omega arith, refl)
have_each_kind x y (commit_if id operation) = (42, omega arith, refl)
have_each_kind x y (head_load id o) = (43, omega arith, refl)
have_each_kind x y (inline_load id o i) = (44, omega arith, refl)
have_each_kind x y (key_load id c i) = (45, omega arith, refl)

-- events that follow others
leads_then : (opened : World) (events more : List Event) (a b c : Core) → Leads opened events a b → Leads opened more b c → Leads opened (events ++ more) a c
leads_then opened [] more a b c first next = subst (λ s. Leads opened more s c) first next
leads_then opened (event ∷ events) more a b c first next = (first.0, first.1, leads_then opened events more first.0 b c first.2 next)

-- at first each word from the fifth on is 0
zero_at_first : (a : Word) → 4 ≤ number_of a → words_of opening_words a ≡ 0
zero_at_first a le = by_test (is_there a) refl
  where
    late : (i : ℕ) → 4 ≤ i → i < table_words → ◌≡◌ {A = ℕ} (get_or opening_words i 0) 0
    late i from lt =
        ap (λ (n : ℕ). get_or opening_words n 0) (let is : i ≡ suc (suc (suc (suc (i - 4)))) = omega arith in is)
        ∙ get_or-replicate (table_words - 4) (i - 4) 0 0 (omega arith)

    by_test : (t : Bool) → is_there a ≡ t → words_of opening_words a ≡ 0
    by_test true e = ap (λ (t : Bool). if t then get_or opening_words (number_of a) 0 else 0) e ∙ late (number_of a) le (inside a e)
    by_test false e = ap (λ (t : Bool). if t then get_or opening_words (number_of a) 0 else 0) e

-- where a list has this at an index, it goes on from there with it
goes_on : {A : Type 0} (xs : List A) (i : ℕ) (x : A) → get_elem? xs i ≡ some x → drop i xs ≡ x ∷ drop (suc i) xs
goes_on [] zero x e = absurd (some-ne-none x (sym e))
goes_on (y ∷ ys) zero x e = ap (λ z. z ∷ ys) (some-injective y x e)
goes_on [] (suc i) x e = absurd (some-ne-none x (sym e))
goes_on (y ∷ ys) (suc i) x e = goes_on ys i x e

-- the opening state with these values in its slots
abbrev opening_core : Limits → Stored → List Slot → Core
opening_core limits types bodies = record {
  table = tables.opening opening_words (Some types ∷ bodies) (first_view limits);
  hands = λ id slot. None;
  ghost = record { history = []; lists = opening_lists limits };
}

-- The parts one after another
module _ (limits : Limits) (room : 4 ≤ limits.place_max) (heads : 0 < limits.head_max)
    (types : Stored) (agrees : (t : _) × (types ≡ stored.Types t) × TypesAgree limits.tags opening (opening_lists limits) t.value)
    (body : Dictionary) (empty : body.map ≡ []) (next_body : Dictionary) (bodies : List Slot) where
  abbrev at_first : LockStart limits
  at_first = record {
    words = opening_words;
    wide = long_enough;
    free = free_at_first locks.Types;
    row_free = free_at_first (locks.Row 0);
    unmade = head_at_first 0;
    begun = omega arith;
    types = types;
    agrees = agrees;
    body = body;
    empty = empty;
    homes = some (Some (stored.Body next_body)) ∷ map some bodies;
  }

  abbrev locked : Core
  locked = (first_part.returns limits at_first).0

  abbrev joined : Stored
  joined = first_part.types_with limits at_first (first_part.join_lists limits at_first).numbers

  abbrev once_locked : ClassStart
  once_locked = record {
    words = locked.table.words;
    wide = first_part.locks_wide limits at_first;
    unwritten = first_part.stays limits at_first place refl;
    free = first_part.type_lock_free limits at_first;
    keyless = λ i. first_part.stays limits at_first (key 1 i) refl ∙ zero_at_first (key 1 i) (omega arith);
    types = joined;
    homes = drop 1 locked.table.homes;
    first = get_or locked.table.views 0 blank;
    second = get_or locked.table.views 1 blank;
    hands = locked.hands;
    lists = locked.ghost.lists;
  }

  abbrev classed : Core
  classed = (second_part.commits limits room once_locked).0

  -- a word that neither part changes
  still : (a : Word) → are_beside a (first_part.all_stores limits at_first) ≡ true → are_beside a (second_part.all_stores limits room once_locked) ≡ true
      → words_of classed.table.words a ≡ words_of opening_words a
  still a first second = second_part.class_stays limits room once_locked a second ∙ first_part.stays limits at_first a first

  abbrev once_classed : ObjectStart
  once_classed = record {
    words = classed.table.words;
    wide = second_part.class_wide limits room once_locked;
    one = second_part.one limits room once_locked;
    row_free = second_part.class_stays limits room once_locked (row_lock 0) refl ∙ first_part.row_lock_free limits at_first;
    unmade = still (head 0) refl refl ∙ head_at_first 0;
    types = none;
    body = body;
    empty = empty;
    homes = drop 2 classed.table.homes;
    first = get_or classed.table.views 0 blank;
    second = get_or classed.table.views 1 blank;
    third = get_or classed.table.views 2 blank;
    hands = classed.hands;
    lists = classed.ghost.lists;
  }

  abbrev made : Core
  made = (third_part.gives_row limits room heads once_classed).0

  still_more : (a : Word) → are_beside a (first_part.all_stores limits at_first) ≡ true → are_beside a (second_part.all_stores limits room once_locked) ≡ true
      → are_beside a (third_part.all_stores limits room heads once_classed) ≡ true → words_of made.table.words a ≡ words_of opening_words a
  still_more a first second third = third_part.object_stays limits room heads once_classed a third ∙ still a first second

  abbrev once_made : ValueStart
  once_made = record {
    words = made.table.words;
    wide = third_part.object_wide limits room heads once_classed;
    two = third_part.two limits room heads once_classed;
    row_free = third_part.row_free_again limits room heads once_classed;
    made = third_part.made limits room heads once_classed;
    next_free = still_more (row_lock 1) refl refl refl ∙ free_at_first (locks.Row 1);
    unmade = still_more (head 1) refl refl refl ∙ head_at_first 1;
    valueless = λ i. still_more (inline_value 1 i) refl refl refl ∙ zero_at_first (inline_value 1 i) (omega arith);
    types = none;
    row = stored.Body body;
    next_row = stored.Body next_body;
    homes = drop 3 made.table.homes;
    first = get_or made.table.views 0 blank;
    rowless = refl;
    second = get_or made.table.views 1 blank;
    third = get_or made.table.views 2 blank;
    hands = made.hands;
    lists = made.ghost.lists;
  }

  abbrev last : Core
  last = (last_part.loads_key limits room heads once_made).0

  abbrev parted : Stored
  parted = first_part.types_with limits at_first (first_part.split_lists limits at_first).numbers

  abbrev start : Core
  start = opening_core limits types (Some (stored.Body body) ∷ Some (stored.Body next_body) ∷ bodies)

  goes : (x y : Stored) × (b : Core) × Leads opening (some_events x y) start b
  goes =
      let lock : Leads opening (lock_events parted joined) start locked = first_part.locks_lead limits at_first in
      let class : Leads opening class_events locked classed = second_part.class_leads limits room once_locked in
      let object : Leads opening object_events classed made = third_part.object_leads limits room heads once_classed in
      let value : Leads opening value_events made last = last_part.value_leads limits room heads once_made in
      let later = leads_then opening class_events (object_events ++ value_events) locked classed last class (leads_then opening object_events value_events classed made last object value) in
      (parted, joined, last, leads_then opening (lock_events parted joined) (class_events ++ object_events ++ value_events) start locked last lock later)

pub some_run_goes : SomeRunGoes
some_run_goes limits a room heads o =
    let there = has_index o.slots_are.bodies 0 (let e = o.slots_are.long in omega arith) in
    let next = has_index o.slots_are.bodies 1 (let e = o.slots_are.long in omega arith) in
    let body = o.slots_are.empty 0 there.0 there.1 in
    let next_body = o.slots_are.empty 1 next.0 next.1 in
    let bodies_are : o.slots_are.bodies ≡ Some (stored.Body body.0) ∷ Some (stored.Body next_body.0) ∷ drop 2 o.slots_are.bodies =
    goes_on o.slots_are.bodies 0 there.0 there.1 ∙ (ap (λ x. x ∷ drop 1 o.slots_are.bodies) body.1
    ∙ ap (λ xs. Some (stored.Body body.0) ∷ xs) (goes_on o.slots_are.bodies 1 next.0 next.1 ∙ ap (λ x. x ∷ drop 2 o.slots_are.bodies) next_body.1)) in
    subst (λ s. (x y : Stored) × (b : Core) × Leads opening (some_events x y) s b)
    (sym (first_core opening limits a o ∙ ap (opening_core limits o.slots_are.types) bodies_are))
    (goes limits room heads o.slots_are.types o.slots_are.agrees body.0 body.2 next_body.0 (drop 2 o.slots_are.bodies))
