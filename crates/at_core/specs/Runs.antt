-- Runs of the core: steps by any passes in any order.
use Rattle.std.specs.Prelude.{ℕ, suc, ◌≡◌, ◌≢◌, ◌+◌, ◌-◌, ◌<◌, ◌^◌, ◌==◌, ◌&&◌, Bool, true, false, List, [], ◌∷◌, ◌++◌, length, replicate, Option, Some, None, is_some, slice_set, if◌then◌else◌}
use mathlib.Core.Option.{some}
use lib.ListN.{get_elem?}
use Rattle.atomic_table.specs.Table.{Act, keeps, takes, gives, stepped, opening}
use Rattle.at_value.specs.Widths.{classes, objects}
use Rattle.at_value.specs.declared.operation.Op as op
use Rattle.at_value.specs.declared.limits.Limits.{Limits}
use Rattle.at_model.specs.World.{World, IsWellFormed}
use Rattle.at_dict.specs.Dictionary.{Dictionary}
use Rattle.at_types.specs.Tags.{tags_to}
use Rattle.at_view.specs.declared.view.TypeLists.{TypeLists}
use Rattle.at_view.specs.declared.view.View.{View}
use Rattle.at_view.specs.declared.mark.StepKind as step_kind
use Rattle.at_view.specs.declared.mark.StepKind.TheVariants as kinds
use Rattle.at_view.specs.Counts.{passes, intent_words, inline_values, keys}
use Rattle.at_view.specs.Views.{blank, first_view}
use Rattle.at_view.specs.Words.{Words, Word, number_of, place, intent, global_sequence, own_sequence, key, head, inline_value, table_words}
use Rattle.at_core.specs.declared.lock.Lock as lock
use Rattle.at_core.specs.declared.lock.Lock.TheVariants as locks
use Rattle.at_core.specs.declared.stored.Stored.{Stored}
use Rattle.at_core.specs.declared.stored.Stored.TheVariants as stored
use Rattle.at_core.specs.Locks.{lock_word, slot_of, holds}
use Rattle.at_core.specs.Rule.{Slot, Board, Ghost, Holds, IsLock, TypesAgree, words_of, copied_keys, keys_of}
use Rattle.at_core.specs.PlaceSteps.{place_loaded, intent_stored, MayCommit, MayCommitIf, written, unwritten}
use Rattle.at_core.specs.HeadSteps.{head_loaded, inline_loaded, key_loaded, MayOpen, head_opened, MayClose, head_closed, MayStore, inline_stored, MayAppend, key_appended}
use Rattle.at_core.specs.Steps.{copied_heads, Moment, MayTake, taken, missed, MayGive, given, lists_given, MaySplit, lists_parted, parted, child, MayJoin, lists_joined, merged, global_loaded, MayGoOnline, gone_online, MayGoOffline, gone_offline}

-- what the passes have in hand: by the number of a view and that of a slot, the slot where it is out to that pass
abbrev pub Hands : Type 0
Hands = ℕ → ℕ → Option Slot

-- the table, what the passes have in hand, and what exists in proofs alone
pub record Core : Type 0 where
  pub table : Board
  pub hands : Hands
  pub ghost : Ghost

pub data Event : Type 0 where
  -- the pass takes a lock, or finds it held
  lock_take : ℕ → lock.Lock → Event
  lock_miss : ℕ → lock.Lock → Event
  -- it gives the lock back
  lock_give : ℕ → lock.Lock → Event
  -- it takes the value out of the slot of a lock, or puts one in
  slot_out : ℕ → lock.Lock → Event
  slot_in : ℕ → lock.Lock → Stored → Event
  -- a new pass splits off, and it takes in another
  split : ℕ → Event
  join : ℕ → ℕ → Event
  -- it loads the global sequence, goes online, or goes offline
  global_load : ℕ → Event
  go_online : ℕ → Event
  go_offline : ℕ → Event
  -- it loads the place, stores a word of the operation that it intends, or makes a write of that operation: at whatever place comes
  -- next, at the place that it has seen, or, where another one comes, not at all
  place_load : ℕ → Event
  intent_store : ℕ → ℕ → ℕ → Event
  commit : ℕ → op.Op → Event
  commit_if : ℕ → op.Op → Event
  commit_miss : ℕ → op.Op → Event
  -- it loads the head of an object, an inline value of one, or a key of a class
  head_load : ℕ → ℕ → Event
  inline_load : ℕ → ℕ → ℕ → Event
  key_load : ℕ → ℕ → ℕ → Event
  -- it opens the head of an object, closes it with a word, or stores an inline value
  head_open : ℕ → ℕ → Event
  head_close : ℕ → ℕ → ℕ → Event
  inline_store : ℕ → ℕ → ℕ → ℕ → Event
  -- it appends a key, for a name, to a class
  key_append : ℕ → ℕ → ℕ → ℕ → Event

abbrev pub words_at : Core → Words
words_at a = words_of a.table.words

abbrev pub moment_of : Core → Moment
moment_of a = record { history = a.ghost.history; lists = a.ghost.lists; words = words_at a }

-- the pass with the view of this number is live, and has this view
pub record Makes (a : Core) (id : ℕ) (v : View) : Type 0 where
  pub there : get_elem? a.table.views id ≡ some v
  pub live : v.who.live ≡ true

-- the hands, of which one has a slot or has it no more
abbrev pub with_hand : Core → ℕ → lock.Lock → Option Slot → Hands
with_hand a id l slot = λ j k. if (j == id) && (k == slot_of l) then slot else a.hands j k

-- the hands, of which one is empty
abbrev pub without_hand : Core → ℕ → Hands
without_hand a id = λ j k. if j == id then None else a.hands j k

-- the word is now n, and the view of the pass w
abbrev pub table_after : Core → ℕ → Word → ℕ → View → Act Slot → List (ℕ × Slot) → Board
table_after a id word n w act hand = stepped a.table (number_of word) n id hand w act

-- the views have changed, and no word has
abbrev pub with_views : Board → List View → Board
with_views s views = record { words = s.words; homes = s.homes; views = views }

-- A lock that is free is taken, with its slot.
pub record Takes (id : ℕ) (l : lock.Lock) (a b : Core) : Type 0 where
  pub view : View
  pub value : Stored
  pub makes : Makes a id view
  pub asked : MayTake l view
  pub is_lock : IsLock l
  pub free : words_at a (lock_word l) ≡ 0
  pub home : get_elem? a.table.homes (slot_of l) ≡ some (some (Some value))
  pub after : b ≡ record {
    table = table_after a id (lock_word l) (suc view.who.number) (taken l view (moment_of a)) (takes (slot_of l) (Some value)) [];
    hands = with_hand a id l (Some (Some value));
    ghost = a.ghost;
  }

-- A lock is found held, and nothing is taken.
pub record Misses (id : ℕ) (l : lock.Lock) (a b : Core) : Type 0 where
  pub view : View
  pub makes : Makes a id view
  pub asked : MayTake l view
  pub is_lock : IsLock l
  pub busy : words_at a (lock_word l) ≢ 0
  pub after : b ≡ record {
    table = table_after a id (lock_word l) (words_at a (lock_word l)) (missed l view (words_at a (lock_word l))) keeps [];
    hands = a.hands;
    ghost = a.ghost;
  }

-- A lock is given back, with its slot.
pub record Gives (opened : World) (id : ℕ) (l : lock.Lock) (a b : Core) : Type 0 where
  pub view : View
  pub value : Stored
  pub back : TypeLists
  pub makes : Makes a id view
  pub is_lock : IsLock l
  pub in_hand : a.hands id (slot_of l) ≡ Some (Some value)
  pub asked : MayGive opened l view back value
  pub after : b ≡ record {
    table = table_after a id (lock_word l) 0 (given l view) gives ((slot_of l, Some value) ∷ []);
    hands = with_hand a id l None;
    ghost = record a.ghost { lists = lists_given l back a.ghost.lists };
  }

-- A value leaves the slot of a lock that the pass holds, or comes into it. No word and no view changes.
pub record Exchanges (id : ℕ) (l : lock.Lock) (was now : Slot) (a b : Core) : Type 0 where
  pub view : View
  pub makes : Makes a id view
  pub is_lock : IsLock l
  pub asked : holds l view ≡ true
  pub in_hand : a.hands id (slot_of l) ≡ Some was
  pub after : b ≡ record { table = a.table; hands = with_hand a id l (Some now); ghost = a.ghost }

-- the pass has the slot of the types, and it is empty
abbrev pub HasTypesOut : Core → ℕ → Type 0
HasTypesOut a id = a.hands id (slot_of locks.Types) ≡ Some None

-- A new pass splits off. It has nothing in hand.
pub record Splits (id : ℕ) (a b : Core) : Type 0 where
  pub view : View
  pub number : ℕ
  pub makes : Makes a id view
  pub out : HasTypesOut a id
  pub asked : MaySplit view number
  pub after : b ≡ record {
    table = with_views a.table (slice_set a.table.views id (parted view) ++ child view ∷ []);
    hands = without_hand a (length a.table.views);
    ghost = record a.ghost { lists = lists_parted a.ghost.lists };
  }

-- A pass takes in another, of which nothing is left.
pub record Joins (id other : ℕ) (a b : Core) : Type 0 where
  pub view : View
  pub joined : View
  pub makes : Makes a id view
  pub apart : other ≢ id
  pub ends : Makes a other joined
  pub out : HasTypesOut a id
  pub asked : MayJoin view joined
  pub after : b ≡ record {
    table = with_views a.table (slice_set (slice_set a.table.views id (merged view joined)) other blank);
    hands = a.hands;
    ghost = record a.ghost { lists = lists_joined a.ghost.lists joined.who.number };
  }

-- A word becomes n, and the view of the pass w. Nothing changes hands.
abbrev pub at_word : Core → ℕ → Word → ℕ → View → Core
at_word a id word n w = record { table = table_after a id word n w keeps []; hands = a.hands; ghost = a.ghost }

-- The global sequence is loaded.
pub record LoadsGlobal (id : ℕ) (a b : Core) : Type 0 where
  pub view : View
  pub makes : Makes a id view
  pub after : b ≡ at_word a id global_sequence (words_at a global_sequence) (global_loaded view (words_at a global_sequence))

-- The pass goes online with what it loaded.
pub record GoesOnline (id : ℕ) (a b : Core) : Type 0 where
  pub view : View
  pub makes : Makes a id view
  pub asked : MayGoOnline view
  pub after : b ≡ at_word a id (own_sequence view.who.number) view.tags.global (gone_online view)

-- The pass goes offline.
pub record GoesOffline (id : ℕ) (a b : Core) : Type 0 where
  pub view : View
  pub makes : Makes a id view
  pub asked : MayGoOffline view
  pub after : b ≡ at_word a id (own_sequence view.who.number) 0 (gone_offline view)

-- The place is loaded.
pub record LoadsPlace (id : ℕ) (a b : Core) : Type 0 where
  pub view : View
  pub makes : Makes a id view
  pub after : b ≡ at_word a id place (words_at a place) (place_loaded view a.ghost.history)

-- A word of the intended operation is stored.
pub record Intends (id j n : ℕ) (a b : Core) : Type 0 where
  pub view : View
  pub makes : Makes a id view
  pub index : j < intent_words
  pub after : b ≡ at_word a id (intent view.who.number j) n (intent_stored view j n)

-- the write is the last of the history
abbrev pub with_write : Core → ℕ → step_kind.StepKind → View → op.Op → Core
with_write a id kind view operation = record (at_word a id place (suc (words_at a place)) (written kind view a.ghost.history operation)) {
  ghost = record a.ghost { history = a.ghost.history ++ operation ∷ [] };
}

-- A write takes the next place.
pub record Commits (opened : World) (id : ℕ) (operation : op.Op) (a b : Core) : Type 0 where
  pub view : View
  pub makes : Makes a id view
  pub asked : MayCommit opened view operation
  pub after : b ≡ with_write a id kinds.Commit view operation

-- A write takes the next place where that is the one after what the pass has seen.
pub record CommitsIf (opened : World) (id : ℕ) (operation : op.Op) (a b : Core) : Type 0 where
  pub view : View
  pub makes : Makes a id view
  pub asked : MayCommitIf opened view operation
  pub found : words_at a place ≡ length view.history.seen
  pub after : b ≡ with_write a id kinds.CommitIf view operation

-- Another place is found, and nothing is written.
pub record MissesPlace (opened : World) (id : ℕ) (operation : op.Op) (a b : Core) : Type 0 where
  pub view : View
  pub makes : Makes a id view
  pub asked : MayCommitIf opened view operation
  pub moved : words_at a place ≢ length view.history.seen
  pub after : b ≡ at_word a id place (words_at a place) (unwritten view (words_at a place))

-- The head of an object, an inline value, or a key is loaded.
pub record LoadsHead (id o : ℕ) (a b : Core) : Type 0 where
  pub view : View
  pub makes : Makes a id view
  pub object : o < objects
  pub after : b ≡ at_word a id (head o) (words_at a (head o)) (head_loaded view o a.ghost.history (words_at a (head o)))

pub record LoadsInline (id o i : ℕ) (a b : Core) : Type 0 where
  pub view : View
  pub makes : Makes a id view
  pub object : o < objects
  pub index : i < inline_values
  pub after : b ≡ at_word a id (inline_value o i) (words_at a (inline_value o i)) (inline_loaded view o i (keys_of (words_at a)) (words_at a (inline_value o i)))

pub record LoadsKey (id c i : ℕ) (a b : Core) : Type 0 where
  pub view : View
  pub makes : Makes a id view
  pub class : c < classes
  pub index : i < keys
  pub after : b ≡ at_word a id (key c i) (words_at a (key c i)) (key_loaded view c i (copied_keys (keys_of (words_at a)) c) (words_at a (key c i)))

-- The head of an object is opened, or closed.
pub record Opens (id o : ℕ) (a b : Core) : Type 0 where
  pub view : View
  pub makes : Makes a id view
  pub object : o < objects
  pub asked : MayOpen view o
  pub after : b ≡ at_word a id (head o) (suc (copied_heads view o)) (head_opened view o)

pub record Closes (opened : World) (id o word : ℕ) (a b : Core) : Type 0 where
  pub view : View
  pub makes : Makes a id view
  pub object : o < objects
  pub asked : MayClose opened view o word
  pub after : b ≡ at_word a id (head o) word (head_closed view o word)

-- An inline value is stored.
pub record StoresInline (id o i word : ℕ) (a b : Core) : Type 0 where
  pub view : View
  pub makes : Makes a id view
  pub object : o < objects
  pub asked : MayStore view o i word
  pub after : b ≡ at_word a id (inline_value o i) word (inline_stored view o i word)

-- A key is appended.
pub record Appends (id c i n : ℕ) (a b : Core) : Type 0 where
  pub view : View
  pub makes : Makes a id view
  pub asked : MayAppend view c i n
  pub after : b ≡ at_word a id (key c i) (suc n) (key_appended view c i n)

-- the event leads from one state to the other
abbrev pub Goes : World → Event → Core → Core → Type 0
Goes opened (lock_take id l) a b = Takes id l a b
Goes opened (lock_miss id l) a b = Misses id l a b
Goes opened (lock_give id l) a b = Gives opened id l a b
Goes opened (slot_out id l) a b = (x : Stored) × Exchanges id l (Some x) None a b
Goes opened (slot_in id l x) a b = Exchanges id l None (Some x) a b
Goes opened (split id) a b = Splits id a b
Goes opened (join id other) a b = Joins id other a b
Goes opened (global_load id) a b = LoadsGlobal id a b
Goes opened (go_online id) a b = GoesOnline id a b
Goes opened (go_offline id) a b = GoesOffline id a b
Goes opened (place_load id) a b = LoadsPlace id a b
Goes opened (intent_store id j n) a b = Intends id j n a b
Goes opened (commit id operation) a b = Commits opened id operation a b
Goes opened (commit_if id operation) a b = CommitsIf opened id operation a b
Goes opened (commit_miss id operation) a b = MissesPlace opened id operation a b
Goes opened (head_load id o) a b = LoadsHead id o a b
Goes opened (inline_load id o i) a b = LoadsInline id o i a b
Goes opened (key_load id c i) a b = LoadsKey id c i a b
Goes opened (head_open id o) a b = Opens id o a b
Goes opened (head_close id o word) a b = Closes opened id o word a b
Goes opened (inline_store id o i word) a b = StoresInline id o i word a b
Goes opened (key_append id c i n) a b = Appends id c i n a b

-- these events lead from one state to the other
abbrev pub Leads : World → List Event → Core → Core → Type 0
Leads opened [] a b = b ≡ a
Leads opened (event ∷ events) a b = (between : Core) × Goes opened event a between × Leads opened events between b

-- The opening

-- at first each word is 0, but the global sequence and that of the first pass
abbrev pub opening_words : List ℕ
opening_words = 0 ∷ 0 ∷ 1 ∷ 1 ∷ replicate (table_words - 4) 0

-- the number 0 is that of the first pass
abbrev pub opening_numbers : List Bool
opening_numbers = false ∷ replicate (passes - 1) true

-- at first no tag is given, and the next pass is the second
abbrev pub opening_lists : Limits → TypeLists
opening_lists limits = record { numbers = opening_numbers; next_birth = 1; pool = tags_to limits.tags; limbo = [] }

-- the slot has an empty dictionary
abbrev pub IsEmptyBody : Slot → Type 0
IsEmptyBody x = (body : Dictionary) × (x ≡ Some (stored.Body body)) × (body.map ≡ [])

-- At first the slots have the types of the opening world, and an empty dictionary for each of so many rows.
pub record AreFirstSlots (opened : World) (limits : Limits) (rows : ℕ) (slots : List Slot) : Type 0 where
  pub types : Stored
  pub bodies : List Slot
  pub are : slots ≡ Some types ∷ bodies
  pub agrees : (t : _) × (types ≡ stored.Types t) × TypesAgree limits.tags opened (opening_lists limits) t.value
  pub long : length bodies ≡ rows
  pub empty : (o : ℕ) (x : Slot) → get_elem? bodies o ≡ some x → IsEmptyBody x

abbrev pub AreOpeningSlots : World → Limits → List Slot → Type 0
AreOpeningSlots opened limits slots = AreFirstSlots opened limits objects slots

-- The opening world has no object, and the first pass has done nothing.
pub record IsOpening (opened : World) (limits : Limits) (a : Core) : Type 0 where
  pub whole : IsWellFormed opened
  pub objectless : opened.objects ≡ []
  pub slots : List Slot
  pub slots_are : AreOpeningSlots opened limits slots
  pub after : a ≡ record {
    table = opening opening_words slots (first_view limits);
    hands = λ id slot. None;
    ghost = record { history = []; lists = opening_lists limits };
  }

-- The laws of runs

-- no count of writes wraps
abbrev pub IsAllowed : Limits → Type 0
IsAllowed limits = limits.place_max + passes < 2 ^ 64

-- a slot is out exactly to the pass that holds its lock
abbrev pub HandsAreRight : Core → Type 0
HandsAreRight a = (id : ℕ) (v : View) (l : lock.Lock) → get_elem? a.table.views id ≡ some v → IsLock l → is_some (a.hands id (slot_of l)) ≡ holds l v

-- the rule holds of the table, and the hands are right
pub record CoreHolds (opened : World) (limits : Limits) (a : Core) : Type 0 where
  pub table_holds : Holds opened limits a.table a.ghost
  pub hands_are : HandsAreRight a

-- it is so in the opening state
abbrev pub OpeningHolds : Type 0
OpeningHolds = (opened : World) (limits : Limits) (a : Core) → IsAllowed limits → IsOpening opened limits a → CoreHolds opened limits a

-- and after each step of each run
abbrev pub EveryRunHolds : Type 0
EveryRunHolds = (opened : World) (limits : Limits) (events : List Event) (a b : Core) → CoreHolds opened limits a → Leads opened events a b → CoreHolds opened limits b
