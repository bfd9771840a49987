-- One run, written out, in which each kind of step is made.
use Rattle.std.specs.Prelude.{ℕ, ◌≤◌, ◌<◌, ◌+◌, ◌*◌, ◌^◌, List, [], ◌∷◌, ◌++◌, map, slice_index, Contains}
use Rattle.at_value.specs.declared.limits.Limits.{Limits}
use Rattle.at_value.specs.declared.operation.Op as op
use Rattle.at_value.specs.declared.operation.Op.TheVariants as ops
use Rattle.at_value.specs.declared.value.Value.TheVariants as values
use Rattle.at_value.specs.Packing.{words_of}
use Rattle.at_value.specs.Widths.{class_bits}
use Rattle.at_core.specs.declared.lock.Lock.TheVariants as locks
use Rattle.at_core.specs.declared.stored.Stored.{Stored}
use Rattle.at_core.specs.Heads.{sequence_bits, layout_bits, inline, dictionary}
use Rattle.at_core.specs.Opened.{opening_of}
use Rattle.at_core.specs.Runs.{Core, Event, lock_take, lock_miss, lock_give, slot_out, slot_in, split, join, global_load, go_online, go_offline, place_load, intent_store, commit, commit_if, commit_miss, head_load, inline_load, key_load, head_open, head_close, inline_store, key_append, IsOpening, Leads}

-- The first pass takes the lock of the types and the types out of their slot, splits a second off, and puts the types
-- in, with the number of the second taken. The second finds the lock held, and the first gives it back. The second
-- takes a row and gives it back. The first takes the lock and the types as before, takes the second in, and puts the
-- types in, with its number free again. Then it goes offline, and online again.
abbrev pub lock_events : Stored → Stored → List Event
lock_events parted joined =
    lock_take 0 locks.Types ∷ slot_out 0 locks.Types ∷ split 0 ∷ slot_in 0 locks.Types parted
    ∷ lock_miss 1 locks.Types ∷ lock_give 0 locks.Types ∷ lock_take 1 (locks.Row 0) ∷ lock_give 1 (locks.Row 0)
    ∷ lock_take 0 locks.Types ∷ slot_out 0 locks.Types ∷ join 0 1
    ∷ slot_in 0 locks.Types joined ∷ lock_give 0 locks.Types ∷ go_offline 0 ∷ global_load 0 ∷ go_online 0 ∷ []

-- the writes
abbrev pub new_class : op.Op
new_class = ops.NewClass 1 (0 ∷ [])

abbrev pub new_object : op.Op
new_object = ops.New 1

abbrev pub first_value : op.Op
first_value = ops.Set 0 20 values.Nothing

-- a word of an operation
abbrev pub word_in : op.Op → ℕ → ℕ
word_in operation j = slice_index (words_of operation) j

-- the head of an object of the class 1 that was written once
abbrev pub head_of : (layout row : ℕ) → ℕ
head_of layout row = 2 + 2 ^ sequence_bits * (1 + 2 ^ class_bits * (layout + 2 ^ layout_bits * row))

-- The first pass takes the lock of the types and the types, and splits a third off. It appends a key to the class 1,
-- which it then makes.
abbrev pub class_events : List Event
class_events =
    lock_take 0 locks.Types ∷ slot_out 0 locks.Types ∷ split 0 ∷ key_append 0 1 0 20
    ∷ place_load 0 ∷ intent_store 0 0 (word_in new_class 0) ∷ commit 0 new_class ∷ []

-- It takes a row, opens the head of the object 0, makes that object, closes the head with the layout of a dictionary,
-- and gives the row back.
abbrev pub object_events : List Event
object_events =
    lock_take 0 (locks.Row 0) ∷ head_open 0 0
    ∷ place_load 0 ∷ intent_store 0 0 (word_in new_object 0) ∷ commit 0 new_object
    ∷ head_close 0 0 (head_of dictionary 0) ∷ lock_give 0 (locks.Row 0) ∷ []

-- It takes another row, opens the head of the object 1, and stores an inline value. The third pass takes the row of
-- the object 0 and intends to give that a value. Now the first makes the object 1, with inline values: so the third
-- finds another place than it has seen. It loads the place again, and then writes. Last it loads the other head, an
-- inline value and a key.
abbrev pub value_events : List Event
value_events =
    lock_take 0 (locks.Row 1) ∷ head_open 0 1 ∷ inline_store 0 1 0 0
    ∷ lock_take 2 (locks.Row 0) ∷ place_load 2
    ∷ intent_store 2 0 (word_in first_value 0) ∷ intent_store 2 1 (word_in first_value 1)
    ∷ place_load 0 ∷ commit 0 new_object ∷ head_close 0 1 (head_of inline 1)
    ∷ commit_miss 2 first_value ∷ place_load 2 ∷ commit_if 2 first_value
    ∷ head_load 2 1 ∷ inline_load 2 1 0 ∷ key_load 2 1 0 ∷ []

abbrev pub some_events : Stored → Stored → List Event
some_events parted joined = lock_events parted joined ++ class_events ++ object_events ++ value_events

-- the kinds of steps by number
abbrev pub kind_of : Event → ℕ
kind_of (lock_take id l) = 0
kind_of (lock_miss id l) = 1
kind_of (lock_give id l) = 2
kind_of (slot_out id l) = 3
kind_of (slot_in id l x) = 4
kind_of (split id) = 5
kind_of (join id other) = 6
kind_of (global_load id) = 7
kind_of (go_online id) = 8
kind_of (go_offline id) = 9
kind_of (place_load id) = 10
kind_of (intent_store id j n) = 11
kind_of (commit id operation) = 12
kind_of (commit_if id operation) = 13
kind_of (commit_miss id operation) = 14
kind_of (head_load id o) = 15
kind_of (inline_load id o i) = 16
kind_of (key_load id c i) = 17
kind_of (head_open id o) = 18
kind_of (head_close id o word) = 19
kind_of (inline_store id o i word) = 20
kind_of (key_append id c i n) = 21

-- whatever the event, one of its kind is among them
abbrev pub HaveEachKind : Type 0
HaveEachKind =
    (parted joined : Stored) (event : Event) → Contains (map kind_of (some_events parted joined)) (kind_of event)

-- From every opening state these events lead on, for some values that are put in, where there are places for four
-- writes and a head can be written.
abbrev pub SomeRunGoes : Type 0
SomeRunGoes =
    (limits : Limits) (a : Core) → 4 ≤ limits.place_max → 0 < limits.head_max → IsOpening (opening_of limits) limits a
    → (parted joined : Stored) × (b : Core) × Leads (opening_of limits) (some_events parted joined) a b
