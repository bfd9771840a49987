-- The rule of the shared table: what is true of its words, of the values at home and of all views between any two steps.
-- Each part is a definition of its own, over what it reads and no more. Beside the state stands what exists in proofs
-- alone: the history, and the lists that the types have or the holder of their lock.
use Rattle.std.specs.Prelude.{ℕ, zero, suc, ◌≡◌, ◌≢◌, ◌+◌, ◌*◌, ◌<◌, ◌≤◌, ◌==◌, ◌&&◌, ◌^◌, nat_lt, Bool, true, false, IsTrue, List, [], ◌∷◌, length, map, count_by, sum_by, All, Option, Some, slice_index, slice_index_or, slice_get, if◌then◌else◌}
use mathlib.Core.Option.{some, none}
use mathlib.Core.Option as maybe
use mathlib.Core.List.{IsPrefix}
use lib.ListN.{get_elem?}
use Rattle.atomic_table.specs.Table.{State}
use Rattle.at_value.specs.Widths.{classes, objects}
use Rattle.at_value.specs.declared.limits.Limits.{Limits}
use Rattle.at_value.specs.declared.operation.Op as op
use Rattle.at_model.specs.declared.rows.Object.{Object}
use Rattle.at_model.specs.World.{World, IsWellFormed}
use Rattle.at_model.specs.History.{replay, IsProper}
use Rattle.at_dict.specs.Dictionary.{Dictionary}
use Rattle.at_types.specs.declared.tags.LimboRow.{LimboRow}
use Rattle.at_types.specs.Types.{TypesState, StandsFor}
use Rattle.at_types.specs.Tags.{times}
use Rattle.at_view.specs.declared.view.ClassKeys.{ClassKeys}
use Rattle.at_view.specs.declared.view.HeadLook.{HeadLook}
use Rattle.at_view.specs.declared.view.JoinView.{JoinView}
use Rattle.at_view.specs.declared.view.LimboTag.{LimboTag}
use Rattle.at_view.specs.declared.view.TypeLists.{TypeLists}
use Rattle.at_view.specs.declared.view.TypesWords.{TypesWords}
use Rattle.at_view.specs.declared.view.RowWords.{RowWords}
use Rattle.at_view.specs.declared.view.View.{View}
use Rattle.at_view.specs.Counts.{passes, keys, inline_values}
use Rattle.at_view.specs.Views.{blank}
use Rattle.at_view.specs.Words.{Words, table_words, number_of, is_there, place, head, tag, key, inline_value, row_lock, global_sequence, own_sequence}
use Rattle.at_core.specs.declared.lock.Lock as lock
use Rattle.at_core.specs.declared.lock.Lock.TheVariants as locks
use Rattle.at_core.specs.declared.stored.Stored.{Stored}
use Rattle.at_core.specs.declared.stored.Stored.TheVariants as stored
use Rattle.at_core.specs.Heads.{Shape, shape_of, class_of, HasDictionary, IsHead, IsWhole, IsOpened, sequence_of}
use Rattle.at_core.specs.Inline.{AreKeys, HaveGrown, IsCell, IsHeadOf}
use Rattle.at_core.specs.Looks.{keys_at, IsBacked}
use Rattle.at_core.specs.Locks.{lock_word, slot_of, Protects, Excludes}
use Rattle.at_core.specs.Openings.{openings_of}
use Rattle.at_core.specs.Reads.{PastRead, past_read, fresh_read, KinRead, kin_read, NumberRead, number_read, HolderRead, holder_read, KeptRead, kept_read, TypesRead, types_read, RowRead, row_read, OpenRead, open_read, known_read, looks_read, SequenceRead, sequence_read, join_read, LimitRead, limit_read}

-- a slot: none while the pass that has it out has its value too
abbrev pub Slot : Type 0
Slot = Option Stored

abbrev pub Homes : Type 0
Homes = List (maybe.Option Slot)

abbrev pub Board : Type 0
Board = State Slot View

-- it is so of each of them, whose number it is told
abbrev pub Each : {A : Type 0} → (ℕ → A → Type 0) → List A → Type 0
Each P xs = (i : ℕ) (x : _) → get_elem? xs i ≡ some x → P i x

-- 1 for true
abbrev pub weight : Bool → ℕ
weight b = if b then 1 else 0

-- Base 1: the history and the passes

-- The history has one operation a place, and each was a write at its point. Each pass has seen a prefix of it. Each place is
-- own to exactly one pass, once, and that pass has seen the history up to it.
pub record HistoryRule (opened : World) (count : ℕ) (history : List op.Op) (views : List PastRead) : Type 0 where
  pub counted : count ≡ length history
  pub proper : IsProper opened history
  pub begun : Each (λ i v. IsPrefix v.seen history) views
  pub owned : (p : ℕ) → sum_by (λ v. times p v.own) views ≡ weight (nat_lt 0 p && nat_lt p (suc (length history)))
  pub reached : Each (λ i v. (p : ℕ) → 0 < times p v.own → p ≤ length v.seen) views

-- the places to which passes are on their way go no further than one a pass past the limit
abbrev pub RoomRule : ℕ → ℕ → List Bool → Type 0
RoomRule place_max count fresh = count + count_by (λ b. b) fresh ≤ place_max + passes

abbrev pub is_born : ℕ → KinRead → Bool
is_born birth v = v.live && (v.birth == birth)

-- Each live pass but the first was split off exactly one live pass, or off one that this took in, and that one was born
-- earlier. The births of live passes and of those that were taken in are distinct, and those to come are above all.
pub record KinRule (next_birth : ℕ) (views : List KinRead) : Type 0 where
  pub children : (b : ℕ) → 0 < b → sum_by (λ v. times b v.children) views ≡ count_by (is_born b) views
  pub distinct : (b : ℕ) → count_by (is_born b) views + sum_by (λ v. times b v.kept) views ≤ 1
  pub later : Each (λ i v. (b : ℕ) → 0 < times b v.children → v.birth < b) views
  pub below : Each (λ i v. v.birth < next_birth) views
  pub kept_below : Each (λ i v. (b : ℕ) → 0 < times b v.kept → b < next_birth) views

-- Base 2: the locks, and the numbers of the passes

-- A lock's word is the number of the pass that holds it and 1, or 0 where none does; at most one pass holds it.
pub record LockRule (word : ℕ) (views : List HolderRead) : Type 0 where
  pub named : Each (λ i v. v.held ≡ true → word ≡ suc v.number) views
  pub one : (i j : ℕ) (v w : HolderRead) → get_elem? views i ≡ some v → get_elem? views j ≡ some w → v.held ≡ true → w.held ≡ true → i ≡ j
  pub holder : 0 < word → (i : ℕ) × (v : HolderRead) × (get_elem? views i ≡ some v) × (v.held ≡ true)

abbrev pub has_number : ℕ → NumberRead → Bool
has_number n v = v.live && (v.number == n)

-- Each number below that of the passes is free, or that of exactly one live pass; so many are free as passes are wanting.
pub record NumberRule (numbers : List Bool) (views : List NumberRead) : Type 0 where
  pub whole : length numbers ≡ passes
  pub each : (n : ℕ) → count_by (has_number n) views + weight (slice_index_or numbers n false) ≡ weight (nat_lt n passes)
  pub all : count_by (λ v. v.live) views + count_by (λ free. free) numbers ≡ passes

-- Base 3: the slots

-- what a row of limbo is to the passes
abbrev pub limbo_tag : LimboRow → LimboTag
limbo_tag row = record { tag = row.tag; goal = row.goal }

-- The types stand for the world, and have as many tags as there may be, these free numbers, these free tags and these tags
-- in limbo.
pub record TypesAgree (tags : ℕ) (w : World) (lists : TypeLists) (t : TypesState) : Type 0 where
  pub stands : StandsFor t w
  pub size : t.tags.size ≡ tags
  pub numbers : t.numbers ≡ lists.numbers
  pub pool : t.tags.free ≡ lists.pool
  pub limbo : map limbo_tag t.tags.limbo ≡ lists.limbo

-- The dictionary of a row is that of the world where its object has the layout of a dictionary. It is empty where the object
-- is inline or isn't made.
pub record BodyAgrees (shape : Shape) (w : World) (o : ℕ) (body : Dictionary) : Type 0 where
  pub full : HasDictionary shape → body.map ≡ slice_index_or w.dicts o []
  pub empty : ¬ HasDictionary shape → body.map ≡ []

-- What the value of a lock's slot has to agree with: the limits, the world, the lists of the types, and for a row what the
-- head of its object says.
abbrev pub Agrees : Limits → World → TypeLists → Shape → lock.Lock → Stored → Type 0
Agrees limits w lists shape locks.Types x = (t : _) × (x ≡ stored.Types t) × TypesAgree limits.tags w lists t.value
Agrees limits w lists shape (locks.Row o) x = (body : Dictionary) × (x ≡ stored.Body body) × BodyAgrees shape w o body

-- what the head of a row's object says
abbrev pub shape_under : (ℕ → ℕ) → lock.Lock → Shape
shape_under heads locks.Types = shape_of 0
shape_under heads (locks.Row o) = shape_of (heads o)

-- the lock is one of the table's
abbrev pub IsLock : lock.Lock → Type 0
IsLock l = IsTrue (is_there (lock_word l))

-- While a lock is free its slot is at home with a value that agrees with the history; while it is held the slot is out.
pub record SlotRule (limits : Limits) (w : World) (lists : TypeLists) (shape : Shape) (l : lock.Lock) (word : ℕ) (home : maybe.Option (maybe.Option Slot)) : Type 0 where
  pub at_home : word ≡ 0 → (x : Stored) × (home ≡ some (some (Some x))) × Agrees limits w lists shape l x
  pub out : 0 < word → home ≡ some none

-- where an object has the layout of a dictionary, so has the object with which the dictionary that it names was born
abbrev pub RowsAre : (ℕ → ℕ) → Type 0
RowsAre heads = (o : ℕ) → HasDictionary (shape_of (heads o)) → HasDictionary (shape_of (heads (shape_of (heads o)).row))

-- A head has a class and a layout. One that is whole says what its object is, with the keys of its class and its inline values; a row whose head is open is held.
pub record HeadRule (w : World) (o row word : ℕ) (keys_are : ℕ → ℕ → ℕ) (values : ℕ → ℕ) : Type 0 where
  pub is : IsHead word
  pub says : IsWhole word → IsHeadOf w o word keys_are values
  pub owned : IsOpened word → 0 < row

-- A head that is open says the class of its object, if it is made, where who holds the row doesn't hold the lock of the types.
abbrev pub OpenRule : World → ℕ → ℕ → List OpenRead → Type 0
OpenRule w o word views = IsOpened word
    → Each (λ i v. v.row ≡ true → v.types ≡ false → (found : Object) → slice_get w.objects o ≡ Some found → found.class ≡ class_of word) views

-- keys that a view knows are among those that there are
abbrev pub KnownRule : (ℕ → ℕ → ℕ) → List (List ClassKeys) → Type 0
KnownRule keys_are views = Each (λ i known. (c : ℕ) → HaveGrown (slice_index (keys_at c known)) (keys_are c)) views

-- what was loaded with a head says what it says as long as the head is the same
abbrev pub LookRule : World → (ℕ → ℕ) → (ℕ → ℕ → ℕ) → List op.Op → List (List HeadLook) → Type 0
LookRule opened heads keys_are history views = Each (λ i looks. All (λ look. IsBacked opened (heads look.object) keys_are history look) looks) views

-- the sequence of a head is at most twice the number of its openings
abbrev pub OpeningRule : ℕ → List ℕ → Type 0
OpeningRule word openings = sequence_of word ≤ 2 * sum_by (λ n. n) openings

-- Base 4: what held locks keep

-- What the lock protects is as it was when the pass took it, or as its own last write left it, which it has seen; and no other
-- pass writes an object whose row is held.
pub record KeptBy (opened : World) (l : lock.Lock) (history : List op.Op) (v : KeptRead) : Type 0 where
  pub begun : IsPrefix v.hold.since v.seen
  pub came : v.hold.entered ≤ length v.hold.since
  pub protects : Protects opened l v.hold.since history
  pub excludes : Excludes opened l v.hold.entered v.own history

abbrev pub KeptRule : World → lock.Lock → List op.Op → List KeptRead → Type 0
KeptRule opened l history views = Each (λ i v. v.hold.held ≡ true → KeptBy opened l history v) views

-- What the views have beside that

-- the first n values of a function
abbrev pub listed : {A : Type 0} → ℕ → (ℕ → A) → List A
listed zero f = []
listed (suc n) f = f 0 ∷ listed n (λ i. f (suc i))

-- the words that the holder of the lock of the types alone may change: the tags, the keys and the global sequence
abbrev pub copied_keys : (ℕ → ℕ → ℕ) → ℕ → List ℕ
copied_keys keys_are c = listed keys (keys_are c)

abbrev pub types_copied : (ℕ → ℕ) → (ℕ → ℕ → ℕ) → ℕ → TypesWords
types_copied tags keys_are global = record { tags = listed classes tags; keys = listed classes (copied_keys keys_are); global = global }

-- those that the holder of a row alone may change: the head and the inline values of its object
abbrev pub row_copied : ℕ → (ℕ → ℕ) → RowWords
row_copied head_is values = record { head = head_is; values = listed inline_values values }

-- The holder of the lock of the types has its lists, and a copy of each word that it alone may change.
pub record TypesCopied (lists : TypeLists) (words : TypesWords) (v : TypesRead) : Type 0 where
  pub lists_are : v.lists ≡ lists
  pub words_are : v.words ≡ words

abbrev pub TypesRule : TypeLists → TypesWords → List TypesRead → Type 0
TypesRule lists words views = Each (λ i v. v.held ≡ true → TypesCopied lists words v) views

-- so has the holder of a row
abbrev pub RowRule : RowWords → List RowRead → Type 0
RowRule words views = Each (λ i v. v.held ≡ true → v.words ≡ words) views

-- what two passes had seen when they were joined begins the history
abbrev pub JoinRule : List op.Op → List JoinView → Type 0
JoinRule history views = Each (λ i v. IsPrefix v.first history × IsPrefix v.second history) views

-- The global sequence has begun, and is no less than what any pass loaded of it. The own sequence of a live pass is 0 where it is
-- offline, and else not 0 and no more than the global one. That of a number of no live pass is 0.
pub record SequenceRule (global : ℕ) (own : ℕ → ℕ) (views : List SequenceRead) : Type 0 where
  pub begun : 0 < global
  pub loaded : Each (λ i v. v.global ≤ global) views
  pub offline : Each (λ i v. v.live ≡ true → v.online ≡ false → own v.number ≡ 0) views
  pub online : Each (λ i v. v.live ≡ true → v.online ≡ true → (0 < own v.number) × (own v.number ≤ global)) views
  pub spare : (q : ℕ) → Each (λ i v. v.live ≡ true → v.number ≢ q) views → own q ≡ 0

-- a live view has the limits of the table
abbrev pub LimitRule : Limits → List LimitRead → Type 0
LimitRule limits views = Each (λ i v. v.live ≡ true → v.limits ≡ limits) views

-- a view that isn't live is spent
abbrev pub SpentRule : List View → Type 0
SpentRule views = Each (λ i v. v.who.live ≡ false → v ≡ blank) views

-- The whole

-- what exists in proofs alone
pub record Ghost : Type 0 where
  pub history : List op.Op
  pub lists : TypeLists

-- each word of the table by name
abbrev pub words_of : List ℕ → Words
words_of words a = if is_there a then slice_index_or words (number_of a) 0 else 0

abbrev pub heads_of : Words → ℕ → ℕ
heads_of words o = words (head o)

abbrev pub keys_of : Words → ℕ → ℕ → ℕ
keys_of words c i = words (key c i)

abbrev pub values_of : Words → ℕ → ℕ → ℕ
values_of words o i = words (inline_value o i)

abbrev pub row_locks_of : Words → ℕ → ℕ
row_locks_of words o = words (row_lock o)

abbrev pub own_sequences_of : Words → ℕ → ℕ
own_sequences_of words q = words (own_sequence q)

abbrev pub types_words : Words → TypesWords
types_words words = types_copied (λ c. words (tag c)) (keys_of words) (words global_sequence)

abbrev pub row_words : Words → ℕ → RowWords
row_words words o = row_copied (words (head o)) (values_of words o)

-- what heads, keys and inline values are
pub record HeadParts (opened : World) (heads rows : ℕ → ℕ) (keys_are values_are : ℕ → ℕ → ℕ) (history : List op.Op) (views : List View) : Type 0 where
  pub heads_are : (o : ℕ) → HeadRule (replay opened history) o (rows o) (heads o) keys_are (values_are o)
  pub open_are : (o : ℕ) → OpenRule (replay opened history) o (heads o) (map (open_read o) views)
  pub rows_are : RowsAre heads
  pub openings : (o : ℕ) → OpeningRule (heads o) (map (openings_of o) views)
  pub keys : (c : ℕ) → AreKeys (keys_are c)
  pub cells : (o i : ℕ) → IsCell (values_are o i)
  pub known : KnownRule keys_are (map known_read views)
  pub looks : LookRule opened heads keys_are history (map looks_read views)

pub record Parts (opened : World) (limits : Limits) (words : Words) (homes : Homes) (views : List View) (g : Ghost) : Type 0 where
  -- base 1
  pub history : HistoryRule opened (words place) g.history (map past_read views)
  pub room : RoomRule limits.place_max (words place) (map fresh_read views)
  pub kin : KinRule g.lists.next_birth (map kin_read views)
  -- base 2
  pub locks : (l : lock.Lock) → LockRule (words (lock_word l)) (map (holder_read l) views)
  pub numbers : NumberRule g.lists.numbers (map number_read views)
  -- base 3
  pub slots : (l : lock.Lock) → IsLock l → SlotRule limits (replay opened g.history) g.lists (shape_under (heads_of words) l) l (words (lock_word l)) (get_elem? homes (slot_of l))
  pub headed : HeadParts opened (heads_of words) (row_locks_of words) (keys_of words) (values_of words) g.history views
  -- base 4
  pub kept : (l : lock.Lock) → KeptRule opened l g.history (map (kept_read l) views)
  -- what the views have beside that
  pub types : TypesRule g.lists (types_words words) (map types_read views)
  pub rows : (o : ℕ) → RowRule (row_words words o) (map (row_read o) views)
  pub joins : JoinRule g.history (map join_read views)
  pub sequence : SequenceRule (words global_sequence) (own_sequences_of words) (map sequence_read views)
  pub limited : LimitRule limits (map limit_read views)
  pub spent : SpentRule views

-- the rule, with what exists in proofs alone
pub record Holds (opened : World) (limits : Limits) (s : Board) (g : Ghost) : Type 0 where
  pub words_are : length s.words ≡ table_words
  pub slots_are : length s.homes ≡ suc objects
  pub small : limits.place_max + passes < 2 ^ 64
  pub formed : IsWellFormed opened
  pub parts : Parts opened limits (words_of s.words) s.homes s.views g

-- the rule of the table
pub record Base (opened : World) (limits : Limits) (s : Board) : Type 0 where
  pub ghost : Ghost
  pub holds : Holds opened limits s ghost
