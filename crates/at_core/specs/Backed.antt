-- Which steps of a pass stand behind a line: the count of writes was loaded or raised at the place that the line names, and the way
-- that it names was gone. A trace stands behind a list of lines where parts of it, one after another, stand behind each.
use Rattle.std.specs.Prelude.{ℕ, suc, ◌≡◌, ◌≢◌, ◌<◌, ◌≤◌, ◌⊎◌, Bool, true, false, IsTrue, List, [], ◌∷◌, ◌++◌, Some, None, slice_get, All}
use Rattle.at_value.specs.declared.operation.Op as op
use Rattle.at_value.specs.declared.operation.Op.TheVariants as ops
use Rattle.at_value.specs.declared.reply.Miss as miss
use Rattle.at_value.specs.declared.reply.Miss.TheVariants as misses
use Rattle.at_value.specs.declared.reply.Path as path
use Rattle.at_value.specs.declared.reply.Path.TheVariants as paths
use Rattle.at_value.specs.declared.reply.Reply.TheVariants as replies
use Rattle.at_line.specs.declared.line.LineOp as line_op
use Rattle.at_line.specs.declared.line.LineOp.TheVariants as line_ops
use Rattle.at_line.specs.declared.line.LineReply as line_reply
use Rattle.at_line.specs.declared.line.LineReply.TheVariants as line_replies
use Rattle.at_line.specs.declared.line.Local as local
use Rattle.at_line.specs.declared.line.Local.TheVariants as locals
use Rattle.at_line.specs.declared.line.What as what
use Rattle.at_line.specs.declared.line.What.TheVariants as whats
use Rattle.at_line.specs.Lines.{is_write_reply}
use Rattle.at_view.specs.declared.mark.Mark.{Mark}
use Rattle.at_view.specs.declared.mark.StepKind as step_kind
use Rattle.at_view.specs.declared.mark.StepKind.TheVariants as kinds
use Rattle.at_view.specs.Counts as counts
use Rattle.at_view.specs.Words.{Word, number_of, place, type_lock, tag, entry_sequence, entry_field, head, key}
use Rattle.at_core.specs.Heads.{HasDictionary, IsOpened, IsWhole, sequence_of, shape_of}
use Rattle.at_core.specs.Steps.{mark}

-- Steps

-- one of them is so
abbrev pub Has : (Mark → Type 0) → List Mark → Type 0
Has P marks = (i : ℕ) × (m : Mark) × (slice_get marks i ≡ Some m) × P m

-- one of them is so, and a later one so
abbrev pub HasThen : (Mark → Type 0) → (Mark → Type 0) → List Mark → Type 0
HasThen P Q marks = (before : List Mark) × (after : List Mark) × (marks ≡ before ++ after) × Has P before × Has Q after

-- a load of a word, which found this
pub record Loads (kind : step_kind.StepKind) (word found : ℕ) (m : Mark) : Type 0 where
  pub is : m.kind ≡ kind
  pub at : m.word ≡ word
  pub finds : m.found ≡ Some found

-- a load that found something
abbrev pub LoadsAny : step_kind.StepKind → Word → Mark → Type 0
LoadsAny kind word m = (found : ℕ) × Loads kind (number_of word) found m

-- A write took the place: it found the place before.
pub record TakesPlace (p : ℕ) (m : Mark) : Type 0 where
  pub is : (m.kind ≡ kinds.Commit) ⊎ (m.kind ≡ kinds.CommitIf)
  pub at : m.word ≡ number_of place
  pub before : ℕ
  pub finds : m.found ≡ Some before
  pub leaves : m.left ≡ Some p
  pub next : p ≡ suc before

-- a try to take the lock of the types, and one that took it
abbrev pub TriesTypes : Mark → Type 0
TriesTypes m = (m.kind ≡ kinds.LockTake) × (m.word ≡ number_of type_lock)

abbrev pub TakesTypes : Mark → Type 0
TakesTypes m = TriesTypes m × (m.found ≡ Some 0)

-- the loads of which a read without locks is made
abbrev pub is_fast_load : step_kind.StepKind → Bool
is_fast_load kinds.LockTake = false
is_fast_load kinds.LockGive = false
is_fast_load kinds.SlotOut = false
is_fast_load kinds.SlotIn = false
is_fast_load kinds.Split = false
is_fast_load kinds.Join = false
is_fast_load kinds.PlaceLoad = true
is_fast_load kinds.IntentStore = false
is_fast_load kinds.Commit = false
is_fast_load kinds.TagLoad = true
is_fast_load kinds.TagGive = false
is_fast_load kinds.TagDrop = false
is_fast_load kinds.SequenceLoad = true
is_fast_load kinds.FieldLoad = true
is_fast_load kinds.SequenceTake = false
is_fast_load kinds.FieldStore = false
is_fast_load kinds.SequenceClose = false
is_fast_load kinds.HeadLoad = true
is_fast_load kinds.HeadOpen = false
is_fast_load kinds.HeadClose = false
is_fast_load kinds.InlineLoad = true
is_fast_load kinds.InlineStore = false
is_fast_load kinds.KeyLoad = true
is_fast_load kinds.KeyAppend = false
is_fast_load kinds.CommitIf = false
is_fast_load kinds.GlobalLoad = false
is_fast_load kinds.Retire = false
is_fast_load kinds.Checkpoint = false
is_fast_load kinds.Online = false
is_fast_load kinds.Offline = false
is_fast_load kinds.ScanLoad = false

-- Ways

-- The way without the lock of the types: a read of an object loads its head, and one of a class its tag, and neither has
-- another step than loads; a write of an object loads its head, and doesn't try to take that lock. No other operation goes so.
abbrev pub ReadsFast : Word → step_kind.StepKind → List Mark → Type 0
ReadsFast word kind marks = Has (LoadsAny kind word) marks × All (λ m. IsTrue (is_fast_load m.kind)) marks

abbrev pub WritesFast : ℕ → List Mark → Type 0
WritesFast o marks = Has (LoadsAny kinds.HeadLoad (head o)) marks × All (λ m. ¬ TriesTypes m) marks

abbrev pub GoesFast : op.Op → List Mark → Type 0
GoesFast (ops.NewClass c bases) marks = ⊥
GoesFast (ops.TypeSet c n v) marks = ⊥
GoesFast (ops.TypeDel c n) marks = ⊥
GoesFast (ops.SetBases c bases) marks = ⊥
GoesFast (ops.New c) marks = ⊥
GoesFast (ops.Set o n v) marks = WritesFast o marks
GoesFast (ops.Del o n) marks = WritesFast o marks
GoesFast (ops.SetClass o c) marks = ⊥
GoesFast (ops.Share o p) marks = ⊥
GoesFast (ops.Get o n) marks = ReadsFast (head o) kinds.HeadLoad marks
GoesFast (ops.TypeGet c n) marks = ReadsFast (tag c) kinds.TagLoad marks
GoesFast (ops.Super k o n) marks = ⊥
GoesFast (ops.Special o n) marks = ReadsFast (head o) kinds.HeadLoad marks
GoesFast (ops.ClassOf o) marks = ReadsFast (head o) kinds.HeadLoad marks
GoesFast (ops.Mro c) marks = ⊥

-- the keys of a class were loaded from this index on, so many, none of them the name's; the last was unused, or there are no more
abbrev pub LoadsKeys : ℕ → ℕ → List Mark → Type 0
LoadsKeys c n marks = (count : ℕ) × (words : ℕ → ℕ) × (count ≤ counts.keys)
    × ((i : ℕ) → i < count → (words i ≢ suc n) × Has (Loads kinds.KeyLoad (number_of (key c i)) (words i)) marks)
    × ((count ≡ counts.keys) ⊎ ((last : ℕ) × (count ≡ suc last) × (words last ≡ 0)))

-- a cache entry was found whole, with one sequence before and after a field of it
abbrev pub LoadsEntry : ℕ → List Mark → Type 0
LoadsEntry e marks = (before : List Mark) × (after : List Mark) × (sequence : ℕ) × (marks ≡ before ++ after) × IsWhole sequence
    × HasThen (Loads kinds.SequenceLoad (number_of (entry_sequence e)) sequence) (λ m. (i : ℕ) × (i < 2) × LoadsAny kinds.FieldLoad (entry_field e i) m) before
    × Has (Loads kinds.SequenceLoad (number_of (entry_sequence e)) sequence) after

-- a step found this in the word of this number
abbrev pub Finds : ℕ → ℕ → Mark → Type 0
Finds word found m = (m.word ≡ word) × (m.found ≡ Some found)

-- What a miss carries was loaded.
abbrev pub Carries : miss.Miss → List Mark → Type 0
Carries (misses.Untagged c) marks = Has (Loads kinds.TagLoad (number_of (tag c)) 0) marks
Carries (misses.Unlike e) marks = LoadsEntry e marks
Carries (misses.Writing e s) marks = IsOpened s × Has (Loads kinds.SequenceLoad (number_of (entry_sequence e)) s) marks
Carries (misses.Changed e s t) marks = (s ≢ t)
    × HasThen (Loads kinds.SequenceLoad (number_of (entry_sequence e)) s) (Loads kinds.SequenceLoad (number_of (entry_sequence e)) t) marks
Carries (misses.Odd o word) marks = IsOpened word × Has (Loads kinds.HeadLoad (number_of (head o)) word) marks
Carries (misses.Dict o word) marks = HasDictionary (shape_of word) × Has (Loads kinds.HeadLoad (number_of (head o)) word) marks
Carries (misses.Keyless c n) marks = LoadsKeys c n marks
Carries (misses.Moved word first second) marks = (first ≢ second) × HasThen (Finds word first) (Finds word second) marks

-- the way that a line names was gone
abbrev pub Goes : path.Path → op.Op → List Mark → Type 0
Goes paths.Locked operation marks = Has TakesTypes marks
Goes paths.Fast operation marks = GoesFast operation marks
Goes (paths.Slow m) operation marks = Carries m marks

-- Lines

-- A line was done at its place: a write took it, and for another line the count of writes was loaded and found to be it.
abbrev pub StandsAt : Bool → ℕ → List Mark → Type 0
StandsAt true p marks = Has (TakesPlace p) marks
StandsAt false p marks = Has (Loads kinds.PlaceLoad (number_of place) p) marks

abbrev pub BacksLocal : local.Local → List Mark → Type 0
BacksLocal locals.Depth marks = Unit {0}
BacksLocal locals.Budget marks = Unit {0}
BacksLocal locals.Kind marks = Unit {0}
BacksLocal (locals.Unbound v) marks = Unit {0}
BacksLocal locals.NotCallable marks = Unit {0}
BacksLocal (locals.Worn q) marks = Has (λ m. (o : ℕ) × (word : ℕ) × (sequence_of word ≡ q) × Loads kinds.HeadLoad (number_of (head o)) word m) marks
BacksLocal (locals.Full p) marks = Has (Loads kinds.PlaceLoad (number_of place) p) marks

-- The steps stand behind the line.
abbrev pub Backs : List Mark → what.What → Type 0
Backs marks (whats.Did p way (line_ops.Of operation) reply) = StandsAt (is_write_reply reply) p.0 marks × Goes way operation marks
Backs marks (whats.Did p way (line_ops.Begin first second) reply) = StandsAt false p.0 marks
Backs marks (whats.Did p way line_ops.Finish reply) = StandsAt false p.0 marks
Backs marks (whats.Local local) = BacksLocal local marks

-- Parts of the trace stand behind the lines, in their order, and no step in two of them; steps between are free.
abbrev pub BacksAll : List Mark → List what.What → Type 0
BacksAll marks [] = Unit {0}
BacksAll marks (line ∷ lines) = (before : List Mark) × (part : List Mark) × (after : List Mark) × (marks ≡ before ++ (part ++ after)) × Backs part line × BacksAll after lines

-- What stands behind a line that was done at a place

-- a trace in which a class is made: the lock of the types is taken, the place loaded, and the write made
abbrev pub class_marks : List Mark
class_marks = mark kinds.LockTake type_lock (Some 0) (Some 1) ∷ mark kinds.PlaceLoad place (Some 0) (Some 0) ∷ mark kinds.Commit place (Some 0) (Some 1)
    ∷ mark kinds.LockGive type_lock None (Some 0) ∷ []

abbrev pub class_line : ℕ → what.What
class_line p = whats.Did (record { 0 = p }) paths.Locked (line_ops.Of (ops.NewClass 1 (0 ∷ []))) (line_replies.Of replies.Done)

-- it stands behind that write at the first place, and at no other
abbrev pub ClassIsBacked : Type 0
ClassIsBacked = BacksAll class_marks (class_line 1 ∷ []) × ((p : ℕ) → p ≢ 1 → ¬ BacksAll class_marks (class_line p ∷ []))

-- The laws of backing

-- what stands behind some lines and then what stands behind others stands behind both in turn
abbrev pub BackingIsJoined : Type 0
BackingIsJoined = (marks more : List Mark) (lines others : List what.What) → BacksAll marks lines → BacksAll more others → BacksAll (marks ++ more) (lines ++ others)

-- a trace that stands behind lines still does when the pass has gone on
abbrev pub BackingStays : Type 0
BackingStays = (marks more : List Mark) (lines : List what.What) → BacksAll marks lines → BacksAll (marks ++ more) lines

-- no trace without a step stands behind a line that was done at a place
abbrev pub NothingBacks : Type 0
NothingBacks = (p : _) (way : path.Path) (operation : line_op.LineOp) (reply : line_reply.LineReply) → ¬ BacksAll [] (whats.Did p way operation reply ∷ [])
