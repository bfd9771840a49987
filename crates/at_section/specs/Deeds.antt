-- What the marks of a trace say of locks: which are held, and whether a pass that was blocked is so yet.
use Rattle.std.specs.Prelude.{ℕ, zero, suc, ◌≡◌, ◌==◌, ◌||◌, ◌⊎◌, Bool, true, false, IsTrue, not, List, [], ◌∷◌, Option, Some, None, if◌then◌else◌}
use Rattle.std.specs.List.{find}
use Rattle.at_view.specs.declared.mark.Mark.{Mark}
use Rattle.at_view.specs.declared.mark.StepKind as step_kind
use Rattle.at_view.specs.declared.mark.StepKind.TheVariants as kinds
use Rattle.at_view.specs.declared.view.View.{View}
use Rattle.at_view.specs.Words.{number_of}
use Rattle.at_core.specs.declared.lock.Lock as lock
use Rattle.at_core.specs.Locks.{lock_word, holds}

-- what a step is to sections: a try to take a lock, a give, a load of the place, or none of these
pub data Deed : Type 0 where
  tries : Deed
  gives : Deed
  loads : Deed
  other : Deed

abbrev pub deed_of : step_kind.StepKind → Deed
deed_of kinds.LockTake = tries
deed_of kinds.LockGive = gives
deed_of kinds.SlotOut = other
deed_of kinds.SlotIn = other
deed_of kinds.Split = other
deed_of kinds.Join = other
deed_of kinds.PlaceLoad = loads
deed_of kinds.IntentStore = other
deed_of kinds.Commit = other
deed_of kinds.TagLoad = other
deed_of kinds.TagGive = other
deed_of kinds.TagDrop = other
deed_of kinds.SequenceLoad = other
deed_of kinds.FieldLoad = other
deed_of kinds.SequenceTake = other
deed_of kinds.FieldStore = other
deed_of kinds.SequenceClose = other
deed_of kinds.HeadLoad = other
deed_of kinds.HeadOpen = other
deed_of kinds.HeadClose = other
deed_of kinds.InlineLoad = other
deed_of kinds.InlineStore = other
deed_of kinds.KeyLoad = other
deed_of kinds.KeyAppend = other
deed_of kinds.CommitIf = other
deed_of kinds.GlobalLoad = other
deed_of kinds.Retire = other
deed_of kinds.Checkpoint = other
deed_of kinds.Online = other
deed_of kinds.Offline = other
deed_of kinds.ScanLoad = other

-- whether a try found the lock free; where it didn't, the lock was held
abbrev pub was_free : Option ℕ → Bool
was_free None = false
was_free (Some zero) = true
was_free (Some (suc found)) = false

-- Which locks are held

abbrev pub word_of : lock.Lock → ℕ
word_of l = number_of (lock_word l)

-- whether the word is that of one of these locks
abbrev pub names : List lock.Lock → ℕ → Bool
names [] word = false
names (l ∷ ls) word = (word_of l == word) || names ls word

-- which locks a pass holds
abbrev pub Held : Type 0
Held = lock.Lock → Bool

abbrev pub held : View → Held
held v = λ l. holds l v

-- the lock of this word is held from now on, or no longer
abbrev pub turned : ℕ → Bool → Held → Held
turned word now before = λ l. if word_of l == word then now else before l

abbrev pub held_by : Deed → Mark → Held → Held
held_by tries m before = if was_free m.found then turned m.word true before else before
held_by gives m before = turned m.word false before
held_by loads m before = before
held_by other m before = before

abbrev pub held_after : Held → List Mark → Held
held_after before [] = before
held_after before (m ∷ ms) = held_after (held_by (deed_of m.kind) m before) ms

-- Whether the pass is blocked: its last try found the lock held, and since then it gave locks and loaded no place

abbrev pub blocked_by : Deed → Mark → Bool → Bool
blocked_by tries m before = not (was_free m.found)
blocked_by gives m before = before
blocked_by loads m before = false
blocked_by other m before = before

abbrev pub blocked_after : Bool → List Mark → Bool
blocked_after before [] = before
blocked_after before (m ∷ ms) = blocked_after (blocked_by (deed_of m.kind) m before) ms

abbrev pub is_blocked : View → Bool
is_blocked v = blocked_after false v.trace

-- What the calls of sections do

-- It is so of each of the list.
abbrev pub Every : {A : Type 0} → (A → Type 0) → List A → Type 0
Every P [] = Unit {0}
Every P (x ∷ xs) = P x × Every P xs

-- of these locks, the first that isn't held
abbrev pub wanting : List lock.Lock → Held → Option lock.Lock
wanting ls before = find (λ l. not (before l)) ls

-- A try is of the first lock of the section that isn't held; or the pass holds nothing, and tries one of its locks.
abbrev pub IsTry : List lock.Lock → Held → ℕ → Type 0
IsTry ls before word =
    ((l : lock.Lock) × (word ≡ word_of l) × (wanting ls before ≡ Some l)) ⊎ (IsTrue (names ls word) × ((l : lock.Lock) → before l ≡ false))

-- for a section of these locks a pass makes such tries, gives and loads of the place, and no other step
abbrev pub IsFor : List lock.Lock → Held → Deed → Mark → Type 0
IsFor ls before tries m = IsTry ls before m.word
IsFor ls before gives m = Unit {0}
IsFor ls before loads m = Unit {0}
IsFor ls before other m = ⊥

abbrev pub AreFor : List lock.Lock → Held → List Mark → Type 0
AreFor ls before [] = Unit {0}
AreFor ls before (m ∷ ms) = IsFor ls before (deed_of m.kind) m × AreFor ls (held_by (deed_of m.kind) m before) ms

-- whether a step is a give of one of these locks
abbrev pub gives_one : List lock.Lock → Deed → ℕ → Bool
gives_one ls tries word = false
gives_one ls gives word = names ls word
gives_one ls loads word = false
gives_one ls other word = false

abbrev pub NoGive : List lock.Lock → List Mark → Type 0
NoGive ls ms = Every (λ m. gives_one ls (deed_of m.kind) m.word ≡ false) ms

-- whether a step is a try that found a lock held
abbrev pub finds_held : Deed → Option ℕ → Bool
finds_held tries found = not (was_free found)
finds_held gives found = false
finds_held loads found = false
finds_held other found = false

abbrev pub NoHeld : List Mark → Type 0
NoHeld ms = Every (λ m. finds_held (deed_of m.kind) m.found ≡ false) ms
