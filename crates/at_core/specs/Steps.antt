-- The steps of the core: what each asks of the pass that makes it, and what it makes of the view of that pass. Each leaves
-- its mark in the trace. What a step finds and what it does to words and slots stands with the runs.
use Rattle.std.specs.Prelude.{ℕ, suc, ◌≡◌, ◌<◌, ◌==◌, Bool, true, false, List, [], ◌∷◌, ◌++◌, length, Option, Some, None, slice_set, position, unwrap_or, if◌then◌else◌}
use Rattle.at_value.specs.declared.operation.Op as op
use Rattle.at_model.specs.World.{World}
use Rattle.at_model.specs.History.{replay}
use Rattle.at_types.specs.Tags.{times}
use Rattle.at_view.specs.declared.mark.Mark.{Mark}
use Rattle.at_view.specs.declared.mark.StepKind as step_kind
use Rattle.at_view.specs.declared.mark.StepKind.TheVariants as kinds
use Rattle.at_view.specs.declared.view.ClassKeys.{ClassKeys}
use Rattle.at_view.specs.declared.view.Hold.{Hold}
use Rattle.at_view.specs.declared.view.RowCopy.{RowCopy}
use Rattle.at_view.specs.declared.view.RowHold.{RowHold}
use Rattle.at_view.specs.declared.view.ScanView.{ScanView}
use Rattle.at_view.specs.declared.view.TypeLists.{TypeLists}
use Rattle.at_view.specs.declared.view.TypesView.{TypesView}
use Rattle.at_view.specs.declared.view.View.{View}
use Rattle.at_view.specs.Views.{blank, longer}
use Rattle.at_view.specs.Words.{Word, Words, number_of, place, global_sequence, own_sequence, head}
use Rattle.at_core.specs.declared.lock.Lock as lock
use Rattle.at_core.specs.declared.lock.Lock.TheVariants as locks
use Rattle.at_core.specs.declared.stored.Stored.{Stored}
use Rattle.at_core.specs.Heads.{class_of, IsWhole}
use Rattle.at_core.specs.Locks.{lock_word, hold_at, hold_of, holds, copy_at}
use Rattle.at_core.specs.Rule.{Agrees, shape_under, copied_keys, keys_of, types_words, row_words}

-- Marks

abbrev pub mark : step_kind.StepKind → Word → Option ℕ → Option ℕ → Mark
mark kind word found left = record { kind = kind; word = number_of word; found = found; left = left; free = None }

abbrev pub marked : View → Mark → View
marked v m = record v { trace = v.trace ++ m ∷ [] }

-- what there is at a moment of the table: the history, the lists of the types, and the words
pub record Moment : Type 0 where
  pub history : List op.Op
  pub lists : TypeLists
  pub words : Words

-- Taking a lock: asked is that the pass doesn't hold it

abbrev pub MayTake : lock.Lock → View → Type 0
MayTake l v = holds l v ≡ false

-- the lock is held from this moment on
abbrev pub hold_from : Moment → Hold
hold_from at = record { held = true; since = at.history; entered = length at.history }

abbrev pub types_taken : lock.Lock → Moment → TypesView → TypesView
types_taken locks.Types at types = record { hold = hold_from at; lists = at.lists; words = types_words at.words }
types_taken (locks.Row o) at types = types

abbrev pub holds_taken : lock.Lock → Moment → List RowHold → List RowHold
holds_taken locks.Types at rows = rows
holds_taken (locks.Row o) at rows = (record { object = o; hold = hold_from at }) ∷ rows

abbrev pub rows_taken : lock.Lock → Moment → List RowCopy → List RowCopy
rows_taken locks.Types at rows = rows
rows_taken (locks.Row o) at rows = (record { object = o; words = row_words at.words o }) ∷ rows

-- the keys of a class as they are
abbrev pub keys_of_class : Words → ℕ → ClassKeys
keys_of_class words c = record { class = c; keys = copied_keys (keys_of words) c }

abbrev pub known_taken : lock.Lock → Moment → List ClassKeys → List ClassKeys
known_taken locks.Types at known = known
known_taken (locks.Row o) at known = keys_of_class at.words (class_of (at.words (head o))) ∷ known

abbrev pub scan_taken : lock.Lock → ScanView → ScanView
scan_taken locks.Types scan = blank.scan
scan_taken (locks.Row o) scan = scan

-- The pass has the lock, has seen the history up to now, and has copies of the words that it alone may change from now on.
-- With a row it knows the keys of the class that the head names.
abbrev pub holding : lock.Lock → View → Moment → View
holding l v at = record v {
  history = record v.history { seen = at.history };
  types = types_taken l at v.types;
  holds = holds_taken l at v.holds;
  rows = rows_taken l at v.rows;
  known = known_taken l at v.known;
  scan = scan_taken l v.scan;
}

abbrev pub taken : lock.Lock → View → Moment → View
taken l v at = marked (holding l v at) (mark kinds.LockTake (lock_word l) (Some 0) (Some (suc v.who.number)))

-- it found the lock held, and took nothing
abbrev pub missed : lock.Lock → View → ℕ → View
missed l v found = marked v (mark kinds.LockTake (lock_word l) (Some found) (Some found))

-- Giving a lock back: asked is that the pass holds it, that its slot has a value that agrees with what the lock kept, and that
-- nothing is open

-- what the copies of heads are
abbrev pub copied_heads : View → ℕ → ℕ
copied_heads v o = (copy_at o v.rows).head

-- The value in the slot of a lock that the view holds is right: it agrees with the history that the lock has kept, with these
-- lists, and with the view's copy of the head.
abbrev pub ValueAgrees : World → lock.Lock → View → TypeLists → Stored → Type 0
ValueAgrees opened l v lists x = Agrees v.who.limits (replay opened (hold_of l v).since) lists (shape_under (copied_heads v) l) l x

-- the lists that go back with the types are those of the view
abbrev pub Returns : TypeLists → TypeLists → Type 0
Returns lists back = back ≡ lists

-- Nothing that the lock is needed for is open: of a row its head, and with the types no head at all.
abbrev pub IsShut : lock.Lock → View → Type 0
IsShut locks.Types v = (o : ℕ) → holds (locks.Row o) v ≡ true → IsWhole (copied_heads v o)
IsShut (locks.Row o) v = IsWhole (copied_heads v o)

pub record MayGive (opened : World) (l : lock.Lock) (v : View) (back : TypeLists) (x : Stored) : Type 0 where
  pub held : holds l v ≡ true
  pub returns : Returns v.types.lists back
  pub agrees : ValueAgrees opened l v back x
  pub shut : IsShut l v

abbrev pub let_go : Hold → Hold
let_go hold = record hold { held = false }

abbrev pub types_given : lock.Lock → TypesView → TypesView
types_given locks.Types types = record types { hold = let_go types.hold }
types_given (locks.Row o) types = types

abbrev pub holds_given : lock.Lock → List RowHold → List RowHold
holds_given locks.Types rows = rows
holds_given (locks.Row o) rows = (record { object = o; hold = let_go (hold_at o rows) }) ∷ rows

abbrev pub given : lock.Lock → View → View
given l v = marked (record v { types = types_given l v.types; holds = holds_given l v.holds }) (mark kinds.LockGive (lock_word l) None (Some 0))

-- the lists once a lock is given back: those that go back with the types
abbrev pub lists_given : lock.Lock → TypeLists → TypeLists → TypeLists
lists_given locks.Types back lists = back
lists_given (locks.Row o) back lists = lists

-- Being online: the global sequence is loaded, and what was loaded of it becomes the pass's own; 0 is that of a pass that is offline

-- what was found there is known
abbrev pub global_loaded : View → ℕ → View
global_loaded v found = marked (record v { tags = record v.tags { global = found } }) (mark kinds.GlobalLoad global_sequence (Some found) (Some found))

-- asked is that the pass is offline, has loaded the global sequence, and has no cache entry open
pub record MayGoOnline (v : View) : Type 0 where
  pub offline : v.tags.online ≡ false
  pub loaded : 0 < v.tags.global
  pub closed : v.write.writing ≡ false

-- that it has no cache entry open
pub record MayGoOffline (v : View) : Type 0 where
  pub closed : v.write.writing ≡ false

-- the pass holds no tag, and nothing of a read
abbrev pub forgetting : Bool → View → View
forgetting online v = record v { tags = record { online = online; global = v.tags.global; held = [] }; looks = []; read = blank.read }

abbrev pub gone_online : View → View
gone_online v = marked (forgetting true v) (mark kinds.Online (own_sequence v.who.number) None (Some v.tags.global))

abbrev pub gone_offline : View → View
gone_offline v = marked (forgetting false v) (mark kinds.Offline (own_sequence v.who.number) None (Some 0))

-- Splitting a pass off: asked is that the pass holds the lock of the types and no other, and that a number is free

-- the pass holds the lock of the types and no row
pub record HoldsTypesAlone (v : View) : Type 0 where
  pub types : holds locks.Types v ≡ true
  pub rows : (o : ℕ) → holds (locks.Row o) v ≡ false

-- the least free number, where there is one
abbrev pub next_number : List Bool → Option ℕ
next_number numbers = position (λ free. free) numbers

pub record MaySplit (v : View) (number : ℕ) : Type 0 where
  pub alone : HoldsTypesAlone v
  pub free : next_number v.types.lists.numbers ≡ Some number

abbrev pub number_for : View → ℕ
number_for v = unwrap_or (next_number v.types.lists.numbers) 0

-- the lists once the next number is that of a pass
abbrev pub lists_parted : TypeLists → TypeLists
lists_parted lists = record lists { numbers = slice_set lists.numbers (unwrap_or (next_number lists.numbers) 0) false; next_birth = suc lists.next_birth }

abbrev pub parted : View → View
parted v = marked (record v {
  who = record v.who { children = v.types.lists.next_birth ∷ v.who.children };
  types = record v.types { lists = lists_parted v.types.lists };
}) (mark kinds.Split place None None)

-- The new pass has the next birth and the least free number. It has seen what the other has, and is offline.
abbrev pub child : View → View
child v = record blank {
  who = record { live = true; number = number_for v; limits = v.who.limits; children = [] };
  history = record { birth = v.types.lists.next_birth; seen = v.history.seen; own = [] };
}

-- Taking in another pass: asked is that the pass holds the lock of the types and no other, and that the other is its child,
-- holds no lock, has no cache entry open and is offline

pub record MayJoin (v other : View) : Type 0 where
  pub alone : HoldsTypesAlone v
  pub child : 0 < times other.history.birth v.who.children
  pub lockless : (l : lock.Lock) → holds l other ≡ false
  pub closed : other.write.writing ≡ false
  pub offline : other.tags.online ≡ false

-- without the number, where it first stands
abbrev pub without : ℕ → List ℕ → List ℕ
without n [] = []
without n (m ∷ ms) = if m == n then ms else m ∷ without n ms

-- the lists once the number is free again
abbrev pub lists_joined : TypeLists → ℕ → TypeLists
lists_joined lists number = record lists { numbers = slice_set lists.numbers number true }

-- The pass has seen what either had, and has the own places, the children and the traces of both.
abbrev pub merged : View → View → View
merged v other = marked (record v {
  who = record v.who { children = without other.history.birth v.who.children ++ other.who.children };
  history = record v.history { seen = longer v.history.seen other.history.seen; own = v.history.own ++ other.history.own };
  joined = record { first = v.history.seen; second = other.history.seen };
  types = record v.types { lists = lists_joined v.types.lists other.who.number };
  kept = (v.kept ++ record { birth = other.history.birth; marks = other.trace } ∷ []) ++ other.kept;
}) (mark kinds.Join place None None)
