-- The ways that operations go. Locked is the way of operations that always go under locks: the begin and the end of a
-- section under the locks of its objects, each other operation under the lock of the types. Fast is the way without the
-- lock of the types; slow is the way under that lock after a miss on the fast way.
use Rattle.std.specs.Prelude.{Bool, true, false, not, ◌||◌, IsTrue, List, All}
use Rattle.at_value.specs.Types.{Op, Miss, Path}
use Rattle.at_value.specs.declared.operation.Op.TheVariants as ops
use Rattle.at_value.specs.declared.reply.Miss.TheVariants as misses
use Rattle.at_value.specs.declared.reply.Path.TheVariants as paths
use Rattle.at_line.specs.Types.{Line, LineOp, What}
use Rattle.at_line.specs.declared.line.LineOp.TheVariants as line_ops
use Rattle.at_line.specs.declared.line.What.TheVariants as whats

-- One way for all

abbrev pub is_locked : Path → Bool
is_locked paths.Locked = true
is_locked paths.Fast = false
is_locked (paths.Slow m) = false

abbrev pub IsLocked : What → Type 0
IsLocked (whats.Did place way operation reply) = IsTrue (is_locked way)
IsLocked (whats.Local local) = Unit {0}

-- every operation of the lines went the locked way, as each does on the plain data model
abbrev pub AreLocked : List Line → Type 0
AreLocked lines = All (λ (line : Line). IsLocked line.what) lines

-- The ways with lock-free reads and writes

-- the object has its values in a dictionary
abbrev pub is_dictionary : Miss → Bool
is_dictionary (misses.Untagged c) = false
is_dictionary (misses.Unlike e) = false
is_dictionary (misses.Writing e s) = false
is_dictionary (misses.Changed e s t) = false
is_dictionary (misses.Odd o h) = false
is_dictionary (misses.Dict o h) = true
is_dictionary (misses.Keyless c n) = false
is_dictionary (misses.Moved w first second) = false

-- the class has no key of the name
abbrev pub is_keyless : Miss → Bool
is_keyless (misses.Untagged c) = false
is_keyless (misses.Unlike e) = false
is_keyless (misses.Writing e s) = false
is_keyless (misses.Changed e s t) = false
is_keyless (misses.Odd o h) = false
is_keyless (misses.Dict o h) = false
is_keyless (misses.Keyless c n) = true
is_keyless (misses.Moved w first second) = false

-- the object was being written, or a word was changed meanwhile
abbrev pub is_odd_or_moved : Miss → Bool
is_odd_or_moved (misses.Untagged c) = false
is_odd_or_moved (misses.Unlike e) = false
is_odd_or_moved (misses.Writing e s) = false
is_odd_or_moved (misses.Changed e s t) = false
is_odd_or_moved (misses.Odd o h) = true
is_odd_or_moved (misses.Dict o h) = false
is_odd_or_moved (misses.Keyless c n) = false
is_odd_or_moved (misses.Moved w first second) = true

-- whether an operation has a fast way
abbrev pub has_fast_way : Op → Bool
has_fast_way (ops.NewClass c bases) = false
has_fast_way (ops.TypeSet c n v) = false
has_fast_way (ops.TypeDel c n) = false
has_fast_way (ops.SetBases c bases) = false
has_fast_way (ops.New c) = false
has_fast_way (ops.Set o n v) = true
has_fast_way (ops.Del o n) = true
has_fast_way (ops.SetClass o c) = false
has_fast_way (ops.Share o p) = false
has_fast_way (ops.Get o n) = true
has_fast_way (ops.TypeGet c n) = true
has_fast_way (ops.Super k o n) = false
has_fast_way (ops.Special o n) = true
has_fast_way (ops.ClassOf o) = true
has_fast_way (ops.Mro c) = false

-- Whether an operation can meet a miss on its fast way. A write can meet each. Where a class has no key of a name, the
-- objects whose values stand under its keys have no such attribute: so a read and a deletion go on. The look-up of a
-- special method, `C.x` and `o.__class__` read no values of an object, in a dictionary or not, and the last of them no tag
-- and no cache entry.
abbrev pub can_miss : Op → Miss → Bool
can_miss (ops.NewClass c bases) m = false
can_miss (ops.TypeSet c n v) m = false
can_miss (ops.TypeDel c n) m = false
can_miss (ops.SetBases c bases) m = false
can_miss (ops.New c) m = false
can_miss (ops.Set o n v) m = true
can_miss (ops.Del o n) m = not (is_keyless m)
can_miss (ops.SetClass o c) m = false
can_miss (ops.Share o p) m = false
can_miss (ops.Get o n) m = not (is_keyless m)
can_miss (ops.TypeGet c n) m = not (is_dictionary m || is_keyless m)
can_miss (ops.Super k o n) m = false
can_miss (ops.Special o n) m = not (is_dictionary m || is_keyless m)
can_miss (ops.ClassOf o) m = is_odd_or_moved m
can_miss (ops.Mro c) m = false

-- an operation that has a fast way goes it, or the slow one after a miss; each other goes the locked way
abbrev pub is_shared_way : Op → Path → Bool
is_shared_way o paths.Locked = not (has_fast_way o)
is_shared_way o paths.Fast = has_fast_way o
is_shared_way o (paths.Slow m) = can_miss o m

-- the ways of lines once there are lock-free reads and writes; the begin and the end of a section go the locked way
abbrev pub is_way_of_line : LineOp → Path → Bool
is_way_of_line (line_ops.Of o) way = is_shared_way o way
is_way_of_line (line_ops.Begin first second) way = is_locked way
is_way_of_line line_ops.Finish way = is_locked way

-- The ways that a legal list may have today

-- Chosen here: as long as nothing is read or written without a lock, each operation goes the locked way. From then on
-- this is `is_way_of_line`.
abbrev pub is_allowed_way : LineOp → Path → Bool
is_allowed_way operation way = is_locked way

abbrev pub IsPathAllowed : What → Type 0
IsPathAllowed (whats.Did place way operation reply) = IsTrue (is_allowed_way operation way)
IsPathAllowed (whats.Local local) = Unit {0}

-- each path is one that its operation may go
abbrev pub ArePathsAllowed : List Line → Type 0
ArePathsAllowed lines = All (λ (line : Line). IsPathAllowed line.what) lines
