-- Kept sections: while a section over some objects is kept, no other thread writes these objects.
use Rattle.std.specs.Prelude.{ℕ, ◌<◌, ◌≤◌, ◌==◌, List, [], ◌∷◌, ◌++◌, Option, Some, None, option_to_list, slice_get, if◌then◌else◌, All, Contains}
use Rattle.at_value.specs.declared.operation.Op as op
use Rattle.at_value.specs.declared.operation.Op.TheVariants as ops
use Rattle.at_line.specs.declared.line.Line.{Line}
use Rattle.at_line.specs.declared.line.LineOp.TheVariants as line_ops
use Rattle.at_line.specs.declared.line.LineReply.TheVariants as line_replies
use Rattle.at_line.specs.declared.line.What as what
use Rattle.at_line.specs.declared.line.What.TheVariants as whats
use Rattle.at_model.specs.declared.rows.Object.{Object}
use Rattle.at_model.specs.World.{World}
use Rattle.at_line.specs.Lines.{EachAfter, write_in}
use Rattle.at_line.specs.Legal.{world_before}

-- Rows

-- the object, and the name of its dictionary
abbrev pub with_dict_name : ℕ → Option Object → List ℕ
with_dict_name o None = o ∷ []
with_dict_name o (Some found) = o ∷ found.dict ∷ []

-- The rows that a write touches: for `o.x = v` and `del o.x` the object and the dictionary that it names, for
-- `o.__class__ = c` the object, for `o.__dict__ = p.__dict__` both objects, and for other operations none.
abbrev pub rows_of : World → op.Op → List ℕ
rows_of w (ops.NewClass c bases) = []
rows_of w (ops.TypeSet c n v) = []
rows_of w (ops.TypeDel c n) = []
rows_of w (ops.SetBases c bases) = []
rows_of w (ops.New c) = []
rows_of w (ops.Set o n v) = with_dict_name o (slice_get w.objects o)
rows_of w (ops.Del o n) = with_dict_name o (slice_get w.objects o)
rows_of w (ops.SetClass o c) = o ∷ []
rows_of w (ops.Share o p) = o ∷ p ∷ []
rows_of w (ops.Get o n) = []
rows_of w (ops.TypeGet c n) = []
rows_of w (ops.Super k o n) = []
rows_of w (ops.Special o n) = []
rows_of w (ops.ClassOf o) = []
rows_of w (ops.Mro c) = []

-- Sections

-- what stands in the lines of a thread
abbrev pub whats_of_thread : ℕ → List Line → List what.What
whats_of_thread thread [] = []
whats_of_thread thread (line ∷ lines) = if line.thread == thread then line.what ∷ whats_of_thread thread lines else whats_of_thread thread lines

-- the writes of the other threads
abbrev pub writes_beside : ℕ → List Line → List (ℕ × op.Op)
writes_beside thread [] = []
writes_beside thread (line ∷ lines) = if line.thread == thread then writes_beside thread lines else write_in line.what ++ writes_beside thread lines

-- a section: the place at which it began, and its objects
pub record Section : Type 0 where
  pub begun : ℕ
  pub objects : List ℕ

-- the sections around the innermost
abbrev pub around : List Section → List Section
around [] = []
around (section ∷ sections) = sections

-- The sections that are open after a line of a thread, the innermost first: a begin opens one, and an end closes the one
-- whose begin is the nearest that no other end belongs to.
abbrev pub open_after : List Section → what.What → List Section
open_after sections (whats.Did place path (line_ops.Of operation) reply) = sections
open_after sections (whats.Did place path (line_ops.Begin first second) reply) = (record { begun = place.0; objects = first ∷ option_to_list second }) ∷ sections
open_after sections (whats.Did place path line_ops.Finish reply) = around sections
open_after sections (whats.Local local) = sections

abbrev pub open_sections : List Section → List what.What → List Section
open_sections sections [] = sections
open_sections sections (w ∷ more) = open_sections (open_after sections w) more

-- a write at a place after the begin and up to the end touches none of the objects
abbrev pub LeavesAlone : World → List op.Op → ℕ → ℕ → List ℕ → ℕ × op.Op → Type 0
LeavesAlone opened history begun ended objects write =
    begun < write.0 → write.0 ≤ ended → (o : ℕ) → Contains objects o → ¬ Contains (rows_of (world_before opened history write.0) write.1) o

-- the innermost of the open sections was left alone up to its end by these writes
abbrev pub IsLeftAlone : World → List op.Op → ℕ → List (ℕ × op.Op) → List Section → Type 0
IsLeftAlone opened history ended beside [] = Unit {0}
IsLeftAlone opened history ended beside (section ∷ sections) = All (LeavesAlone opened history section.begun ended section.objects) beside

-- an end that replied `Kept` belongs to a section that the writes of other threads left alone
abbrev pub IsKeptEnd : World → List op.Op → List (ℕ × op.Op) → List Section → what.What → Type 0
IsKeptEnd opened history beside sections (whats.Did place path (line_ops.Of operation) reply) = Unit {0}
IsKeptEnd opened history beside sections (whats.Did place path (line_ops.Begin first second) reply) = Unit {0}
IsKeptEnd opened history beside sections (whats.Did place path line_ops.Finish (line_replies.Of reply)) = Unit {0}
IsKeptEnd opened history beside sections (whats.Did place path line_ops.Finish line_replies.Kept) = IsLeftAlone opened history place.0 beside sections
IsKeptEnd opened history beside sections (whats.Did place path line_ops.Finish (line_replies.Suspended times)) = Unit {0}
IsKeptEnd opened history beside sections (whats.Local local) = Unit {0}

-- The section that a line ends was kept, where the line says so: after the lines before it, among all lines.
abbrev pub IsKeptLine : World → List op.Op → List Line → List Line → Line → Type 0
IsKeptLine opened history lines before line =
    IsKeptEnd opened history (writes_beside line.thread lines) (open_sections [] (whats_of_thread line.thread before)) line.what

-- Each section whose end replied `Kept` was kept, where this is the history of the lines: the writes of the other threads
-- leave its objects alone.
abbrev pub IsKept : World → List op.Op → List Line → Type 0
IsKept opened history lines = EachAfter (IsKeptLine opened history lines) lines
