-- Which lists of lines are an execution of a block.
use Rattle.std.specs.Prelude.{◌≡◌, ℕ, zero, suc, Bool, true, false, List, [], ◌∷◌}
use Rattle.at_value.specs.Types.{Op}
use Rattle.at_value.specs.declared.operation.Op.TheVariants as ops
use Rattle.at_value.specs.declared.reply.Reply.TheVariants as replies
use Rattle.at_line.specs.Types.{Local, LineOp, LineReply, What}
use Rattle.at_line.specs.declared.line.Local.TheVariants as locals
use Rattle.at_line.specs.declared.line.LineOp.TheVariants as line_ops
use Rattle.at_line.specs.declared.line.LineReply.TheVariants as line_replies
use Rattle.at_line.specs.declared.line.What.TheVariants as whats
use Rattle.at_thread.specs.Types.{ReplyUse}
use Rattle.at_script.specs.Parts.{ScriptParts}
use Rattle.at_thread.specs.Execution.{ThreadState, Transition, ended, silent, checkpoints, says, asks, dropped, taken, next_of}

-- Whether a line of the operation can have the reply: the begin of a section is done, its end was kept or suspended, and any
-- other operation has a reply of the data model.
abbrev pub can_reply : LineOp → LineReply → Bool
can_reply (line_ops.Of o) (line_replies.Of r) = true
can_reply (line_ops.Of o) line_replies.Kept = false
can_reply (line_ops.Of o) (line_replies.Suspended n) = false
can_reply (line_ops.Begin o p) (line_replies.Of replies.Done) = true
can_reply (line_ops.Begin o p) (line_replies.Of r) = false
can_reply (line_ops.Begin o p) line_replies.Kept = false
can_reply (line_ops.Begin o p) (line_replies.Suspended n) = false
can_reply line_ops.Finish (line_replies.Of r) = false
can_reply line_ops.Finish line_replies.Kept = true
can_reply line_ops.Finish (line_replies.Suspended n) = true

-- an operation that can be a write
abbrev pub can_write : Op → Bool
can_write (ops.NewClass c bases) = true
can_write (ops.TypeSet c x v) = true
can_write (ops.TypeDel c x) = true
can_write (ops.SetBases c bases) = true
can_write (ops.New c) = true
can_write (ops.Set o x v) = true
can_write (ops.Del o x) = true
can_write (ops.SetClass o c) = true
can_write (ops.Share o p) = true
can_write (ops.Get o x) = false
can_write (ops.TypeGet c x) = false
can_write (ops.Super c o x) = false
can_write (ops.Special o x) = false
can_write (ops.ClassOf o) = false
can_write (ops.Mro c) = false

-- an operation that writes an object's own
abbrev pub can_wear : Op → Bool
can_wear (ops.NewClass c bases) = false
can_wear (ops.TypeSet c x v) = false
can_wear (ops.TypeDel c x) = false
can_wear (ops.SetBases c bases) = false
can_wear (ops.New c) = false
can_wear (ops.Set o x v) = true
can_wear (ops.Del o x) = true
can_wear (ops.SetClass o c) = true
can_wear (ops.Share o p) = true
can_wear (ops.Get o x) = false
can_wear (ops.TypeGet c x) = false
can_wear (ops.Super c o x) = false
can_wear (ops.Special o x) = false
can_wear (ops.ClassOf o) = false
can_wear (ops.Mro c) = false

-- Whether a line may stand in the place of an operation of the data model: that the history has no room, in that of one
-- that can be a write; that a head can't be written any more, in that of one that writes an object.
abbrev pub stands_for_op : Op → Local → Bool
stands_for_op o (locals.Full place) = can_write o
stands_for_op o (locals.Worn sequence) = can_wear o
stands_for_op o locals.Depth = false
stands_for_op o locals.Budget = false
stands_for_op o locals.Kind = false
stands_for_op o (locals.Unbound a) = false
stands_for_op o locals.NotCallable = false

-- no line stands in the place of the begin or the end of a section
abbrev pub stands_for : LineOp → Local → Bool
stands_for (line_ops.Of o) l = stands_for_op o l
stands_for (line_ops.Begin o p) l = false
stands_for line_ops.Finish l = false

-- the line is of this operation with a reply that it can have, or stands in its place, and the rest goes on with what
-- becomes of it
abbrev pub Answers : (ThreadState → Type 0) → LineOp → ReplyUse → ThreadState → What → Type 0
Answers on o u s (whats.Did place path p r) = (p ≡ o) × (can_reply o r ≡ true) × on (taken u r s)
Answers on o u s (whats.Local l) = (stands_for o l ≡ true) × on (dropped s)

-- what is demanded has the first of these lines, or none, and the rest goes on
abbrev pub Fits : (ThreadState → List What → Type 0) → Transition → List What → Type 0
Fits on ended lines = ⊥
Fits on (silent s) lines = on s lines
Fits on (checkpoints s) lines = on s lines
Fits on (says l s) [] = ⊥
Fits on (says l s) (w ∷ lines) = (w ≡ whats.Local l) × on s lines
Fits on (asks o u s) [] = ⊥
Fits on (asks o u s) (w ∷ lines) = Answers (λ t. on t lines) o u s w

-- n steps lead from s to t, with these lines
abbrev pub Leads : ScriptParts → ℕ → ThreadState → List What → ThreadState → Type 0
Leads p zero s lines t = (lines ≡ []) × (s ≡ t)
Leads p (suc n) s lines t = Fits (λ u rest. Leads p n u rest t) (next_of p s) lines

-- some steps lead from s to t, where the thread has ended, with these lines
abbrev pub IsExecution : ScriptParts → ThreadState → List What → ThreadState → Type 0
IsExecution p s lines t = (next_of p t ≡ ended) × (n : ℕ) × Leads p n s lines t

-- one step leads to t with these lines
abbrev pub Makes : Transition → List What → ThreadState → Type 0
Makes next lines t = Fits (λ u rest. (rest ≡ []) × (u ≡ t)) next lines
