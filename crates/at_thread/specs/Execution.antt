-- How a thread executes its block: a state of frames, variables and statements begun, and what it demands next. The state
-- demands a line that is no operation, or an operation whose reply it takes from the line, or a checkpoint, or nothing. It
-- knows the script and no world.
use Rattle.std.specs.Prelude.{ℕ, ◌+◌, ◌==◌, nat_le, Bool, true, false, List, [], ◌∷◌, length, Option, Some, None, Result, Ok, Err, if◌then◌else◌, slice_index_or, slice_set}
use Rattle.at_value.specs.Types.{Value, Op}
use Rattle.at_value.specs.declared.value.Value.TheVariants as values
use Rattle.at_value.specs.declared.operation.Op.TheVariants as ops
use Rattle.at_value.specs.declared.reply.Reply.TheVariants as replies
use Rattle.at_line.specs.Types.{Local, LineOp, LineReply}
use Rattle.at_line.specs.declared.line.Local.TheVariants as locals
use Rattle.at_line.specs.declared.line.LineOp.TheVariants as line_ops
use Rattle.at_line.specs.declared.line.LineReply.TheVariants as line_replies
use Rattle.at_script.specs.Types.{Stmt, Operand, Target}
use Rattle.at_script.specs.declared.stmt.Stmt.TheVariants as stmts
use Rattle.at_script.specs.declared.stmt.Operand.TheVariants as operands
use Rattle.at_script.specs.Parts.{ScriptParts}
use Rattle.at_script.specs.Operands.{operand_of}
use Rattle.at_thread.specs.Types.{ReplyUse, OnReturn, Call, Action}
use Rattle.at_thread.specs.declared.next.ReplyUse.TheVariants as uses
use Rattle.at_thread.specs.declared.next.OnReturn.TheVariants as on_returns
use Rattle.at_thread.specs.declared.next.Action.TheVariants as actions

-- the values of the variables by number, none where a variable isn't bound
abbrev pub Variables : Type 0
Variables = List (Option Value)

-- A block or an active call: what it was called with, the statements that are left, whether a section of its own is open,
-- and what `it` is at its end.
pub record Frame : Type 0 where
  pub self_arg : Value
  pub other : Value
  pub arg : Value
  pub rest : List Stmt
  pub opened : Bool
  pub on_return : OnReturn

-- Where a thread stands: its block and active calls, the innermost first; the call that is to begin before anything else;
-- the variables; `it`; and how many statements were begun.
pub record ThreadState : Type 0 where
  pub frames : List Frame
  pub call : Option Call
  pub variables : Variables
  pub it : Value
  pub begun : ℕ

-- what a state demands, and the state that goes on
pub data Transition : Type 0 where
  ended : Transition
  silent : ThreadState → Transition
  checkpoints : ThreadState → Transition
  says : Local → ThreadState → Transition
  asks : LineOp → ReplyUse → ThreadState → Transition

-- Operands. They are evaluated from left to right, and the first that can't be is said.

abbrev pub and_then : {A B E : Type 0} → Result A E → (A → Result B E) → Result B E
and_then (Ok a) f = f a
and_then (Err e) f = Err e

infixl 10 ◌>>=◌
abbrev pub ◌>>=◌ : {A B E : Type 0} → Result A E → (A → Result B E) → Result B E
r >>= f = and_then r f

abbrev pub bound_to : ℕ → Option Value → Result Value Local
bound_to a None = Err (locals.Unbound a)
bound_to a (Some v) = Ok v

-- a variable that isn't bound has no value
abbrev pub variable_value : Variables → ℕ → Result Value Local
variable_value variables a = bound_to a (slice_index_or variables a None)

abbrev pub operand_value : ThreadState → Frame → Operand → Result Value Local
operand_value s f (operands.Value v) = Ok v
operand_value s f (operands.Var a) = variable_value s.variables a
operand_value s f operands.SelfArg = Ok f.self_arg
operand_value s f operands.Arg = Ok f.arg
operand_value s f operands.Other = Ok f.other
operand_value s f operands.It = Ok s.it

-- an operand that may be left out is then none
abbrev pub given_value : ThreadState → Frame → Option Operand → Result Value Local
given_value s f None = Ok values.Nothing
given_value s f (Some v) = operand_value s f v

abbrev pub target_value : ThreadState → Frame → Target → Result Value Local
target_value s f r = operand_value s f (operand_of r)

abbrev pub as_object : Value → Result ℕ Local
as_object (values.Obj o) = Ok o
as_object v = Err locals.Kind

abbrev pub target_object : ThreadState → Frame → Target → Result ℕ Local
target_object s f r = and_then (target_value s f r) as_object

-- reading name x of an object or of a class
abbrev pub read_of : Value → ℕ → Result Op Local
read_of (values.Obj o) x = Ok (ops.Get o x)
read_of (values.Class c) x = Ok (ops.TypeGet c x)
read_of v x = Err locals.Kind

abbrev pub target_read : ThreadState → Frame → Target → ℕ → Result Op Local
target_read s f r x = and_then (target_value s f r) (λ v. read_of v x)

-- the second object of a section, where it is another
abbrev pub other_object : ThreadState → Frame → ℕ → Option Target → Result (Option ℕ) Local
other_object s f o None = Ok None
other_object s f o (Some r) = and_then (target_object s f r) (λ p. Ok (if p == o then None else Some p))

-- What statements do

abbrev pub asking : Op → ReplyUse → Action
asking o u = actions.Ask (record { op = line_ops.Of o; reply_use = u })

-- What a statement does once its operands are evaluated, or the line that says that one can't be. For an operation it is
-- also said what the reply is used for. `return` ends its function after such a line too.
abbrev pub action_of : ScriptParts → ThreadState → Frame → Stmt → Result Action Local
action_of p s f (stmts.Class c bases) = Ok (asking (ops.NewClass c bases) uses.Ignore)
action_of p s f (stmts.Bases c bases) = Ok (asking (ops.SetBases c bases) uses.Ignore)
action_of p s f (stmts.Put c x v) = do
  w ← operand_value s f v
  Ok (asking (ops.TypeSet c x w) uses.Ignore)
action_of p s f (stmts.Cut c x) = Ok (asking (ops.TypeDel c x) uses.Ignore)
action_of p s f (stmts.New a c v) = do
  w ← given_value s f v
  Ok (asking (ops.New c) (uses.Bind a w))
action_of p s f (stmts.Set r x v) = do
  o ← target_object s f r
  w ← operand_value s f v
  Ok (asking (ops.Set o x w) uses.Write)
action_of p s f (stmts.Del r x) = do
  o ← target_object s f r
  Ok (asking (ops.Del o x) uses.Write)
action_of p s f (stmts.Get r x) = do
  read ← target_read s f r x
  Ok (asking read uses.Read)
action_of p s f (stmts.Turn r c) = do
  o ← target_object s f r
  Ok (asking (ops.SetClass o c) uses.Ignore)
action_of p s f (stmts.Share r q) = do
  o ← target_object s f r
  other ← target_object s f q
  Ok (asking (ops.Share o other) uses.Ignore)
action_of p s f (stmts.Super c r x) = do
  o ← target_object s f r
  Ok (asking (ops.Super c o x) uses.Read)
action_of p s f (stmts.Special r x) = do
  o ← target_object s f r
  Ok (asking (ops.Special o x) uses.Read)
action_of p s f (stmts.ClassOf r) = do
  o ← target_object s f r
  Ok (asking (ops.ClassOf o) uses.Learn)
action_of p s f (stmts.Mro c) = Ok (asking (ops.Mro c) uses.Ignore)
action_of p s f (stmts.Call r x v) = do
  read ← target_read s f r x
  w ← given_value s f v
  Ok (asking read (uses.Call w))
action_of p s f (stmts.CallSuper c r x v) = do
  o ← target_object s f r
  w ← given_value s f v
  Ok (asking (ops.Super c o x) (uses.Call w))
action_of p s f (stmts.Let a v) = do
  w ← operand_value s f v
  Ok (actions.Bind a w)
action_of p s f (stmts.Return v) = Ok (actions.Return (operand_value s f v))
action_of p s f (stmts.Begin r q) = do
  o ← target_object s f r
  other ← other_object s f o q
  Ok (actions.Ask (record { op = line_ops.Begin o other; reply_use = uses.Open }))
action_of p s f stmts.Finish = Ok actions.Finish
action_of p s f stmts.Checkpoint = Ok actions.Checkpoint

-- What becomes of a reply

abbrev pub with_it : Value → ThreadState → ThreadState
with_it v s = record s { it = v }

-- the statement ends, and `it` is none
abbrev pub dropped : ThreadState → ThreadState
dropped s = with_it values.Nothing s

abbrev pub calling : Call → ThreadState → ThreadState
calling c s = record s { call = Some c }

-- a block or a call has ended with this value
abbrev pub returned : OnReturn → Value → ThreadState → ThreadState
returned on_returns.Result v s = with_it v s
returned on_returns.Nothing v s = dropped s
returned (on_returns.Object o) v s = with_it (values.Obj o) s

-- A hook that is a function is called with self the receiver, and one that is a staticmethod with self none. No other
-- can be called.
abbrev pub hook_call : Value → Value → Value → Value → OnReturn → Call
hook_call (values.Func f) r o v g = record { callee = Some f; self_arg = r; other = o; arg = v; on_return = g }
hook_call (values.Static f) r o v g = record { callee = Some f; self_arg = values.Nothing; other = o; arg = v; on_return = g }
hook_call c r o v g = record { callee = None; self_arg = r; other = o; arg = v; on_return = g }

-- a call with self none, whose result is `it`
abbrev pub plain_call : Option ℕ → Value → Call
plain_call callee w = record { callee = callee; self_arg = values.Nothing; other = values.Nothing; arg = w; on_return = on_returns.Result }

-- A function that was read is called with self none. No other value can be called.
abbrev pub value_call : Value → Value → Call
value_call (values.Func f) w = plain_call (Some f) w
value_call v w = plain_call None w

-- a bound function is called with self what it is bound to
abbrev pub method_call : ℕ → Value → Value → Call
method_call f r w = record { callee = Some f; self_arg = r; other = values.Nothing; arg = w; on_return = on_returns.Result }

-- the variable is bound to the value
abbrev pub binding : ℕ → Value → ThreadState → ThreadState
binding a v s = record s { variables = slice_set s.variables a (Some v) }

-- a section of the innermost frame is open, or isn't
abbrev pub with_opened : Bool → List Frame → List Frame
with_opened b [] = []
with_opened b (f ∷ below) = record f { opened = b } ∷ below

-- What becomes of the reply of the line, by its use. A reply that the statement has no use for counts as a refusal: the
-- statement ends, and `it` is none. Where a call follows, `it` stays as it was until the call has ended.
abbrev pub taken : ReplyUse → LineReply → ThreadState → ThreadState
taken uses.Ignore r s = dropped s
taken uses.Read (line_replies.Of (replies.Value v)) s = with_it v s
taken uses.Read (line_replies.Of (replies.Hook k c r o v)) s = calling (hook_call c r o v on_returns.Result) s
taken uses.Read r s = dropped s
taken uses.Learn (line_replies.Of (replies.Value v)) s = with_it v s
taken uses.Learn r s = dropped s
taken uses.Write (line_replies.Of (replies.Hook k c r o v)) s = calling (hook_call c r o v on_returns.Nothing) s
taken uses.Write r s = dropped s
taken (uses.Call w) (line_replies.Of (replies.Value v)) s = calling (value_call v w) s
taken (uses.Call w) (line_replies.Of (replies.Method f r)) s = calling (method_call f r w) s
taken (uses.Call w) (line_replies.Of (replies.Hook k c r o v)) s = calling (hook_call c r o v on_returns.Result) s
taken (uses.Call w) r s = dropped s
taken (uses.Bind a w) (line_replies.Of (replies.Made o None)) s = with_it (values.Obj o) (binding a (values.Obj o) s)
taken (uses.Bind a w) (line_replies.Of (replies.Made o (Some init))) s =
    calling (hook_call init (values.Obj o) values.Nothing w (on_returns.Object o)) (binding a (values.Obj o) s)
taken (uses.Bind a w) r s = dropped s
taken uses.Open (line_replies.Of replies.Done) s = dropped (record s { frames = with_opened true s.frames })
taken uses.Open r s = dropped s
taken uses.Close line_replies.Kept s = dropped s
taken uses.Close (line_replies.Suspended n) s = dropped s
taken uses.Close (line_replies.Of r) s = dropped s

-- The next step

-- `return` ends its function, with none where its operand has no value
abbrev pub return_next : OnReturn → ThreadState → Result Value Local → Transition
return_next g s (Ok v) = silent (returned g v s)
return_next g s (Err l) = says l (returned g values.Nothing s)

-- `finish` writes no line where its `begin` opened no section
abbrev pub finish_next : ThreadState → Bool → Transition
finish_next s true = asks line_ops.Finish uses.Close (record s { frames = with_opened false s.frames })
finish_next s false = silent (dropped s)

-- What comes of a statement of frame f, which stands above these frames, by what it does. In this state f has left the
-- statement.
abbrev pub action_next : ThreadState → Frame → List Frame → Result Action Local → Transition
action_next s f below (Ok (actions.Bind a v)) = silent (binding a v s)
action_next s f below (Ok (actions.Return v)) = return_next f.on_return (record s { frames = below }) v
action_next s f below (Ok actions.Finish) = finish_next s f.opened
action_next s f below (Ok actions.Checkpoint) = checkpoints s
action_next s f below (Ok (actions.Ask a)) = asks a.op a.reply_use s
action_next s f below (Err l) = says l (dropped s)

abbrev pub statement_next : ScriptParts → ThreadState → Frame → List Frame → Stmt → Transition
statement_next p s f below t = action_next s f below (action_of p s f t)

-- the state in which frame f, above these, has begun its first statement
abbrev pub begun_in : ThreadState → Frame → List Frame → List Stmt → ThreadState
begun_in s f below rest = record s { frames = record f { rest = rest } ∷ below; begun = s.begun + 1 }

-- The first statement that is left in a frame, or the frame's end. Where as many statements were begun as the script
-- allows, the thread ends.
abbrev pub frame_next : ScriptParts → ThreadState → Frame → List Frame → List Stmt → Transition
frame_next p s f below [] = silent (returned f.on_return values.Nothing (record s { frames = below }))
frame_next p s f below (t ∷ rest) =
    if nat_le p.budget s.begun
    then says locals.Budget (record s { frames = [] })
    else statement_next p (begun_in s f below rest) (record f { rest = rest }) below t

-- how many calls of a thread may be active
abbrev pub most_calls : ℕ
most_calls = 16

-- the frame of a call of function f
abbrev pub called : ScriptParts → Call → ℕ → Frame
called p c f = record {
  self_arg = c.self_arg;
  other = c.other;
  arg = c.arg;
  rest = slice_index_or p.bodies f [];
  opened = false;
  on_return = c.on_return;
}

-- a call begins, where its callee can be called and no more calls are active than may be; the frames are one more than the
-- calls, since the first is the block
abbrev pub call_next : ScriptParts → ThreadState → Call → Option ℕ → Transition
call_next p s c None = says locals.NotCallable (returned c.on_return values.Nothing s)
call_next p s c (Some f) =
    if nat_le (length s.frames) most_calls
    then silent (record s { frames = called p c f ∷ s.frames })
    else says locals.Depth (returned c.on_return values.Nothing s)

abbrev pub frames_next : ScriptParts → ThreadState → List Frame → Transition
frames_next p s [] = ended
frames_next p s (f ∷ below) = frame_next p s f below f.rest

abbrev pub pending_next : ScriptParts → ThreadState → Option Call → Transition
pending_next p s None = frames_next p s s.frames
pending_next p s (Some c) = call_next p (record s { call = None }) c c.callee

-- what the thread demands next
abbrev pub next_of : ScriptParts → ThreadState → Transition
next_of p s = pending_next p s s.call

-- the frame of a block
abbrev pub block_frame : List Stmt → Frame
block_frame block = record {
  self_arg = values.Nothing;
  other = values.Nothing;
  arg = values.Nothing;
  rest = block;
  opened = false;
  on_return = on_returns.Nothing;
}

-- the state in which a thread begins a block with these variables
abbrev pub start : List Stmt → Variables → ThreadState
start block variables = record {
  frames = block_frame block ∷ [];
  call = None;
  variables = variables;
  it = values.Nothing;
  begun = 0;
}
