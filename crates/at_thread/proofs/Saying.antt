-- A thread says no line of a limit by itself.
use Rattle.std.proofs.Common.{◌≡◌, subst, ℕ, nat_le, Bool, true, false, List, [], ◌∷◌, length, Option, Some, None, Result, Ok, Err, if◌then◌else◌, slice_index_or}
use Rattle.at_value.specs.Types.{Value}
use Rattle.at_value.specs.declared.value.Value.TheVariants as values
use Rattle.at_line.specs.Types.{Local}
use Rattle.at_line.specs.declared.line.Local.TheVariants as locals
use Rattle.at_line.specs.declared.line.What.TheVariants as whats
use Rattle.at_line.specs.Serial.{NamesNoLimit}
use Rattle.at_script.specs.Types.{Stmt, Operand, Target}
use Rattle.at_script.specs.declared.stmt.Stmt.TheVariants as stmts
use Rattle.at_script.specs.declared.stmt.Operand.TheVariants as operands
use Rattle.at_script.specs.Parts.{ScriptParts}
use Rattle.at_script.specs.Operands.{operand_of}
use Rattle.at_thread.specs.Types.{OnReturn, Call, Action}
use Rattle.at_thread.specs.declared.next.Action.TheVariants as actions
use Rattle.at_thread.specs.Execution.{Frame, ThreadState, Transition, ended, silent, checkpoints, says, asks, and_then, bound_to, operand_value, given_value, target_value, as_object, target_object, read_of, target_read, other_object, action_of, returned, return_next, finish_next, action_next, statement_next, begun_in, frame_next, frames_next, most_calls, called, call_next, pending_next, next_of}

-- a local line that a statement brings about
abbrev pub IsOwn : Local → Type 0
IsOwn l = NamesNoLimit (whats.Local l)

abbrev pub ErrsOwn : {A : Type 0} → Result A Local → Type 0
ErrsOwn (Ok a) = Unit {0}
ErrsOwn (Err l) = IsOwn l

abbrev pub SaysOwn : Transition → Type 0
SaysOwn ended = Unit {0}
SaysOwn (silent s) = Unit {0}
SaysOwn (checkpoints s) = Unit {0}
SaysOwn (says l s) = IsOwn l
SaysOwn (asks o u s) = Unit {0}

then_own : {A B : Type 0} (r : Result A Local) (f : A → Result B Local) → ErrsOwn r → ((a : A) → ErrsOwn (f a)) → ErrsOwn (and_then r f)
then_own (Ok a) f h g = g a
then_own (Err l) f h g = h

bound_own : (a : ℕ) (v : Option Value) → ErrsOwn (bound_to a v)
bound_own a None = tt
bound_own a (Some v) = tt

operand_own : (s : ThreadState) (f : Frame) (v : Operand) → ErrsOwn (operand_value s f v)
operand_own s f (operands.Value v) = tt
operand_own s f (operands.Var a) = bound_own a (slice_index_or s.variables a None)
operand_own s f operands.SelfArg = tt
operand_own s f operands.Arg = tt
operand_own s f operands.Other = tt
operand_own s f operands.It = tt

given_own : (s : ThreadState) (f : Frame) (v : Option Operand) → ErrsOwn (given_value s f v)
given_own s f None = tt
given_own s f (Some v) = operand_own s f v

target_own : (s : ThreadState) (f : Frame) (r : Target) → ErrsOwn (target_value s f r)
target_own s f r = operand_own s f (operand_of r)

as_object_own : (v : Value) → ErrsOwn (as_object v)
as_object_own (values.Obj o) = tt
as_object_own v = tt

object_own : (s : ThreadState) (f : Frame) (r : Target) → ErrsOwn (target_object s f r)
object_own s f r = then_own (target_value s f r) as_object (target_own s f r) as_object_own

read_own : (x : ℕ) (v : Value) → ErrsOwn (read_of v x)
read_own x (values.Obj o) = tt
read_own x (values.Class c) = tt
read_own x v = tt

target_read_own : (s : ThreadState) (f : Frame) (r : Target) (x : ℕ) → ErrsOwn (target_read s f r x)
target_read_own s f r x = then_own (target_value s f r) (λ v. read_of v x) (target_own s f r) (read_own x)

other_own : (s : ThreadState) (f : Frame) (o : ℕ) (r : Option Target) → ErrsOwn (other_object s f o r)
other_own s f o None = tt
other_own s f o (Some r) = then_own (target_object s f r) _ (object_own s f r) (λ p. tt)

-- what an action says by its own operand
abbrev pub ActionOwn : Action → Type 0
ActionOwn (actions.Bind a v) = Unit {0}
ActionOwn (actions.Return v) = ErrsOwn v
ActionOwn actions.Finish = Unit {0}
ActionOwn actions.Checkpoint = Unit {0}
ActionOwn (actions.Ask a) = Unit {0}

abbrev pub AllOwn : Result Action Local → Type 0
AllOwn (Ok a) = ActionOwn a
AllOwn (Err l) = IsOwn l

then_all : {A : Type 0} (r : Result A Local) (f : A → Result Action Local) → ErrsOwn r → ((a : A) → AllOwn (f a)) → AllOwn (and_then r f)
then_all (Ok a) f h g = g a
then_all (Err l) f h g = h

action_own : (p : ScriptParts) (s : ThreadState) (f : Frame) (t : Stmt) → AllOwn (action_of p s f t)
action_own p s f (stmts.Class c bases) = tt
action_own p s f (stmts.Bases c bases) = tt
action_own p s f (stmts.Cut c x) = tt
action_own p s f (stmts.Mro c) = tt
action_own p s f (stmts.Put c x v) = then_all (operand_value s f v) _ (operand_own s f v) (λ w. tt)
action_own p s f (stmts.New a c v) = then_all (given_value s f v) _ (given_own s f v) (λ w. tt)
action_own p s f (stmts.Set r x v) = then_all (target_object s f r) _ (object_own s f r) (λ o. then_all (operand_value s f v) _ (operand_own s f v) (λ w. tt))
action_own p s f (stmts.Del r x) = then_all (target_object s f r) _ (object_own s f r) (λ o. tt)
action_own p s f (stmts.Get r x) = then_all (target_read s f r x) _ (target_read_own s f r x) (λ o. tt)
action_own p s f (stmts.Turn r c) = then_all (target_object s f r) _ (object_own s f r) (λ o. tt)
action_own p s f (stmts.Share r q) = then_all (target_object s f r) _ (object_own s f r) (λ o. then_all (target_object s f q) _ (object_own s f q) (λ other. tt))
action_own p s f (stmts.Super c r x) = then_all (target_object s f r) _ (object_own s f r) (λ o. tt)
action_own p s f (stmts.Special r x) = then_all (target_object s f r) _ (object_own s f r) (λ o. tt)
action_own p s f (stmts.ClassOf r) = then_all (target_object s f r) _ (object_own s f r) (λ o. tt)
action_own p s f (stmts.Call r x v) = then_all (target_read s f r x) _ (target_read_own s f r x) (λ o. then_all (given_value s f v) _ (given_own s f v) (λ w. tt))
action_own p s f (stmts.CallSuper c r x v) = then_all (target_object s f r) _ (object_own s f r) (λ o. then_all (given_value s f v) _ (given_own s f v) (λ w. tt))
action_own p s f (stmts.Begin r q) = then_all (target_object s f r) _ (object_own s f r) (λ o. then_all (other_object s f o q) _ (other_own s f o q) (λ other. tt))
action_own p s f (stmts.Let a v) = then_all (operand_value s f v) _ (operand_own s f v) (λ w. tt)
action_own p s f (stmts.Return v) = operand_own s f v
action_own p s f stmts.Finish = tt
action_own p s f stmts.Checkpoint = tt

return_says : (g : OnReturn) (s : ThreadState) (r : Result Value Local) → ErrsOwn r → SaysOwn (return_next g s r)
return_says g s (Ok v) h = tt
return_says g s (Err l) h = h

finish_says : (s : ThreadState) (b : Bool) → SaysOwn (finish_next s b)
finish_says s true = tt
finish_says s false = tt

action_says : (s : ThreadState) (f : Frame) (below : List Frame) (a : Result Action Local) → AllOwn a → SaysOwn (action_next s f below a)
action_says s f below (Ok (actions.Bind a v)) h = tt
action_says s f below (Ok (actions.Return v)) h = return_says f.on_return (record s { frames = below }) v h
action_says s f below (Ok actions.Finish) h = finish_says s f.opened
action_says s f below (Ok actions.Checkpoint) h = tt
action_says s f below (Ok (actions.Ask a)) h = tt
action_says s f below (Err l) h = h

statement_says : (p : ScriptParts) (s : ThreadState) (f : Frame) (below : List Frame) (t : Stmt) → SaysOwn (statement_next p s f below t)
statement_says p s f below t = action_says s f below (action_of p s f t) (action_own p s f t)

frame_says : (p : ScriptParts) (s : ThreadState) (f : Frame) (below : List Frame) (rest : List Stmt) → SaysOwn (frame_next p s f below rest)
frame_says p s f below [] = tt
frame_says p s f below (t ∷ rest) = tests (nat_le p.budget s.begun)
  where
    tests : (b : Bool) → SaysOwn (if b then says locals.Budget (record s { frames = [] }) else statement_next p (begun_in s f below rest) (record f { rest = rest }) below t)
    tests true = tt
    tests false = statement_says p (begun_in s f below rest) (record f { rest = rest }) below t

frames_says : (p : ScriptParts) (s : ThreadState) (fs : List Frame) → SaysOwn (frames_next p s fs)
frames_says p s [] = tt
frames_says p s (f ∷ below) = frame_says p s f below f.rest

call_says : (p : ScriptParts) (s : ThreadState) (c : Call) (callee : Option ℕ) → SaysOwn (call_next p s c callee)
call_says p s c None = tt
call_says p s c (Some f) = tests (nat_le (length s.frames) most_calls)
  where
    tests : (b : Bool) → SaysOwn (if b then silent (record s { frames = called p c f ∷ s.frames }) else says locals.Depth (returned c.on_return values.Nothing s))
    tests true = tt
    tests false = tt

pending_says : (p : ScriptParts) (s : ThreadState) (c : Option Call) → SaysOwn (pending_next p s c)
pending_says p s None = frames_says p s s.frames
pending_says p s (Some c) = call_says p (record s { call = None }) c c.callee

-- what a thread says by itself names no limit
pub next_says : (p : ScriptParts) (s t : ThreadState) (l : Local) → next_of p s ≡ says l t → NamesNoLimit (whats.Local l)
next_says p s t l e = subst SaysOwn e (pending_says p s s.call)
