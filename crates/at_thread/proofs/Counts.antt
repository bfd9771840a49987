-- A thread has as many variables at its end as at its begin.
use Rattle.std.proofs.Common.{◌≡◌, ◌∙◌, refl, sym, ap, ℕ, zero, suc, nat_le, Bool, true, false, List, [], ◌∷◌, length, Option, Some, None, Result, Ok, Err, if◌then◌else◌, slice_set}
use Rattle.at_value.specs.Types.{Value}
use Rattle.at_value.specs.declared.value.Value.TheVariants as values
use Rattle.at_value.specs.declared.reply.Reply.TheVariants as replies
use Rattle.at_line.specs.Types.{LineReply, Local, What}
use Rattle.at_line.specs.declared.line.LineReply.TheVariants as line_replies
use Rattle.at_line.specs.declared.line.Local.TheVariants as locals
use Rattle.at_line.specs.declared.line.What.TheVariants as whats
use Rattle.at_script.specs.Types.{Stmt}
use Rattle.at_script.specs.Parts.{ScriptParts}
use Rattle.at_thread.specs.Types.{ReplyUse, OnReturn, Action, Call}
use Rattle.at_thread.specs.declared.next.ReplyUse.TheVariants as uses
use Rattle.at_thread.specs.declared.next.OnReturn.TheVariants as on_returns
use Rattle.at_thread.specs.declared.next.Action.TheVariants as actions
use Rattle.at_thread.specs.Execution.{Frame, ThreadState, Transition, ended, silent, checkpoints, says, asks, action_of, binding, returned, taken, dropped, return_next, finish_next, action_next, statement_next, begun_in, frame_next, frames_next, most_calls, called, call_next, pending_next, next_of}
use Rattle.at_thread.specs.Executions.{Fits, Leads}

-- the state has this many variables
abbrev Has : ℕ → ThreadState → Type 0
Has n s = length s.variables ≡ n

-- and so has each that is demanded
abbrev AllHave : ℕ → Transition → Type 0
AllHave n ended = Unit {0}
AllHave n (silent s) = Has n s
AllHave n (checkpoints s) = Has n s
AllHave n (says l s) = Has n s
AllHave n (asks o u s) = Has n s

returned_has : (n : ℕ) (g : OnReturn) (v : Value) (s : ThreadState) → Has n s → Has n (returned g v s)
returned_has n on_returns.Result v s h = h
returned_has n on_returns.Nothing v s h = h
returned_has n (on_returns.Object o) v s h = h

set_length : {A : Type 0} (xs : List A) (i : ℕ) (x : A) → length (slice_set xs i x) ≡ length xs
set_length [] i x = refl
set_length (y ∷ xs) zero x = refl
set_length (y ∷ xs) (suc i) x = ap suc (set_length xs i x)

binding_has : (n a : ℕ) (v : Value) (s : ThreadState) → Has n s → Has n (binding a v s)
binding_has n a v s h = set_length s.variables a (Some v) ∙ h

taken_has : (n : ℕ) (s : ThreadState) → Has n s → (u : ReplyUse) (r : LineReply) → Has n (taken u r s)
taken_has n s h uses.Read (line_replies.Of (replies.Hook k c r o v)) = h
taken_has n s h uses.Learn (line_replies.Of (replies.Value v)) = h
taken_has n s h uses.Write (line_replies.Of (replies.Hook k c r o v)) = h
taken_has n s h (uses.Call w) (line_replies.Of (replies.Value v)) = h
taken_has n s h (uses.Call w) (line_replies.Of (replies.Method g r)) = h
taken_has n s h (uses.Call w) (line_replies.Of (replies.Hook k c r o v)) = h
taken_has n s h (uses.Bind a w) (line_replies.Of (replies.Made o None)) = binding_has n a (values.Obj o) s h
taken_has n s h (uses.Bind a w) (line_replies.Of (replies.Made o (Some init))) = binding_has n a (values.Obj o) s h
taken_has n s h uses.Open (line_replies.Of replies.Done) = h
taken_has n s h uses.Close line_replies.Kept = h
taken_has n s h uses.Close (line_replies.Suspended k) = h
taken_has n s h uses.Close (line_replies.Of r) = h
taken_has n s h u r = h

return_has : (n : ℕ) (g : OnReturn) (s : ThreadState) (r : Result Value Local) → Has n s → AllHave n (return_next g s r)
return_has n g s (Ok v) h = returned_has n g v s h
return_has n g s (Err l) h = returned_has n g values.Nothing s h

finish_has : (n : ℕ) (s : ThreadState) (b : Bool) → Has n s → AllHave n (finish_next s b)
finish_has n s true h = h
finish_has n s false h = h

action_has : (n : ℕ) (s : ThreadState) (f : Frame) (below : List Frame) (a : Result Action Local) → Has n s → AllHave n (action_next s f below a)
action_has n s f below (Ok (actions.Bind a v)) h = binding_has n a v s h
action_has n s f below (Ok (actions.Return v)) h = return_has n f.on_return (record s { frames = below }) v h
action_has n s f below (Ok actions.Finish) h = finish_has n s f.opened h
action_has n s f below (Ok actions.Checkpoint) h = h
action_has n s f below (Ok (actions.Ask a)) h = h
action_has n s f below (Err l) h = h

frame_has : (n : ℕ) (p : ScriptParts) (s : ThreadState) (f : Frame) (below : List Frame) (left : List Stmt) → Has n s → AllHave n (frame_next p s f below left)
frame_has n p s f below [] h = returned_has n f.on_return values.Nothing (record s { frames = below }) h
frame_has n p s f below (x ∷ rest) h = tests (nat_le p.budget s.begun)
  where
    tests : (b : Bool) → AllHave n (if b then says locals.Budget (record s { frames = [] }) else statement_next p (begun_in s f below rest) (record f { rest = rest }) below x)
    tests true = h
    tests false = action_has n (begun_in s f below rest) (record f { rest = rest }) below (action_of p (begun_in s f below rest) (record f { rest = rest }) x) h

frames_has : (n : ℕ) (p : ScriptParts) (s : ThreadState) (fs : List Frame) → Has n s → AllHave n (frames_next p s fs)
frames_has n p s [] h = tt
frames_has n p s (f ∷ below) h = frame_has n p s f below f.rest h

call_has : (n : ℕ) (p : ScriptParts) (s : ThreadState) (c : Call) (callee : Option ℕ) → Has n s → AllHave n (call_next p s c callee)
call_has n p s c None h = returned_has n c.on_return values.Nothing s h
call_has n p s c (Some f) h = tests (nat_le (length s.frames) most_calls)
  where
    tests : (b : Bool) → AllHave n (if b then silent (record s { frames = called p c f ∷ s.frames }) else says locals.Depth (returned c.on_return values.Nothing s))
    tests true = h
    tests false = returned_has n c.on_return values.Nothing s h

pending_has : (n : ℕ) (p : ScriptParts) (s : ThreadState) (c : Option Call) → Has n s → AllHave n (pending_next p s c)
pending_has n p s None h = frames_has n p s s.frames h
pending_has n p s (Some c) h = call_has n p (record s { call = None }) c c.callee h

-- where what goes on has as many variables, the last state has
fits_have : (n : ℕ) (G : Type 0) (on : ThreadState → List What → Type 0) (next : Transition) (lines : List What)
    → ((s : ThreadState) (rest : List What) → Has n s → on s rest → G) → AllHave n next → Fits on next lines → G
fits_have n G on ended lines go h f = absurd f
fits_have n G on (silent s) lines go h f = go s lines h f
fits_have n G on (checkpoints s) lines go h f = go s lines h f
fits_have n G on (says l s) [] go h f = absurd f
fits_have n G on (says l s) (w ∷ lines) go h f = go s lines h f.1
fits_have n G on (asks o u s) [] go h f = absurd f
fits_have n G on (asks o u s) (whats.Did place path q r ∷ lines) go h f = go (taken u r s) lines (taken_has n s h u r) f.2
fits_have n G on (asks o u s) (whats.Local l ∷ lines) go h f = go (dropped s) lines h f.1

pub same_count : (p : ScriptParts) (steps : ℕ) (s : ThreadState) (lines : List What) (t : ThreadState) → Leads p steps s lines t → length t.variables ≡ length s.variables
same_count p zero s lines t l = ap (λ (x : ThreadState). length x.variables) (sym l.1)
same_count p (suc steps) s lines t l =
    fits_have (length s.variables) (length t.variables ≡ length s.variables) (λ x rest. Leads p steps x rest t) (next_of p s) lines
    (λ x rest has more. same_count p steps x rest t more ∙ has) (pending_has (length s.variables) p s s.call refl) l
