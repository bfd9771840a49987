-- Each step makes a thread smaller, and its lines few.
use Rattle.std.proofs.Common.{◌≡◌, ◌∙◌, sym, ℕ, suc, ◌+◌, ◌-◌, ◌*◌, ◌<◌, ◌≤◌, nat_le, Bool, true, false, List, [], ◌∷◌, length, Option, Some, None, Result, Ok, Err, if◌then◌else◌, refl, ap, arith}
use Rattle.std.proofs.lemmas.Bool.{leb-false}
use Rattle.at_value.specs.Types.{Value}
use Rattle.at_value.specs.declared.value.Value.TheVariants as values
use Rattle.at_value.specs.declared.reply.Reply.TheVariants as replies
use Rattle.at_line.specs.Types.{LineReply, Local}
use Rattle.at_line.specs.declared.line.LineReply.TheVariants as line_replies
use Rattle.at_line.specs.declared.line.Local.TheVariants as locals
use Rattle.at_script.specs.Types.{Stmt}
use Rattle.at_thread.specs.Types.{ReplyUse, OnReturn, Action, Call}
use Rattle.at_thread.specs.declared.next.ReplyUse.TheVariants as uses
use Rattle.at_thread.specs.declared.next.OnReturn.TheVariants as on_returns
use Rattle.at_thread.specs.declared.next.Action.TheVariants as actions
use Rattle.at_script.specs.Parts.{ScriptParts}
use Rattle.at_thread.specs.Execution.{Frame, ThreadState, Transition, ended, silent, checkpoints, says, asks, action_of, returned, taken, dropped, with_opened, return_next, finish_next, action_next, statement_next, begun_in, frame_next, frames_next, most_calls, called, call_next, pending_next, next_of}

-- a call that is to begin takes at most two steps more, and at most one line
abbrev pub pending : Option Call → ℕ
pending None = 0
pending (Some c) = 1

-- where no frame is left, one line was of the budget
abbrev pub spare : List Frame → ℕ
spare [] = 1
spare (f ∷ fs) = 0

-- how many steps a thread takes at most
abbrev pub size : ScriptParts → ThreadState → ℕ
size p s = 3 * (p.budget - s.begun) + length s.frames + 2 * pending s.call

-- a number of lines led here
pub record Few (p : ScriptParts) (lines : ℕ) (s : ThreadState) : Type 0 where
  pub few : lines + pending s.call ≤ 2 * s.begun + spare s.frames
  pub within : s.begun ≤ p.budget

-- the state is smaller than n, and a number of lines led here
pub record Onward (p : ScriptParts) (n lines : ℕ) (t : ThreadState) : Type 0 where
  pub smaller : size p t < n
  pub few : Few p lines t

-- whatever comes of what is demanded
abbrev pub AllOnward : ScriptParts → ℕ → ℕ → Transition → Type 0
AllOnward p n lines ended = Unit {0}
AllOnward p n lines (silent t) = Onward p n lines t
AllOnward p n lines (checkpoints t) = Onward p n lines t
AllOnward p n lines (says l t) = Onward p n (suc lines) t
AllOnward p n lines (asks o u t) = ((r : LineReply) → Onward p n (suc lines) (taken u r t)) × Onward p n (suc lines) (dropped t)

-- a state that has room for a reply, or for a line
pub record Roomy (p : ScriptParts) (n lines : ℕ) (f : Frame) (below : List Frame) (t : ThreadState) : Type 0 where
  pub above : t.frames ≡ f ∷ below
  pub free : t.call ≡ None
  pub smaller : size p t + 2 < n
  pub few : suc (suc lines) ≤ 2 * t.begun
  pub within : t.begun ≤ p.budget

returned_onward : (p : ScriptParts) (n lines : ℕ) (g : OnReturn) (v : Value) (t : ThreadState) → Onward p n lines t → Onward p n lines (returned g v t)
returned_onward p n lines on_returns.Result v t h = record { smaller = h.smaller; few = record { few = h.few.few; within = h.few.within } }
returned_onward p n lines on_returns.Nothing v t h = record { smaller = h.smaller; few = record { few = h.few.few; within = h.few.within } }
returned_onward p n lines (on_returns.Object o) v t h = record { smaller = h.smaller; few = record { few = h.few.few; within = h.few.within } }

-- a state with room goes on, with one line more or none, whether a call is to begin or not
roomy_onward : (p : ScriptParts) (n lines now_lines : ℕ) (f g : Frame) (below : List Frame) (t u : ThreadState) → now_lines ≤ suc lines → Roomy p n lines f below t → u.frames ≡ g ∷ below → u.begun ≡ t.begun → Onward p n now_lines u
roomy_onward p n lines now_lines f g below t u most h frames begun =
    let same : length u.frames ≡ length t.frames = ap length frames ∙ sym (ap length h.above) in
    let none_spare : spare u.frames ≡ 0 = ap spare frames in
    let one : pending u.call ≤ 1 = at_most u.call in
    let small : size p t + 2 < n = h.smaller in
    let few : suc (suc lines) ≤ 2 * t.begun = h.few in
    let within : t.begun ≤ p.budget = h.within in
    let now : pending t.call ≡ 0 = ap pending h.free in
    record { smaller = omega arith; few = record { few = omega arith; within = omega arith } }
  where
    at_most : (c : Option Call) → pending c ≤ 1
    at_most None = omega arith
    at_most (Some c) = omega arith

taken_onward : (p : ScriptParts) (n lines : ℕ) (f : Frame) (below : List Frame) (t : ThreadState) → Roomy p n lines f below t → (u : ReplyUse) (r : LineReply) → Onward p n (suc lines) (taken u r t)
taken_onward p n lines f below t h uses.Read (line_replies.Of (replies.Hook k c r o v)) = roomy_onward p n lines (suc lines) f f below t _ (omega arith) h h.above refl
taken_onward p n lines f below t h uses.Learn (line_replies.Of (replies.Value v)) = roomy_onward p n lines (suc lines) f f below t _ (omega arith) h h.above refl
taken_onward p n lines f below t h uses.Write (line_replies.Of (replies.Hook k c r o v)) = roomy_onward p n lines (suc lines) f f below t _ (omega arith) h h.above refl
taken_onward p n lines f below t h (uses.Call w) (line_replies.Of (replies.Value v)) = roomy_onward p n lines (suc lines) f f below t _ (omega arith) h h.above refl
taken_onward p n lines f below t h (uses.Call w) (line_replies.Of (replies.Method g r)) = roomy_onward p n lines (suc lines) f f below t _ (omega arith) h h.above refl
taken_onward p n lines f below t h (uses.Call w) (line_replies.Of (replies.Hook k c r o v)) = roomy_onward p n lines (suc lines) f f below t _ (omega arith) h h.above refl
taken_onward p n lines f below t h (uses.Bind a w) (line_replies.Of (replies.Made o None)) = roomy_onward p n lines (suc lines) f f below t _ (omega arith) h h.above refl
taken_onward p n lines f below t h (uses.Bind a w) (line_replies.Of (replies.Made o (Some init))) = roomy_onward p n lines (suc lines) f f below t _ (omega arith) h h.above refl
taken_onward p n lines f below t h uses.Open (line_replies.Of replies.Done) = roomy_onward p n lines (suc lines) f (record f { opened = true }) below t _ (omega arith) h (ap (with_opened true) h.above) refl
taken_onward p n lines f below t h uses.Close line_replies.Kept = roomy_onward p n lines (suc lines) f f below t _ (omega arith) h h.above refl
taken_onward p n lines f below t h uses.Close (line_replies.Suspended k) = roomy_onward p n lines (suc lines) f f below t _ (omega arith) h h.above refl
taken_onward p n lines f below t h uses.Close (line_replies.Of r) = roomy_onward p n lines (suc lines) f f below t _ (omega arith) h h.above refl
taken_onward p n lines f below t h u r = roomy_onward p n lines (suc lines) f f below t _ (omega arith) h h.above refl

-- What comes of a statement, in a state with room, is onward

-- the frame has ended
ended_onward : (p : ScriptParts) (n lines now_lines : ℕ) (f : Frame) (below : List Frame) (t : ThreadState) → now_lines ≤ suc lines → Roomy p n lines f below t → Onward p n now_lines (record t { frames = below })
ended_onward p n lines now_lines f below t most h =
    let same : length t.frames ≡ suc (length below) = ap length h.above in
    let small : size p t + 2 < n = h.smaller in
    let few : suc (suc lines) ≤ 2 * t.begun = h.few in
    let within : t.begun ≤ p.budget = h.within in
    let now : pending t.call ≡ 0 = ap pending h.free in
    record { smaller = omega arith; few = record { few = omega arith; within = omega arith } }

return_onward : (p : ScriptParts) (n lines : ℕ) (f : Frame) (below : List Frame) (t : ThreadState) (g : OnReturn) (r : Result Value Local) → Roomy p n lines f below t → AllOnward p n lines (return_next g (record t { frames = below }) r)
return_onward p n lines f below t g (Ok v) h = returned_onward p n lines g v (record t { frames = below }) (ended_onward p n lines lines f below t (omega arith) h)
return_onward p n lines f below t g (Err l) h = returned_onward p n (suc lines) g values.Nothing (record t { frames = below }) (ended_onward p n lines (suc lines) f below t (omega arith) h)

-- a state with room for a reply
asked_onward : (p : ScriptParts) (n lines : ℕ) (f : Frame) (below : List Frame) (t : ThreadState) → Roomy p n lines f below t → ((r : LineReply) (u : ReplyUse) → Onward p n (suc lines) (taken u r t)) × Onward p n (suc lines) (dropped t)
asked_onward p n lines f below t h = (λ r u. taken_onward p n lines f below t h u r, roomy_onward p n lines (suc lines) f f below t _ (omega arith) h h.above refl)

finish_onward : (p : ScriptParts) (n lines : ℕ) (f : Frame) (below : List Frame) (t : ThreadState) (b : Bool) → Roomy p n lines f below t → AllOnward p n lines (finish_next t b)
finish_onward p n lines f below t true h =
    let closed : Roomy p n lines (record f { opened = false }) below (record t { frames = with_opened false t.frames }) = record {
      above = ap (with_opened false) h.above;
      free = h.free;
      smaller = (let same : length (with_opened false t.frames) ≡ length t.frames = ap (λ fs. length (with_opened false fs)) h.above ∙ sym (ap length h.above) in let small = h.smaller in omega arith);
      few = h.few;
      within = h.within;
    } in
    (λ r. taken_onward p n lines _ below _ closed uses.Close r, (asked_onward p n lines _ below _ closed).1)
finish_onward p n lines f below t false h = roomy_onward p n lines lines f f below t _ (omega arith) h h.above refl

action_onward : (p : ScriptParts) (n lines : ℕ) (f : Frame) (below : List Frame) (t : ThreadState) (a : Result Action Local) → Roomy p n lines f below t → AllOnward p n lines (action_next t f below a)
action_onward p n lines f below t (Ok (actions.Bind a v)) h = roomy_onward p n lines lines f f below t _ (omega arith) h h.above refl
action_onward p n lines f below t (Ok (actions.Return v)) h = return_onward p n lines f below t f.on_return v h
action_onward p n lines f below t (Ok actions.Finish) h = finish_onward p n lines f below t f.opened h
action_onward p n lines f below t (Ok actions.Checkpoint) h = roomy_onward p n lines lines f f below t t (omega arith) h h.above refl
action_onward p n lines f below t (Ok (actions.Ask a)) h = (λ r. taken_onward p n lines f below t h a.reply_use r, (asked_onward p n lines f below t h).1)
action_onward p n lines f below t (Err l) h = roomy_onward p n lines (suc lines) f f below t _ (omega arith) h h.above refl

statement_onward : (p : ScriptParts) (n lines : ℕ) (f : Frame) (below : List Frame) (t : ThreadState) (x : Stmt) → Roomy p n lines f below t → AllOnward p n lines (statement_next p t f below x)
statement_onward p n lines f below t x h = action_onward p n lines f below t (action_of p t f x) h

frame_onward : (p : ScriptParts) (lines : ℕ) (f : Frame) (below : List Frame) (s : ThreadState) (rest : List Stmt) → s.frames ≡ f ∷ below → s.call ≡ None → Few p lines s → AllOnward p (size p s) lines (frame_next p s f below rest)
frame_onward p lines f below s [] above free h =
    let same : length s.frames ≡ suc (length below) = ap length above in
    let none_spare : spare s.frames ≡ 0 = ap spare above in
    let few = h.few in
    let within = h.within in
    returned_onward p (size p s) lines f.on_return values.Nothing (record s { frames = below }) (record { smaller = omega arith; few = record { few = omega arith; within = within } })
frame_onward p lines f below s (x ∷ rest) above free h = tests (nat_le p.budget s.begun) refl
  where
    tests : (b : Bool) → nat_le p.budget s.begun ≡ b → AllOnward p (size p s) lines (if b then says locals.Budget (record s { frames = [] }) else statement_next p (begun_in s f below rest) (record f { rest = rest }) below x)
    tests true e =
        let same : length s.frames ≡ suc (length below) = ap length above in
        let none_spare : spare s.frames ≡ 0 = ap spare above in
        let few = h.few in
        let now : pending s.call ≡ 0 = ap pending free in
        record { smaller = omega arith; few = record { few = omega arith; within = h.within } }
    tests false e =
        let room : s.begun < p.budget = leb-false p.budget s.begun e in
        let same : length s.frames ≡ suc (length below) = ap length above in
        let none_spare : spare s.frames ≡ 0 = ap spare above in
        let few = h.few in
        let now : pending s.call ≡ 0 = ap pending free in
        statement_onward p (size p s) lines (record f { rest = rest }) below (begun_in s f below rest) x (record { above = refl; free = free; smaller = omega arith; few = omega arith; within = omega arith })

frames_onward : (p : ScriptParts) (lines : ℕ) (s : ThreadState) (fs : List Frame) → s.frames ≡ fs → s.call ≡ None → Few p lines s → AllOnward p (size p s) lines (frames_next p s fs)
frames_onward p lines s [] above free h = tt
frames_onward p lines s (f ∷ below) above free h = frame_onward p lines f below s f.rest above free h

call_onward : (p : ScriptParts) (lines : ℕ) (s : ThreadState) (c : Call) (callee : Option ℕ) → s.call ≡ Some c → Few p lines s → AllOnward p (size p s) lines (call_next p (record s { call = None }) c callee)
call_onward p lines s c None e h =
    let now : pending s.call ≡ 1 = ap pending e in
    let few = h.few in
    returned_onward p (size p s) (suc lines) c.on_return values.Nothing (record s { call = None }) (record { smaller = omega arith; few = record { few = omega arith; within = h.within } })
call_onward p lines s c (Some f) e h = tests (nat_le (length s.frames) most_calls)
  where
    spare_most : (fs : List Frame) → spare fs ≤ 1
    spare_most [] = omega arith
    spare_most (f ∷ fs) = omega arith

    tests : (b : Bool) → AllOnward p (size p s) lines (if b then silent (record s { call = None; frames = called p c f ∷ s.frames }) else says locals.Depth (returned c.on_return values.Nothing (record s { call = None })))
    tests true =
        let now : pending s.call ≡ 1 = ap pending e in
        let few = h.few in
        let most = spare_most s.frames in
        record { smaller = omega arith; few = record { few = omega arith; within = h.within } }
    tests false =
        let now : pending s.call ≡ 1 = ap pending e in
        let few = h.few in
        returned_onward p (size p s) (suc lines) c.on_return values.Nothing (record s { call = None }) (record { smaller = omega arith; few = record { few = omega arith; within = h.within } })

pending_onward : (p : ScriptParts) (lines : ℕ) (s : ThreadState) (c : Option Call) → s.call ≡ c → Few p lines s → AllOnward p (size p s) lines (pending_next p s c)
pending_onward p lines s None e h = frames_onward p lines s s.frames refl e h
pending_onward p lines s (Some c) e h = call_onward p lines s c c.callee e h

-- whatever comes of the next step is smaller, and its lines are few
pub next_onward : (p : ScriptParts) (lines : ℕ) (s : ThreadState) → Few p lines s → AllOnward p (size p s) lines (next_of p s)
next_onward p lines s h = pending_onward p lines s s.call refl h
