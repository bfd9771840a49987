-- Where a thread of the code stands, and what its demands are.
use Rattle.std.specs.Prelude.{◌≡◌, Bool, true, false, List, [], ◌∷◌, map, Result}
use Rattle.at_line.specs.declared.line.Local as local
use Rattle.at_script.specs.declared.stmt.Stmt as stmt
use Rattle.at_script.specs.Parts.{ScriptParts}
use Rattle.at_thread.specs.declared.next.Action as action
use Rattle.at_thread.specs.declared.next.Next as next
use Rattle.at_thread.specs.declared.next.Next.TheVariants as nexts
use Rattle.at_thread.specs.declared.thread.Frame as frames
use Rattle.at_thread.specs.declared.thread.Thread as threads
use Rattle.at_thread.specs.Execution.{Frame, ThreadState, Transition, ended, silent, checkpoints, says, asks, action_next, statement_next, frame_next}

abbrev pub frame_of : frames.Frame → Frame
frame_of f = record { self_arg = f.self_arg; other = f.other; arg = f.arg; rest = f.rest.now; opened = f.opened; on_return = f.on_return }

-- the frames of a thread that is running, and none of one that has ended
abbrev pub frames_of : Bool → List Frame → List Frame
frames_of true frames = frames
frames_of false frames = []

abbrev pub state_of : threads.Thread → ThreadState
state_of t = record { frames = frames_of t.running (frame_of t.frame ∷ map frame_of t.below); call = t.call; variables = t.variables.items; it = t.it; begun = t.begun }

-- without its innermost frame
abbrev pub left : threads.Thread → ThreadState
left t = record (state_of t) { frames = map frame_of t.below }

-- with a frame above the others
abbrev pub entered : threads.Thread → frames.Frame → ThreadState
entered t f = record (state_of t) { frames = frame_of f ∷ (state_of t).frames }

-- What comes next of the innermost frame: of the statements that are left in it, of a statement that it has left, and of what
-- that does.

abbrev pub next_of_frame : ScriptParts → threads.Thread → Transition
next_of_frame p t = frame_next p (state_of t) (frame_of t.frame) (map frame_of t.below) t.frame.rest.now

abbrev pub next_of_statement : ScriptParts → threads.Thread → stmt.Stmt → Transition
next_of_statement p t s = statement_next p (state_of t) (frame_of t.frame) (map frame_of t.below) s

abbrev pub next_of_action : threads.Thread → Result action.Action local.Local → Transition
next_of_action t a = action_next (state_of t) (frame_of t.frame) (map frame_of t.below) a

-- the demand, and the state that goes on
abbrev pub transition_of : next.Next → ThreadState → Transition
transition_of nexts.Ended s = ended
transition_of nexts.Silent s = silent s
transition_of nexts.Checkpoint s = checkpoints s
transition_of (nexts.Says l) s = says l s
transition_of (nexts.Asks o u) s = asks o u s

-- the demand is the transition's, and the thread goes on in its state
abbrev pub IsNext : Transition → next.Next → threads.Thread → Type 0
IsNext transition demand t = transition ≡ transition_of demand (state_of t)
