-- Of a frame comes something next: with it a thread hasn't ended.
use Rattle.std.proofs.Common.{◌≡◌, refl, nat_le, Bool, true, false, List, [], ◌∷◌, Result, Ok, Err, if◌then◌else◌}
use Rattle.at_value.specs.Types.{Value}
use Rattle.at_line.specs.Types.{Local}
use Rattle.at_line.specs.declared.line.Local.TheVariants as locals
use Rattle.at_script.specs.Types.{Stmt}
use Rattle.at_script.specs.Parts.{ScriptParts}
use Rattle.at_thread.specs.Types.{Action, OnReturn}
use Rattle.at_thread.specs.declared.next.Action.TheVariants as actions
use Rattle.at_thread.specs.Execution.{Frame, ThreadState, Transition, ended, silent, checkpoints, says, asks, action_of, return_next, finish_next, action_next, statement_next, begun_in, frame_next}

-- something comes next
abbrev pub goes_on : Transition → Bool
goes_on ended = false
goes_on (silent s) = true
goes_on (checkpoints s) = true
goes_on (says l s) = true
goes_on (asks o u s) = true

return_goes : (g : OnReturn) (s : ThreadState) (r : Result Value Local) → goes_on (return_next g s r) ≡ true
return_goes g s (Ok v) = refl
return_goes g s (Err l) = refl

finish_goes : (s : ThreadState) (opened : Bool) → goes_on (finish_next s opened) ≡ true
finish_goes s true = refl
finish_goes s false = refl

action_goes : (s : ThreadState) (f : Frame) (below : List Frame) (a : Result Action Local) → goes_on (action_next s f below a) ≡ true
action_goes s f below (Ok (actions.Bind a v)) = refl
action_goes s f below (Ok (actions.Return v)) = return_goes f.on_return (record s { frames = below }) v
action_goes s f below (Ok actions.Finish) = finish_goes s f.opened
action_goes s f below (Ok actions.Checkpoint) = refl
action_goes s f below (Ok (actions.Ask a)) = refl
action_goes s f below (Err l) = refl

pub frame_goes : (p : ScriptParts) (s : ThreadState) (f : Frame) (below : List Frame) (rest : List Stmt) → goes_on (frame_next p s f below rest) ≡ true
frame_goes p s f below [] = refl
frame_goes p s f below (t ∷ rest) = tests (nat_le p.budget s.begun)
  where
    tests : (b : Bool) → goes_on (if b then says locals.Budget (record s { frames = [] }) else statement_next p (begun_in s f below rest) (record f { rest = rest }) below t) ≡ true
    tests true = refl
    tests false = action_goes (begun_in s f below rest) (record f { rest = rest }) below (action_of p (begun_in s f below rest) (record f { rest = rest }) t)
