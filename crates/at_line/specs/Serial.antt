-- Lines that were done one after another, each at the end of the history so far.
use Rattle.std.specs.Prelude.{ℕ, suc, ◌≡◌, ◌≤◌, Bool, true, false, List, [], ◌∷◌, ◌++◌, length, AllPairs}
use Rattle.at_value.specs.declared.operation.Op as op
use Rattle.at_line.specs.declared.line.Line.{Line}
use Rattle.at_line.specs.declared.line.LineOp.TheVariants as line_ops
use Rattle.at_line.specs.declared.line.LineReply.TheVariants as line_replies
use Rattle.at_line.specs.declared.line.Local.TheVariants as locals
use Rattle.at_line.specs.declared.line.What as what
use Rattle.at_line.specs.declared.line.What.TheVariants as whats
use Rattle.at_model.specs.World.{World}
use Rattle.at_model.specs.Step.{step, is_write}
use Rattle.at_model.specs.History.{replay}
use Rattle.at_line.specs.Legal.{RunsAfter}

-- A write has the place after the history, which grows by it; another operation has the history's last place.
abbrev pub GoesOn : (List op.Op → Type 0) → Bool → List op.Op → ℕ → op.Op → Type 0
GoesOn rest true history place operation = (place ≡ suc (length history)) × rest (history ++ operation ∷ [])
GoesOn rest false history place operation = (place ≡ length history) × rest history

-- an operation has the reply of the data model after the history, and the begin and the end of a section its last place;
-- a local line stands anywhere
abbrev pub Adds : World → (List op.Op → Type 0) → List op.Op → what.What → Type 0
Adds opened rest history (whats.Did place path (line_ops.Of operation) reply) =
    (reply ≡ line_replies.Of (step (replay opened history) operation).reply) × GoesOn rest (is_write (replay opened history) operation) history place.0 operation
Adds opened rest history (whats.Did place path (line_ops.Begin first second) reply) = (place.0 ≡ length history) × rest history
Adds opened rest history (whats.Did place path line_ops.Finish reply) = (place.0 ≡ length history) × rest history
Adds opened rest history (whats.Local local) = rest history

-- these lines lead from the first history to the last
abbrev pub IsSerial : World → List op.Op → List what.What → List op.Op → Type 0
IsSerial opened history [] last = history ≡ last
IsSerial opened history (w ∷ more) last = Adds opened (λ longer. IsSerial opened longer more last) history w

-- a line that names no limit
abbrev pub NamesNoLimit : what.What → Type 0
NamesNoLimit (whats.Did place path operation reply) = Unit {0}
NamesNoLimit (whats.Local locals.Depth) = Unit {0}
NamesNoLimit (whats.Local locals.Budget) = Unit {0}
NamesNoLimit (whats.Local locals.Kind) = Unit {0}
NamesNoLimit (whats.Local (locals.Unbound variable)) = Unit {0}
NamesNoLimit (whats.Local locals.NotCallable) = Unit {0}
NamesNoLimit (whats.Local (locals.Worn sequence)) = ⊥
NamesNoLimit (whats.Local (locals.Full place)) = ⊥

-- the threads stand in the order in which they run: no line before one of a thread that has ended when its own begins
abbrev pub AreInOrder : List Line → Type 0
AreInOrder lines = AllPairs (λ (first second : Line). ¬ RunsAfter second.thread first.thread) lines

-- the lines of each thread stand together, and the threads by rising number
abbrev pub AreByThread : List Line → Type 0
AreByThread lines = AllPairs (λ (first second : Line). first.thread ≤ second.thread) lines
