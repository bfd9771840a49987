-- What a section that ended kept is to the lines of a run.
use Rattle.std.specs.Prelude.{ℕ, suc, ◌≡◌, List, [], ◌∷◌, ◌++◌, length, true, Contains}
use mathlib.Core.List.{IsPrefix}
use Rattle.at_value.specs.declared.operation.Op as op
use Rattle.at_line.specs.Kept.{LeavesAlone}
use Rattle.at_view.specs.declared.view.View.{View}
use Rattle.at_core.specs.declared.lock.Lock as lock
use Rattle.at_core.specs.declared.lock.Lock.TheVariants as locks
use Rattle.at_core.specs.Opened.{opening_of}
use Rattle.at_section.specs.declared.ended.Ended.{Ended}
use Rattle.at_section.specs.declared.ended.How.TheVariants as hows
use Rattle.at_section.specs.Calls.{Ends}
use Rattle.at_section.specs.Deeds.{names, word_of}
use Rattle.at_section.specs.Scores.{Start}

-- the history has the operation at this place
abbrev pub HasWrite : List op.Op → ℕ × op.Op → Type 0
HasWrite history write = (before : List op.Op) × IsPrefix (before ++ write.1 ∷ []) history × (write.0 ≡ suc (length before))

-- the rows of these objects are among the locks
abbrev pub HaveRows : List lock.Lock → List ℕ → Type 0
HaveRows ls objects = (o : ℕ) → Contains objects o → names ls (word_of (locks.Row o)) ≡ true

-- In whatever history comes of it, each write that isn't the pass's own leaves the objects of a section alone that ended kept, from
-- the place of its begin to that of its end, as lines have it.
abbrev pub KeptIsLeftAlone : Type 0
KeptIsLeftAlone = (s : Start) (ls : List lock.Lock) (v : View) (r : Ended) → Ends s ls v r → r.how ≡ hows.Kept
    → (history : List op.Op) → IsPrefix v.history.seen history → (objects : List ℕ) → HaveRows ls objects
    → (write : ℕ × op.Op) → HasWrite history write → ¬ Contains v.history.own write.0
    → LeavesAlone (opening_of v.who.limits) history s.place r.place.0 objects write
