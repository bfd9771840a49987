-- What taking a lock makes of the view of a pass.
use Rattle.std.specs.Prelude.{ℕ, suc, ◌≡◌, List, All}
use Rattle.std.specs.List.{fold}
use Rattle.at_view.specs.declared.view.View.{View}
use Rattle.at_core.specs.declared.lock.Lock as lock
use Rattle.at_core.specs.declared.stored.Stored.{Stored}
use Rattle.at_core.specs.Opened.{opening_of}
use Rattle.at_core.specs.Plays.{Took, Found}
use Rattle.at_core.specs.Steps.{Moment, taken, missed}

-- the lock was found held, by the passes of these numbers one after another
abbrev pub waited : lock.Lock → View → List ℕ → View
waited l v holders = fold (λ w holder. missed l w (suc holder)) v holders

-- The pass took the lock at some moment, with a value that is right.
pub record IsTakenAtOnce (l : lock.Lock) (v w : View) : Type 0 where
  pub at : Moment
  pub value : Stored
  pub after : w ≡ taken l v at
  pub took : Took (opening_of v.who.limits) l v at value

-- It took the lock after it had been found held by passes of these numbers, none of them its own and each below 64, which
-- happens to no pass that is alone.
pub record IsTaken (l : lock.Lock) (v w : View) : Type 0 where
  pub holders : List ℕ
  pub found : All (λ holder. Found v (suc holder)) holders
  pub last : IsTakenAtOnce l (waited l v holders) w
