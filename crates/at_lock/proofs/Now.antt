-- What agrees with what a lock kept agrees with all that the pass has seen.
use Rattle.std.proofs.Common.{◌≡◌, true}
use Rattle.at_view.specs.declared.view.View.{View}
use Rattle.at_core.specs.declared.lock.Lock as lock
use Rattle.at_core.specs.declared.stored.Stored.{Stored}
use Rattle.at_core.specs.Locks.{holds, AreKept}
use Rattle.at_core.specs.Opened.{opening_of}
use Rattle.at_core.proofs.Giving.{agrees_later}
use Rattle.at_lock.specs.Holding.{IsRight, IsRightNow}

pub right_now : (v : View) (l : lock.Lock) (x : Stored) → holds l v ≡ true → AreKept (opening_of v.who.limits) v → IsRight v l x → IsRightNow v l x
right_now v l x held kept right = agrees_later v.who.limits _ _ _ _ l x (kept l held).unchanged right
