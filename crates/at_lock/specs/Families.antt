-- What splits and joins make of the views of passes.
use Rattle.std.specs.Prelude.{ℕ, ◌≡◌, ◌<◌, false, Some, None, if◌then◌else◌}
use mathlib.Core.List.{IsPrefix}
use Rattle.at_types.specs.Tags.{times}
use Rattle.at_view.specs.declared.view.View.{View}
use Rattle.at_core.specs.declared.lock.Lock.TheVariants as locks
use Rattle.at_core.specs.Steps.{given, parted, child, merged, next_number, global_loaded, gone_online, gone_offline}
use Rattle.at_lock.specs.Waits.{IsTaken}

-- The pass has loaded the global sequence, which isn't 0, and gone online with it.
pub record HasComeOnline (v w : View) : Type 0 where
  pub global : ℕ
  pub begun : 0 < global
  pub after : w ≡ gone_online (global_loaded v global)

-- Under the lock of the types, `held` being the view then, a number was free, and a new pass split off with it and came
-- online.
pub record IsSplit (v w new : View) : Type 0 where
  pub held : View
  pub taken : IsTaken locks.Types v held
  pub free : next_number held.types.lists.numbers ≡ Some new.who.number
  pub after : w ≡ given locks.Types (parted held)
  pub begins : HasComeOnline (child held) new

-- Under the lock of the types no number was free.
pub record HasNoNumber (v w : View) : Type 0 where
  pub held : View
  pub taken : IsTaken locks.Types v held
  pub free : next_number held.types.lists.numbers ≡ None
  pub after : w ≡ given locks.Types held

-- a pass that ends goes offline, if it isn't yet
abbrev pub ended : View → View
ended v = if v.tags.online then gone_offline v else v

-- Under the lock of the types the other pass was taken in, offline.
pub record IsJoined (v other w : View) : Type 0 where
  pub held : View
  pub taken : IsTaken locks.Types v held
  pub after : w ≡ given locks.Types (merged held (ended other))

-- What one pass has seen comes before what it has seen later, which is no less; it is the same pass.
pub record HasSeenMore (v w : View) : Type 0 where
  pub seen : IsPrefix v.history.seen w.history.seen
  pub birth : w.history.birth ≡ v.history.birth
  pub number : w.who.number ≡ v.who.number

-- The pass may be taken in: it is a child, and has no cache entry open.
pub record MayEnd (v other : View) : Type 0 where
  pub child : 0 < times other.history.birth v.who.children
  pub closed : other.write.writing ≡ false
