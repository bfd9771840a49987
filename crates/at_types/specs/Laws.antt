-- The laws of stored classes and of orders.
use Rattle.std.specs.Prelude.{ℕ, ◌≡◌, ◌≢◌, true, false, List, Some, Contains}
use Rattle.at_value.specs.Numbers.{init}
use Rattle.at_value.specs.declared.operation.Op as op
use Rattle.at_value.specs.declared.operation.Op.TheVariants as ops
use Rattle.at_value.specs.declared.reply.Reply as reply
use Rattle.at_value.specs.declared.reply.Reply.TheVariants as replies
use Rattle.at_model.specs.World.{World, IsBase, order_in, order_of, find_by, find_in, opening}
use Rattle.at_model.specs.Attributes.{classes_after_in}
use Rattle.at_model.specs.Step.{step, is_done, is_write}
use Rattle.at_types.specs.Lookups.{found_in, found_after}
use Rattle.at_types.specs.Types.{TypesState, StandsFor, IsStepped, opened, with_object}

-- each class of an order but its first stands in the order of a base of the first
abbrev pub RestIsAbove : Type 0
RestIsAbove =
    (w : World) (c d : ℕ) (order : List ℕ) → order_of w c ≡ Some order → Contains order d → d ≢ c
    → (b : ℕ) × (above : List ℕ) × IsBase w b c × (order_of w b ≡ Some above) × Contains above d

-- the opening state stands for the opening world
abbrev pub OpenedStands : Type 0
OpenedStands = (tags : ℕ) → StandsFor (opened tags) opening

-- What is refused changes nothing.
abbrev pub RefusalsChangeNothing : Type 0
RefusalsChangeNothing =
    (operation : op.Op) (old new : TypesState) (reply : reply.Reply) → IsStepped operation old new reply → is_done reply ≡ false → new ≡ old

-- Orders and what is found are those of each world that the state stands for.
pub record LookUpsStand (t : TypesState) (w : World) : Type 0 where
  pub orders : (c : ℕ) → order_in t.classes c ≡ order_of w c
  pub found : (c n : ℕ) → found_in t.classes c n ≡ find_in w c n
  pub after : (k c n : ℕ) → found_after t.classes k c n ≡ find_by w.classes (classes_after_in k (order_of w c)) n

abbrev pub AllLookUpsStand : Type 0
AllLookUpsStand = (t : TypesState) (w : World) → StandsFor t w → LookUpsStand t w

-- Where an object is made of class c, the reply has the number of objects and what `__init__` is in c, and one object more
-- is counted.
pub record ObjectIsCounted (t : TypesState) (w : World) (c : ℕ) : Type 0 where
  pub replied : (step w (ops.New c)).reply ≡ replies.Made t.objects (found_in t.classes c init)
  pub stands : StandsFor (with_object t) (step w (ops.New c)).world

abbrev pub ObjectsAreCounted : Type 0
ObjectsAreCounted = (t : TypesState) (w : World) (c : ℕ) → StandsFor t w → is_write w (ops.New c) ≡ true → ObjectIsCounted t w c
