-- The contract of a call, as far as the history goes: it was done at one place of it.
use Rattle.std.specs.Prelude.{ℕ, ◌≡◌, ◌<◌, ◌≤◌, false, IsTrue, List, [], ◌∷◌, ◌++◌, length}
use Rattle.at_value.specs.declared.operation.Op as op
use Rattle.at_value.specs.declared.reply.Reply as reply
use Rattle.at_value.specs.declared.reply.Answer.{Answer}
use Rattle.at_model.specs.World.{World}
use Rattle.at_model.specs.Step.{step, is_write, is_done}
use Rattle.at_line.specs.Lines.{history_at}
use Rattle.at_line.specs.Legal.{world_at, world_before}
use Rattle.at_view.specs.declared.view.HistoryView.{HistoryView}

-- the list begins with this prefix
abbrev pub IsPrefix : List op.Op → List op.Op → Type 0
IsPrefix prefix whole = (rest : List op.Op) × (whole ≡ prefix ++ rest)

-- A write at a place, by a view that was the first and is now the second: the place lies past what the view had seen, the
-- history has the operation there, the reply is that of the data model after the writes below the place, and the place
-- alone joined the view's own.
pub record IsWriteAt (opened : World) (before : HistoryView) (operation : op.Op) (place : ℕ) (said : reply.Reply) (now : HistoryView) : Type 0 where
  pub past : length before.seen < place
  pub stands : history_at place now.seen ≡ operation ∷ []
  pub replied : said ≡ (step (world_before opened now.seen place) operation).reply
  pub own : now.own ≡ before.own ++ place ∷ []

-- an operation that is no write has this reply at a world
pub record IsRead (operation : op.Op) (said : reply.Reply) (w : World) : Type 0 where
  pub replied : said ≡ (step w operation).reply
  pub no_write : is_write w operation ≡ false

-- A read at a place of what is so of a world: the view has seen so much, it is so after the writes up to the place, and the
-- view's own places are as they were.
pub record IsReadAt (opened : World) (before : HistoryView) (place : ℕ) (IsSo : World → Type 0) (now : HistoryView) : Type 0 where
  pub seen : place ≤ length now.seen
  pub is_so : IsSo (world_at opened now.seen place)
  pub own : now.own ≡ before.own

-- the view has its birth number, and has seen more than before or the same
pub record IsLater (before now : HistoryView) : Type 0 where
  pub birth : now.birth ≡ before.birth
  pub more : IsPrefix before.seen now.seen

-- The call was done at the place of its answer. The view has gone on, the place is no earlier than what it had seen, and the
-- history is the part that it has seen now.
pub record IsCall (opened : World) (before : HistoryView) (operation : op.Op) (answer : Answer) (now : HistoryView) : Type 0 where
  pub later : IsLater before now
  pub late : length before.seen ≤ answer.place.0
  pub write : IsTrue (is_done answer.reply) → IsWriteAt opened before operation answer.place.0 answer.reply now
  pub read : is_done answer.reply ≡ false → IsReadAt opened before answer.place.0 (IsRead operation answer.reply) now
