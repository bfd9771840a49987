-- What a call that goes by locks has done.
use Rattle.std.specs.Prelude.{ℕ, ◌≡◌, true, List, ◌++◌, Contains}
use Rattle.at_value.specs.declared.operation.Op as op
use Rattle.at_value.specs.declared.reply.Answer.{Answer}
use Rattle.at_value.specs.declared.reply.Path.TheVariants as paths
use Rattle.at_value.specs.declared.reply.Reply as reply
use Rattle.at_model.specs.History.{replay}
use Rattle.at_line.specs.declared.line.LineOp.TheVariants as line_ops
use Rattle.at_line.specs.declared.line.LineReply.TheVariants as line_replies
use Rattle.at_line.specs.declared.line.What as what
use Rattle.at_line.specs.declared.line.What.TheVariants as whats
use Rattle.at_line.specs.Kept.{rows_of}
use Rattle.at_event.specs.Calls.{IsCall, IsRead}
use Rattle.at_view.specs.declared.mark.Mark.{Mark}
use Rattle.at_view.specs.declared.view.View.{View}
use Rattle.at_core.specs.declared.lock.Lock.TheVariants as locks
use Rattle.at_core.specs.declared.world.Pass.{Pass}
use Rattle.at_core.specs.Backed.{Backs}
use Rattle.at_core.specs.Locks.{holds}
use Rattle.at_core.specs.Opened.{opening_of}
use Rattle.at_core.specs.Passes.{notes, view}
use Rattle.at_core.specs.Writes.{read_by}
use Rattle.at_section.specs.Sections.{named_locks, Stay}
use Rattle.at_call.specs.UnderWay.{IsFrom, IsUnwritten}

-- the line of an answer
abbrev pub line_of : op.Op → Answer → what.What
line_of operation answer = whats.Did answer.place answer.path (line_ops.Of operation) (line_replies.Of answer.reply)

-- From p to q the operation was done at the place of the answer, and steps between stand behind its line.
pub record IsAnswered (operation : op.Op) (p q : Pass) (answer : Answer) : Type 0 where
  pub call : IsCall (opening_of (view p).who.limits) (view p).history operation answer (view q).history
  pub locked : answer.path ≡ paths.Locked
  pub marks : List Mark
  pub trace : (view q).trace ≡ (view p).trace ++ marks
  pub backs : Backs marks (line_of operation answer)

-- What a call leaves: the pass has gone on, and is in the sections in which it was.
pub record Leaves (p q : Pass) : Type 0 where
  pub from : IsFrom p q
  pub named : named_locks (notes q) ≡ named_locks (notes p)
  pub stay : Stay p q

-- what one leaves that wrote nothing
abbrev pub LeavesUnwritten : Pass → Pass → Type 0
LeavesUnwritten p q = Leaves p q × IsUnwritten p q

-- What is true of each call that goes by locks: the operation was done, with this answer.
pub record IsDone (operation : op.Op) (p q : Pass) (answer : Answer) : Type 0 where
  pub answered : IsAnswered operation p q answer
  pub leaves : Leaves p q

-- The reply is that of the operation to all that the view has seen, and it is no write there. The view has the rows that the
-- operation would write, and those of the dictionaries that it tells.
pub record IsReadNow (operation : op.Op) (reply : reply.Reply) (v : View) : Type 0 where
  pub read : IsRead operation reply (replay (opening_of v.who.limits) v.history.seen)
  pub rows : (o : ℕ) → Contains (rows_of (replay (opening_of v.who.limits) v.history.seen) operation) o → holds (locks.Row o) v ≡ true
  pub reads : (o : ℕ) → Contains (read_by (replay (opening_of v.who.limits) v.history.seen) operation) o → holds (locks.Row o) v ≡ true
