use Rattle.std.proofs.Common.{◌≡◌, ◌∙◌, ap, sym, Some, None}
use Rattle.std.specs.Cmp.Lexicographic.{same_text, other_text}
use Rattle.at_value.specs.Packing.{HasWords}
use Rattle.at_value.specs.ReadingOps.{op_at}
use Rattle.at_value.proofs.Words.{at_none}
use Rattle.at_value.proofs.OperationWords.{op_in, later_words, no_op_read, other_op_read, op_read}
use Rattle.at_value.proofs.packing.unpack.Goals as goal

pub returns-in_err-op-clause-same : goal.returns-in_err-op-clause-same
returns-in_err-op-clause-same c = let read : op_in c.args.w ≡ None = sym (c.read_op.ensures ∙ ap (λ h. op_at h (later_words c.args.w)) c.heading_of.ensures) ∙ c.in_err-op.was in no_op_read c.args.w c.from_residual.result read c.from_residual.ensures

pub returns-in_err-op-clause-none : goal.returns-in_err-op-clause-none
returns-in_err-op-clause-none c = at_none (λ o. HasWords o c.args.w) c.from_residual.result (returns-in_err-op-clause-same c)

pub returns-then-eq-clause-same : goal.returns-then-eq-clause-same
returns-then-eq-clause-same c = let read : op_in c.args.w ≡ Some c.in_ok-op.op = sym (c.read_op.ensures ∙ ap (λ h. op_at h (later_words c.args.w)) c.heading_of.ensures) ∙ c.in_ok-op.was in op_read c.args.w c.in_ok-op.op read (c.pack.ensures.range, sym c.pack.ensures.words ∙ same_text c.pack.result c.args.w c.if-eq.ensures)

pub returns-then-eq-clause-some : goal.returns-then-eq-clause-some
returns-then-eq-clause-some c = (c.pack.ensures.range, sym c.pack.ensures.words ∙ same_text c.pack.result c.args.w c.if-eq.ensures)

pub returns-else-eq-clause-same : goal.returns-else-eq-clause-same
returns-else-eq-clause-same c = let read : op_in c.args.w ≡ Some c.in_ok-op.op = sym (c.read_op.ensures ∙ ap (λ h. op_at h (later_words c.args.w)) c.heading_of.ensures) ∙ c.in_ok-op.was in other_op_read c.args.w c.in_ok-op.op read (λ e. other_text c.pack.result c.args.w c.if-eq.ensures (c.pack.ensures.words ∙ e))

pub returns-else-eq-clause-none : goal.returns-else-eq-clause-none
returns-else-eq-clause-none c o h = let none = (returns-else-eq-clause-same c o).1 h in absurd (cc)
