use Rattle.std.proofs.Common.{◌∙◌, ap, sym, refl}
use Rattle.std.proofs.lemmas.Bool.{false≢true}
use Rattle.at_value.specs.declared.operation.Op as op
use Rattle.at_value.specs.declared.operation.Op.TheVariants as ops
use Rattle.at_types.specs.Memory.{is_early}
use Rattle.at_types.proofs.StepLemmas.{put_refused}
use Rattle.at_types.proofs.StandingLaws.{early_reply}
use Rattle.at_types.proofs.types.Types.put.Goals as goal

pub returns-in_default : goal.returns-in_default
returns-in_default c = record {
  ok = put_refused c.args.self.now c.args.c c.args.n c.args.v c.put_reply.result (c.put_reply.ensures c.args.n) c.in_default.not-Done;
  err = tt;
  early = λ refusal is early. refl;
  there = λ there. refl;
}

pub returns-in_err-put-in-Done-clause-early : goal.returns-in_err-put-in-Done-clause-early
returns-in_err-put-in-Done-clause-early c = λ refusal is early.
    let operation : op.Op = ops.TypeSet c.args.c c.args.n c.args.v in
    let known = early_reply operation c.args.self.now refusal c.put_reply.result is (c.put_reply.ensures c.args.n) early in
    absurd (false≢true (sym (ap is_early c.in-Done.is) ∙ known))
