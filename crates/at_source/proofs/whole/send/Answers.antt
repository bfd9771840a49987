use Rattle.std.proofs.Common.{◌∙◌, rules}
use Rattle.at_source.proofs.Known.{sent_more}
use Rattle.at_source.proofs.whole.send.Goals as goal

pub loop-sent-preserved : goal.loop-sent-preserved
loop-sent-preserved g c = record {
  within = search rules;
  prefix = sent_more _ _ _ _ _ _ c.loop-sent.invariant.prefix c.in_ok-sent.ensures.taken;
  no_fault = c.in_ok-sent.ensures.no_fault ∙ c.loop-sent.invariant.no_fault;
}
