use Rattle.std.proofs.Common.{◌≡◌, drop}
use Rattle.at_text.specs.Readers.{choice}
use Rattle.at_text.specs.Lines.{hook_word}
use Rattle.at_text.specs.Tables.{all_hooks}
use Rattle.at_back.proofs.Choices.{alone}
use Rattle.at_back.proofs.reply.hook_kind_at.Given as goal

-- what is left of the table gives the answer
abbrev pub invariant-loop-kind : goal.invariant-loop-kind
invariant-loop-kind l = record {
  all : l.kind-items ≡ all_hooks;
  here : choice (alone hook_word (drop l.kind-index all_hooks)) l.text ≡ choice (alone hook_word all_hooks) l.initial.text;
}
