use Rattle.std.proofs.Common.{◌≡◌, drop}
use Rattle.at_text.specs.Readers.{choice}
use Rattle.at_text.specs.Lines.{path_item}
use Rattle.at_text.specs.Tables.{all_paths}
use Rattle.at_back.proofs.Choices.{alone}
use Rattle.at_back.proofs.line.path_item_at.Given as goal

-- what is left of the table gives the answer
abbrev pub invariant-loop-path : goal.invariant-loop-path
invariant-loop-path l = record {
  all : l.path-items ≡ all_paths;
  here : choice (alone path_item (drop l.path-index all_paths)) l.text ≡ choice (alone path_item all_paths) l.initial.text;
}
