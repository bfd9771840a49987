use Rattle.std.proofs.Common.{refl}
use Rattle.at_section.specs.Scores.{opening}
use Rattle.at_section.proofs.Scores.{kept_gives_none, none_is_kept}
use Rattle.at_section.proofs.laws.kept_sections.Goals as goal

pub returns : goal.returns
returns c ls s ms = ((λ e. (kept_gives_none ls (opening s) ms refl e).0), (λ a. none_is_kept ls (opening s) ms a))
