use Rattle.std.proofs.Common.{refl}
use Rattle.at_section.specs.Scores.{opening}
use Rattle.at_section.proofs.Scores.{alone_is_kept}
use Rattle.at_section.proofs.laws.alone_sections.Goals as goal

pub returns : goal.returns
returns c ls s ms caused none = alone_is_kept ls (opening s) ms refl none caused
