use Rattle.std.proofs.Common.{◌∙◌, sym}
use Rattle.at_source.proofs.Pieces.{copied_split}
use Rattle.at_source.proofs.sure.SureSourceSource.read.Goals as goal

pub returns-clause-prefix : goal.returns-clause-prefix
returns-clause-prefix c = sym c.self.view_is ∙ copied_split _ _ _ _ _ c.deref.ensures.value c.copy_prefix-count.ensures.prefix
