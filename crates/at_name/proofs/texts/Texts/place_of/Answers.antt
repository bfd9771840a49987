use Rattle.std.proofs.Common.{sym}
use Rattle.at_name.proofs.Tables.{place_is}
use Rattle.at_name.proofs.texts.Texts.place_of.Goals as goal

pub returns-clause-same : goal.returns-clause-same
returns-clause-same g c = sym (place_is c.args.text.now c.self.inside.set.keys c.args.self.now c.get_index_of.result c.self.view_is c.get_index_of.ensures.index)
