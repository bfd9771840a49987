use Rattle.at_dict.proofs.Rooms.{spare-after_cut}
use Rattle.at_dict.proofs.body.Body.cut.Goals as goal

pub returns-clause-spare : goal.returns-clause-spare
returns-clause-spare c =
    rw (← c.self.view_is)
    (spare-after_cut c.args.n c.self.inside.items.items c.cut.new.items.items c.self.inside.items.cap c.cut.new.items.cap c.self.inside.items.len c.cut.new.items.len
    c.self.inside.items.ok.0 c.cut.new.items.ok.0 c.self.inside.items.ok.1 c.cut.ensures.capacity c.cut.ensures.rest)
