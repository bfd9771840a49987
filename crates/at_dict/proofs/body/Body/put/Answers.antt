use Rattle.at_dict.proofs.Rooms.{spare-after_put}
use Rattle.at_dict.proofs.body.Body.put.Goals as goal

pub returns-clause-spare : goal.returns-clause-spare
returns-clause-spare c =
    let there_or_room = rw (← c.self.view_is) at c.requires in
    rw (← c.self.view_is)
    (spare-after_put c.args.n c.args.v c.self.inside.items.items c.put.new.items.items c.self.inside.items.cap c.put.new.items.cap c.self.inside.items.len c.put.new.items.len c.put.result
    c.self.invariant c.self.inside.items.ok.0 c.put.new.items.ok.0 c.put.ensures.ok c.put.ensures.there c.put.ensures.room there_or_room)
