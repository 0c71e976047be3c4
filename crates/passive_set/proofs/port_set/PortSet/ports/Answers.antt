use Rattle.passive_set.proofs.MarkLemmas.{marked_below}
use Rattle.passive_set.proofs.port_set.PortSet.ports.Goals as goal

pub returns-clause-below : goal.returns-clause-below
returns-clause-below c =
    rw (← c.self.view_is) (marked_below c.self.inside.has.items c.self.inside.ports.items c.self.invariant.marked)
