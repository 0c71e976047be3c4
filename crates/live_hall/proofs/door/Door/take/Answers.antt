use Rattle.std.proofs.Common.{◌∙◌, arith, length-set, rules}
use Rattle.base.proofs.PairedLaws.{after}
use Rattle.live_hall.specs.Doors.{Opens}
use Rattle.live_hall.specs.Houses.{FitsCell}
use Rattle.live_hall.proofs.Missed.{taken}
use Rattle.live_hall.proofs.door.Door.take.Goals as goal

pub invariant_of-self : goal.invariant_of-self
invariant_of-self g c =
    let i = c.self.invariant in
    let few = c.requires in
    (i.0, length-set _ _ _ ∙ i.1, after Opens _ _ c.args.slot c.index.result.now _ i.2 (omega arith) (omega arith) (search rules) c.index_mut.ensures.value _ c.take_here-taken.ensures.opens)

pub returns-clause-taken : goal.returns-clause-taken
returns-clause-taken g c =
    let i = c.self.invariant in
    let few = c.requires in
    taken (FitsCell g.J.Named.gates c.args.slot) c.self.inside.locks.items c.args.self.now c.args.slot c.index_mut.result.now c.take_here-taken.new.lock c.take_here-taken.result (search rules) (omega arith) c.index_mut.ensures.value c.take_here-taken.ensures.taken
