use Rattle.std.proofs.Common.{◌≡◌, IfSome}
use Rattle.live_hall.specs.Doors.{Opens}
use Rattle.live_hall.specs.Houses.{FitsCell}
use Rattle.live_hall.proofs.door.put_until.Given as goal

abbrev pub invariant-loop : goal.invariant-loop
invariant-loop g l =
    (goal.iterator-loop g).can_next l.iterator' × (goal.iterator-loop g).is_finite l.iterator'
    × IfSome l.waiting (λ node. FitsCell g.J.Named.gates l.fn.node.node.slot node) × Opens l.fn.node.node.slot l.fn.cell l.lock × (l.lock.missed ≡ l.fn.lock.missed)
