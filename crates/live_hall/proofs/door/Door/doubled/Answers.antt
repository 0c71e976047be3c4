use Rattle.std.proofs.Common.{rules}
use Rattle.live_hall.proofs.door.Door.doubled.Goals as goal

pub invariant_of-first : goal.invariant_of-first
invariant_of-first g c = (c.self.invariant.0, c.another_row.ensures.locks, search rules)

pub invariant_of-second : goal.invariant_of-second
invariant_of-second g c = (search rules, search rules, search rules)
