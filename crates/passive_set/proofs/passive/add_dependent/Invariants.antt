use Rattle.std.proofs.Common.{◌≡◌, ◌-◌}
use Rattle.passive_set.proofs.FeedingLemmas.{SoFar}
use Rattle.passive_set.proofs.passive.add_dependent.Given as goal

abbrev pub invariant-loop-port : goal.invariant-loop-port
invariant-loop-port l = record {
  room : l.set.room ≡ l.initial.set.room;
  so_far : SoFar l.graph l.initial.set.ports l.set.ports l.next;
}

abbrev pub decreases-loop-port : goal.decreases-loop-port
decreases-loop-port l = l.set.room - l.next
