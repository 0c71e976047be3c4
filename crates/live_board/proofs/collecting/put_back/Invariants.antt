use Rattle.std.specs.List.{AllByRecursion}
use Rattle.live_board.specs.Collecting.{LiesAt}
use Rattle.live_board.proofs.collecting.put_back.Given as goal

abbrev pub invariant-loop-guest : goal.invariant-loop-guest
invariant-loop-guest g l =
    (goal.iterator-loop-guest g).can_next l.guest-iterator ×
    (goal.iterator-loop-guest g).is_finite l.guest-iterator ×
    AllByRecursion (LiesAt g.J.Named.gates) l.guest-iterator.rest.items
