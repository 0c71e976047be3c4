use Rattle.std.proofs.Common.{◌≡◌, ◌-◌, ◌+◌, ◌*◌, max}
use Rattle.std.specs.List.{range_with_len}
use Rattle.quiesce_core.specs.Rest.{greatest, call_events}
use Rattle.quiesce_core.specs.Counted.{capped, events_within, AreCounted}
use Rattle.quiesce_core.specs.Tables.{state_of}
use Rattle.quiesce_core.proofs.tables.Tables.+filling.Given as goal

abbrev pub decreases-full : goal.decreases-full
decreases-full l = 3 * l.depth + 2

abbrev pub decreases-call_events : goal.decreases-call_events
decreases-call_events l = 3 * l.depth + 1

abbrev pub decreases-events_within : goal.decreases-events_within
decreases-events_within l = 3 * l.depth

-- the greatest so far, and that of the ports from this one on, have the answer between them
abbrev pub invariant-call_events-loop-port : goal.invariant-call_events-loop-port
invariant-call_events-loop-port l =
    let c = (state_of l.self).config in
    record {
      known : AreCounted c l.known;
      left : max l.most (capped (greatest (events_within c l.target) (range_with_len l.port (l.port-end - l.port)))) ≡ capped (call_events c l.target.node l.target.provide);
    }
