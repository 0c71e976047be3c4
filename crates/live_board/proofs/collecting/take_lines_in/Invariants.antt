use Rattle.std.proofs.Common.{◌≡◌, ◌++◌}
use Rattle.std.specs.List.{AllByRecursion}
use Rattle.live_board.specs.Collecting.{Grew, LiesAt, all_views}
use Rattle.txn_gate.specs.Seats.{change_in, collected_in, record_of, table_of_change}
use Rattle.txn_records.specs.Entries.{config_of}
use Rattle.live_board.proofs.collecting.take_lines_in.Given as goal

abbrev pub invariant-loop-guest : goal.invariant-loop-guest
invariant-loop-guest g l =
    (goal.iterator-loop-guest g).can_next l.guest-iterator ×
    (goal.iterator-loop-guest g).is_finite l.guest-iterator ×
    (table_of_change l.seat ≡ table_of_change l.fn.seat) ×
    (change_in l.seat ≡ change_in l.fn.seat) ×
    (l.seat.spare ≡ l.fn.seat.spare) ×
    AllByRecursion (LiesAt g.J.Named.gates) l.guest-iterator.rest.items ×
    (l.yielded ++ l.guest-iterator.rest.items ≡ l.fn.guests.items) ×
    Grew (config_of (record_of l.fn.seat)) (collected_in l.fn.seat) (collected_in l.seat) l.fn.logs.items l.logs.items (all_views l.yielded)
