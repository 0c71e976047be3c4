use Rattle.std.proofs.Common.{◌≡◌, ◌++◌, map}
use Rattle.std.specs.List.{AllByRecursion}
use Rattle.live_board.specs.Collecting.{Grew}
use Rattle.txn_gate.specs.Seats.{change_in, collected_in, node_in, record_of, table_of_change, table_of_node}
use Rattle.txn_records.specs.Entries.{config_of}
use Rattle.live_board.proofs.collecting.take_past_in.Given as goal

abbrev pub invariant-loop-node : goal.invariant-loop-node
invariant-loop-node l =
    goal.iterator-loop-node.can_next l.node-iterator ×
    goal.iterator-loop-node.is_finite l.node-iterator ×
    (table_of_change l.seat ≡ table_of_change l.fn.seat) ×
    (change_in l.seat ≡ change_in l.fn.seat) ×
    (l.seat.spare ≡ l.fn.seat.spare) ×
    AllByRecursion (λ t. t ≡ l.gates.words.shared.table_id) (map (λ p. table_of_node p.seat) l.node-iterator.rest.items) ×
    (l.yielded ++ l.node-iterator.rest.items ≡ l.fn.past.items) ×
    Grew (config_of (record_of l.fn.seat)) (collected_in l.fn.seat) (collected_in l.seat) l.fn.logs.items l.logs.items (map (λ p. node_in p.seat) l.yielded)
