use Rattle.live_board.specs.Turning.{GaveTurns, ways}
use Rattle.txn_gate.specs.Seats.{record_of}
use Rattle.txn_records.specs.Entries.{config_of}
use Rattle.live_board.proofs.turning.give_turns.Given as goal

abbrev pub invariant-loop-slot : goal.invariant-loop-slot
invariant-loop-slot g l = GaveTurns g.J.Named.gates (config_of (record_of l.seat)) l.begins (ways l.fn.door l.fn.hand) l.slot (ways l.door l.hand) l.moved
