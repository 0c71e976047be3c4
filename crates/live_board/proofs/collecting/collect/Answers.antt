use Rattle.std.proofs.Common.{◌≤◌, subst, sym}
use Rattle.config_graph.specs.declared.TheConstants.{MAX_NODES}
use Rattle.txn_gate.specs.Seats.{record_of}
use Rattle.live_board.proofs.ScanLaws.{few_now}
use Rattle.live_board.proofs.collecting.collect.Goals as goal

pub take_ends-requires-clause-few : goal.take_ends-requires-clause-few
take_ends-requires-clause-few g c = subst (λ n. n ≤ MAX_NODES) (sym c.made-made.ensures.nodes) (few_now (record_of c.args.seat.now) c.requires.known)
