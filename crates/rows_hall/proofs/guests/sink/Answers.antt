use Rattle.std.proofs.Common.{◌≡◌, ◌∙◌, None, [], ap, length, refl}
use Rattle.config_graph.specs.declared.kind.Kind.TheVariants.{Sink}
use Rattle.config_graph.specs.declared.node.Node.{Node}
use Rattle.txn_records.specs.Entries.{config_of}
use Rattle.txn_spec.specs.Views.{change_of}
use Rattle.txn_gate.specs.Calls.{made_node}
use Rattle.txn_gate.specs.Seats.{record_of}
use Rattle.rows_hall.proofs.guests.sink.Goals as goal

pub first-requires-clause-seat : goal.first-requires-clause-seat
first-requires-clause-seat c =
    let node : Node = record { path = c.in_ok-path.path; kind = Sink; arg = None } in
    let nothing_made : record_of c.reserve.new.seat ≡ [] = ap (λ (s : _). (change_of s.me.0).entries) c.reserve.ensures.seat ∙ c.requires.fresh in
    (node, c.make_node-seat.ensures.node ∙ ap (λ r. made_node (length (config_of r).slots) (length (config_of r).gates) node None) nothing_made, refl, refl)
