use Rattle.std.proofs.Common.{◌∙◌, ◌++◌, ◌∷◌, [], ap, map, sym}
use Rattle.live_hall.specs.Sighting.{views_of}
use Rattle.txn_gate.specs.Seats.{collected_in, node_in, record_of}
use Rattle.txn_spec.specs.declared.view.ChangeView.{ChangeView}
use Rattle.txn_spec.specs.declared.view.NodeView.{NodeView}
use Rattle.txn_records.specs.Entries.{config_of}
use Rattle.live_board.proofs.GrowLemmas.{grew_then}
use Rattle.live_board.proofs.collecting.take_line_in.Goals as goal

pub returns : goal.returns
returns c = record {
  here = c.take_node_in.ensures.here ∙ c.take_past_in.ensures.here;
  change = c.take_node_in.ensures.change ∙ c.take_past_in.ensures.change;
  spare = c.take_node_in.ensures.spare ∙ c.take_past_in.ensures.spare;
  grew =
      grew_then (config_of (record_of c.args.seat.now)) (config_of (record_of c.take_past_in.new.seat)) (collected_in c.args.seat.now) (collected_in c.take_past_in.new.seat) (collected_in c.take_node_in.new.seat)
      c.args.logs.now.items c.take_past_in.new.logs.items c.take_node_in.new.logs.items _ _ (views_of c.args.guest) (ap (λ (k : ChangeView). config_of k.entries) c.take_past_in.ensures.change) c.take_past_in.ensures.grew c.take_node_in.ensures.grew
      (sym (ap views_of c.into_guest-node.ensures) ∙ sym (ap (λ q. map {B = NodeView} (λ p. node_in p.seat) q.3.items ++ node_in q.1 ∷ []) c.into_parts-theirs.ensures));
}
