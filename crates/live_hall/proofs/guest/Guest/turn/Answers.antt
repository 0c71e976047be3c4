use Rattle.std.proofs.Common.{ap}
use Rattle.live_hall.specs.Lines.{seen_word}
use Rattle.txn_gate.specs.Seats.{node_in}
use Rattle.live_hall.proofs.LineLaws.{turned}
use Rattle.live_hall.proofs.guest.Guest.turn.Goals as goal

pub invariant_of-self : goal.invariant_of-self
invariant_of-self g c =
    let e = c.turn_at_gates.ensures.turned in
    let old = c.args.self.now in
    record {
      line = turned (λ p. seen_word (node_in p.seat)) (λ p. record { slot = p.slot; first = p.first_port; arg = p.arg }) old.node.past.items _ (node_in old.node.seat) (node_in c.turn_at_gates.new.node.seat) _ _ old.node.slot c.turn_at_gates.new.node.slot old.node.first_port c.turn_at_gates.new.node.first_port _ _ _ _ _ _ _ _ old.line
          (ap (λ v. v.items) e.past) e.made old.at e.node e.place.0 e.place.1 e.moved;
      at = e.node;
    }
