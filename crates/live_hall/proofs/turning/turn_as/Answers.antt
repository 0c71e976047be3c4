use Rattle.std.proofs.Common.{◌≡◌, ◌∙◌, ap, rules, sym}
use Rattle.txn_gate.specs.Seats.{table_of_node}
use Rattle.live_hall.proofs.Elsewhere.{other, other_apart}
use Rattle.live_hall.proofs.turning.turn_as.Goals as goal

pub returns-clause-turned : goal.returns-clause-turned
returns-clause-turned g c =
    let node = c.args.node.now in
    let at_gate = c.requires.seated.here ∙ sym (ap (λ (x : _). x.words.shared.table_id) c.new-gate.ensures) in
    let here : table_of_node c.turn.new.self.seat ≡ table_of_node node.seat =
    c.turn.ensures.acts.fits.0 ∙ sym (c.turn.ensures.acts.others (other node.seat node.slot) (other_apart node.slot) (at_gate, c.requires.made)).0.0 in
    search (rules, here)
