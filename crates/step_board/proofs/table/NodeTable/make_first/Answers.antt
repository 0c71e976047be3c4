use Rattle.std.proofs.Common.{◌∙◌, Some, ap, map, refl}
use Rattle.port_queue.specs.Plain.{box_of}
use Rattle.state_handover.specs.contracts.any_node.AnyNodeComponent.TheImpl.{ghosts}
use Rattle.step_board.specs.Entries.{Predecessor}
use Rattle.step_board.specs.declared.held.Held.TheVariants as held
use Rattle.step_board.proofs.MakeTable.{shown_first}
use Rattle.step_board.proofs.table.NodeTable.make_first.Goals as goal

pub returns-clause-shows : goal.returns-clause-shows
returns-clause-shows c = λ w h.
    let host = c.host_first-host.ensures in
    shown_first ghosts.state c.args.self.now.gate.core.state c.make.new.self.state c.args.self.now.nodes.items c.add.new.self.nodes.items c.args.self.now.line_ends.items c.add.new.self.line_ends.items _ _ w c.args.node h
    (held.Node c.host_first-host.result) _ refl
    (record {
      place = host.place.0 ∙ c.made-made.ensures.nodes;
      first = host.place.1 ∙ c.made-made.ensures.ports;
      kind = ap (λ t. t.kind) host.state;
      arg = ap (λ t. t.arg) host.state;
      rests = ap (λ t. t.service) host.state;
      known = host.known;
      log = host.log;
    }) host.waiting _ (ap (λ g. g.core.state) c.add.ensures.others.0) (ap (λ b. λ n. Some (box_of b.inboxes.items n).held) c.add.ensures.others.1) c.host_first-host.result.slot c.made-made.result.nodes (host.place.0 ∙ c.made-made.ensures.nodes)
    c.make.ensures.step (ap (map {B = Predecessor} (λ p. record { slot = p.slot; first = p.first_port; arg = p.arg; log = p.log.items })) host.past) host.state c.made-made.ensures.nodes c.add.ensures.nodes c.add.ensures.ends
