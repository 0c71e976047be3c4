use Rattle.std.proofs.Common.{◌∙◌, ap, not, refl, true, subst, sym}
use Rattle.std.specs.Prelude.{find, slice_index_or}
use Rattle.change_board.specs.Scans.{live_nodes}
use Rattle.live_board.specs.Collecting.{Gathers, IsTakenIn}
use Rattle.live_hall.specs.Sighting.{views_of}
use Rattle.state_handover.specs.contracts.any_node.AnyNodeComponent.TheImpl.{ghosts}
use Rattle.txn_gate.specs.Seats.{collected_in, node_in, record_of}
use Rattle.txn_spec.specs.Traces.{HaveOwnSlots}
use Rattle.txn_spec.specs.declared.view.ChangeView.{ChangeView}
use Rattle.txn_records.specs.Entries.{config_of}
use Rattle.live_board.proofs.EndLemmas.{taken_end, gathers}
use Rattle.base.proofs.ListLaws.{each_of}
use Rattle.live_board.proofs.collecting.gather.Goals as goal

pub returns-clause-gathers : goal.returns-clause-gathers
returns-clause-gathers g c =
    let r = record_of c.args.seat.now in
    let nodes = collected_in c.take_lines_in.new.seat in
    let logs = c.take_lines_in.new.logs.items in
    let grew = c.take_lines_in.ensures.grew in
    let own : HaveOwnSlots nodes = subst HaveOwnSlots c.learn.ensures.same.nodes c.learn.ensures.apart in
    subst (λ ns. Gathers (config_of r) ns (record { logs = c.of.result; undone = c.first_undone-undone.result })) (sym c.learn.ensures.same.nodes)
    (subst (λ ls. Gathers (config_of r) nodes (record { logs = ls; undone = c.first_undone-undone.result })) (sym c.of.ensures)
    (gathers ghosts.state r c.args.heirs.now.items c.args.guests.items c.args.ends.logs.items logs c.args.ends.dones.items nodes c.first_undone-undone.result c.requires.known c.requires.heirs c.requires.told grew.slots grew.lasts
    (λ n x at slot.
    taken_end (λ p. node_in p.seat) (λ p. record { slot = p.slot; first = p.first_port; arg = p.arg; log = p.log.items }) (λ p. p.told _ refl) x.node.past.items (node_in x.node.seat)
    (record { slot = x.node.slot; first = x.node.first_port; arg = (ghosts.state x.node.inner).arg; log = x.node.log.items }) (ghosts.state x.node.inner) (config_of r) nodes logs n own slot (x.node.hosted.tells _ refl) x.line x.node.hosted.folds
    (λ line seats is made. c.seats_tell_of_their_line.ensures.made (config_of r) (ghosts.state x.node.inner).kind line seats is made)
    (each_of (IsTakenIn (config_of r) nodes logs) views_of c.args.guests.items at.0 x at.1 grew.all))
    (λ k past last made seen. c.lines_have_folds.ensures.folds r _ k past last c.requires.known made seen)
    (c.first_undone-undone.ensures ∙ ap (λ (k : ChangeView). find (λ n. not (slice_index_or c.args.ends.dones.items n true)) (live_nodes (config_of k.entries))) (c.learn.ensures.same.change ∙ c.take_lines_in.ensures.change))))
