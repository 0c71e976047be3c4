use Rattle.std.proofs.Common.{rules, ◌∙◌, ◌<◌, refl, subst}
use Rattle.std.proofs.lemmas.List.{length-map}
use Rattle.base.proofs.PlaceLaws.{slice_get-map_at}
use Rattle.step_board.specs.declared.held.Held.TheVariants as held
use Rattle.step_board.proofs.ReadLemmas.{end_below, end_not_gone, line_below, past_found, place_below}
use Rattle.step_board.proofs.NodeTableLemmas.{at_slot}
use Rattle.step_board.proofs.table.NodeTable.past_log.Goals as goal

pub index-end-requires : goal.index-end-requires
index-end-requires c = let low = line_below _ _ _ _ c.requires.there in search (rules, low)

pub index-requires : goal.index-requires
index-requires c = let low = end_below _ _ _ _ c.requires.there c.index-end.result.now c.index-end.ensures in search (rules, low)

pub index-requires-in-Node : goal.index-requires-in-Node
index-requires-in-Node c =
    let at = at_slot c.args.self.now.nodes.items c.index-end.result.now c.index.result.now (held.Node c.in-Node.node) (end_below _ _ _ _ c.requires.there c.index-end.result.now c.index-end.ensures) c.index.ensures c.in-Node.is in
    let low = place_below _ _ _ _ c.requires.there c.index-end.result.now c.index-end.ensures (held.Node c.in-Node.node) at _ refl in
    let low' = subst (λ k. c.args.handed.place < k) (length-map c.in-Node.node.past.items (λ q. record { slot = q.slot; first = q.first_port; arg = q.arg; log = q.log.items })) low in
    search (rules, low')

pub unreachable-requires : goal.unreachable-requires
unreachable-requires c =
    let at = at_slot c.args.self.now.nodes.items c.index-end.result.now c.index.result.now (held.Handed c.in-Handed.field-0) (end_below _ _ _ _ c.requires.there c.index-end.result.now c.index-end.ensures) c.index.ensures c.in-Handed.is in
    end_not_gone _ _ _ _ c.requires.there c.index-end.result.now c.index-end.ensures (held.Handed c.in-Handed.field-0) at c.in-Handed.field-0 refl

pub returns : goal.returns
returns c =
    let at = at_slot c.args.self.now.nodes.items c.index-end.result.now c.index.result.now (held.Node c.in-Node.node) (end_below _ _ _ _ c.requires.there c.index-end.result.now c.index-end.ensures) c.index.ensures c.in-Node.is in
    let low = place_below _ _ _ _ c.requires.there c.index-end.result.now c.index-end.ensures (held.Node c.in-Node.node) at _ refl in
    let low' = subst (λ k. c.args.handed.place < k) (length-map c.in-Node.node.past.items (λ q. record { slot = q.slot; first = q.first_port; arg = q.arg; log = q.log.items })) low in
    let member = at_slot c.in-Node.node.past.items c.args.handed.place c.index-in-Node.result.now c.index-in-Node.result.now low' c.index-in-Node.ensures refl in
    c.deref.ensures.value
    ∙ past_found _ _ _ _ c.requires.there c.index-end.result.now c.index-end.ensures (held.Node c.in-Node.node) at _ refl _
    (slice_get-map_at (λ q. record { slot = q.slot; first = q.first_port; arg = q.arg; log = q.log.items }) c.in-Node.node.past.items c.args.handed.place c.index-in-Node.result.now member)
