use Rattle.std.proofs.Common.{◌≡◌, ◌∙◌, ◌++◌, ◌∷◌, [], append_assoc, ap, map, refl, subst, sym}
use Rattle.std.specs.List.{AllByRecursion}
use Rattle.std.proofs.lemmas.List.{map-append}
use Rattle.atomic_table.specs.Seated.{TableId}
use Rattle.txn_gate.specs.Seats.{collected_in, node_in, record_of, table_of_node}
use Rattle.txn_spec.specs.declared.view.ChangeView.{ChangeView}
use Rattle.txn_spec.specs.declared.view.NodeView.{NodeView}
use Rattle.txn_records.specs.Entries.{config_of}
use Rattle.live_board.proofs.GrowLemmas.{grew_then}
use Rattle.live_board.proofs.collecting.take_past_in.Goals as goal

pub take_node_in-requires-clause-told : goal.take_node_in-requires-clause-told
take_node_in-requires-clause-told c = sym (c.in-Some.node.told _ refl)

pub loop-node-preserved : goal.loop-node-preserved
loop-node-preserved c =
    let inv = c.loop-node.invariant in
    let x = c.in-Some.node in
    let rest = c.next.new.self.rest.items in
    let step = c.in-Some.ensures.steps.0 in
    let e = c.take_node_in.ensures in (
      tt,
      tt,
      e.here ∙ inv.2,
      e.change ∙ inv.3,
      e.spare ∙ inv.4,
      (subst (λ ps. AllByRecursion (λ t. t ≡ c.args.gates.now.words.shared.table_id) (map {B = TableId} (λ p. table_of_node p.seat) ps)) step inv.5).1,
      append_assoc c.loop-node.yielded (x ∷ []) rest ∙ ap (λ ps. c.loop-node.yielded ++ ps) (sym step) ∙ inv.6,
      grew_then (config_of (record_of c.args.seat.now)) (config_of (record_of c.loop-node.seat)) (collected_in c.args.seat.now) (collected_in c.loop-node.seat) (collected_in c.take_node_in.new.seat)
          c.args.logs.now.items c.loop-node.logs.items c.take_node_in.new.logs.items (map {B = NodeView} (λ p. node_in p.seat) c.loop-node.yielded) (node_in x.seat ∷ []) _ (ap (λ (k : ChangeView). config_of k.entries) inv.3) inv.7 e.grew
          (map-append (λ p. node_in p.seat) c.loop-node.yielded (x ∷ [])),
    )
