use Rattle.std.proofs.Common.{◌≡◌, ◌∙◌, ◌+◌, [], ◌∷◌, ◌++◌, None, sym, ap, subst, get_or, arith}
use Rattle.std.proofs.lemmas.Option.{slice_get-get_or}
use Rattle.base.proofs.OptionLaws.{option_map_some, None-from_map}
use Rattle.config_graph.specs.declared.kind.Kind.{Kind}
use Rattle.config_graph.specs.declared.node.Node.{Node}
use Rattle.elaborator.specs.Graph.{node_of}
use Rattle.elaborator.specs.Numbering.{Numbered}
use Rattle.elaborator.specs.Expansion.{expanded_of, instance_in}
use Rattle.elaborator.specs.NodeOrder.{nodes_in, AreFirstNodes, IsInOrder}
use Rattle.elaborator.proofs.NodeLemmas.{nodes_in-push, first_nodes-skip, first_nodes-push, nodes-all}
use Rattle.elaborator.proofs.nodes.nodes_of.Goals as goal
use Rattle.elaborator.proofs.nodes.nodes_of.Goals.{in-Some+in_ok-add, in_default}

pub add-requires-clause-within : goal.add-requires-clause-within
add-requires-clause-within c =
    let e = expanded_of c.args.expansion.now in
    let items = c.deref-number-items.result.now in
    let k = c.loop-number.number-index in
    let in_order = subst (IsInOrder e) (sym c.deref-number-items.ensures.value) c.in_ok-order.ensures in
    omega (arith, in_order.within k (get_or items k 0) (slice_get-get_or items k 0 c.loop-number-test.true), c.loop-number.invariant.all_placed)

pub loop-number-preserved : goal.loop-number-preserved
loop-number-preserved c =
    let e = expanded_of c.args.expansion.now in
    let items = c.deref-number-items.result.now in
    let k = c.loop-number.number-index in
    let m = get_or items k 0 in
    let i = instance_in c.instance.result.now in
    let in_order = subst (IsInOrder e) (sym c.deref-number-items.ensures.value) c.in_ok-order.ensures in
    let at = slice_get-get_or items k 0 c.loop-number-test.true in
    let numbered : Numbered e m i = record { maker = c.instance.result.now.maker; is_at = c.instance.ensures.made } in
    let ns = nodes_in e c.loop-number.nodes.instances.items in
    elim c.match-node_kind.branch [
      | in-Some+in_ok-add w ↦
          let node = option_map_some kind_of (node_of i) w.in-Some.kind (sym c.node_kind.ensures ∙ w.in-Some.is) in
          let new = w.add.new.self in
          let more : nodes_in e new.instances.items ≡ ns ++ node.0 ∷ [] = ap (nodes_in e) w.in_ok-add.ensures.instances ∙ nodes_in-push e c.loop-number.nodes.instances.items m i node.0 numbered node.1 in
          let kinds = subst (λ x. new.kinds.items ≡ c.loop-number.nodes.kinds.items ++ x ∷ []) (sym node.2) w.in_ok-add.ensures.kinds in
          subst (λ n. AreFirstNodes e items (k + 1) (nodes_in e n.instances.items) n) (sym w.nodes-is) (first_nodes-push e items ns (nodes_in e new.instances.items) c.loop-number.nodes new k m i node.0 in_order c.loop-number.invariant at numbered node.1 more kinds w.in_ok-add.ensures.instances w.in_ok-add.ensures.places)
      | in_default w ↦
          let none : node_of i ≡ None = None-from_map kind_of (node_of i) (sym c.node_kind.ensures ∙ w.in_default.is) in
          subst (λ n. AreFirstNodes e items (k + 1) (nodes_in e n.instances.items) n) (sym w.nodes-is) (first_nodes-skip e items ns c.loop-number.nodes k m i c.loop-number.invariant at numbered none)
    ]
  where
    kind_of : Node → Kind
    kind_of x = x.kind

pub returns : goal.returns
returns c =
    let e = expanded_of c.args.expansion.now in
    let items = c.deref-number-items.result.now in
    let in_order = subst (IsInOrder e) (sym c.deref-number-items.ensures.value) c.in_ok-order.ensures in
    nodes-all e items (nodes_in e c.loop-number.nodes.instances.items) c.loop-number.nodes c.loop-number.number-index in_order c.loop-number-test.false (omega arith) c.loop-number.invariant
