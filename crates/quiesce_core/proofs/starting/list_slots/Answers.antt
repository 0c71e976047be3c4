use Rattle.std.proofs.Common.{◌≡◌, ◌+◌, map, true, None, Some, ap, sym, ◌∙◌, arith}
use Rattle.std.specs.Prelude.{slice_get}
use Rattle.std.specs.List.{enumerate_from}
use Rattle.std.proofs.lemmas.Option.{slice_get-get_or}
use Rattle.std.proofs.lemmas.List.{take_all}
use Rattle.std.proofs.lemmas.List.FromFn.{length-enumerate_from}
use Rattle.config_graph.specs.Graph.{first_port}
use Rattle.quiesce_core.specs.declared.state.Slot.{Slot}
use Rattle.quiesce_core.specs.Start.{slot_of}
use Rattle.quiesce_core.proofs.GraphLaws.{first_port_more, first_port_fits}
use Rattle.quiesce_core.proofs.starting.list_slots.Goals as goal
use Rattle.base.proofs.MapLaws.{mapped_more}
use Rattle.base.proofs.PlaceLaws.{get_numbered}

pub overflow_add-first_port : goal.overflow_add-first_port
overflow_add-first_port c =
    let nodes = c.args.nodes.now in
    let here : slice_get nodes c.loop-node.node-index ≡ Some c.node-item.result =
    slice_get-get_or nodes c.loop-node.node-index c.node-item.result c.loop-node-test.true ∙ ap Some (sym c.node-item.is) in
    omega (arith, first_port_fits nodes c.loop-node.node-index c.node-item.result here, c.requires_-requires_.ensures, c.loop-node.invariant.next)

pub loop-node-preserved : goal.loop-node-preserved
loop-node-preserved c =
    let nodes = c.args.nodes.now in
    let i = c.loop-node.node-index in
    let node = c.node-item.result in
    let here : slice_get nodes i ≡ Some node = slice_get-get_or nodes i node c.loop-node-test.true ∙ ap Some (sym c.node-item.is) in
    let slot : Slot = record { node = c.in_ok-try_clone.field-0; first_port = c.loop-node.first_port; from = None; live = true } in
    let numbered : slice_get (enumerate_from 0 nodes) i ≡ Some (i, node) = get_numbered 0 nodes i node here ∙ ap (λ k. Some (k, node)) (omega arith) in
    record {
      items = mapped_more (slot_of nodes) (enumerate_from 0 nodes) i (i, node) c.loop-node.slots.items c.push.new.self.items slot numbered c.loop-node.invariant.items
          (ap (λ n. record { node = n; first_port = c.loop-node.first_port; from = None; live = true }) c.in_ok-try_clone.ensures
          ∙ ap (λ k. record { node = node; first_port = k; from = None; live = true }) c.loop-node.invariant.next)
          c.in_ok-push.ensures.items;
      next = ap (λ k. k + c.requires_-requires_.result) c.loop-node.invariant.next ∙ ap (λ k. first_port nodes i + k) c.requires_-requires_.ensures ∙ first_port_more nodes i node here;
    }

pub returns : goal.returns
returns c =
    let nodes = c.args.nodes.now in
    c.loop-node.invariant.items ∙ ap (λ xs. map (slot_of nodes) xs) (take_all c.loop-node.node-index (enumerate_from 0 nodes) (omega (arith, length-enumerate_from 0 nodes)))
