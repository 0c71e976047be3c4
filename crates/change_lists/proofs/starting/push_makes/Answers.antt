use Rattle.std.proofs.Common.{◌++◌, map, None, Some, ap, ◌∙◌, arith}
use Rattle.std.specs.List.{enumerate_from}
use Rattle.std.proofs.lemmas.List.{take_all}
use Rattle.std.proofs.lemmas.List.FromFn.{length-enumerate_from}
use Rattle.quiesce_core.specs.declared.event.Event.TheVariants.{Make}
use Rattle.quiesce_laws.specs.Starts.{make_of}
use Rattle.change_lists.proofs.ListingLaws.{mapped_on}
use Rattle.base.proofs.PlaceLaws.{get_numbered}
use Rattle.change_lists.proofs.starting.push_makes.Goals as goal

pub loop-slot-preserved : goal.loop-slot-preserved
loop-slot-preserved c =
    let nodes = c.args.graph.now.nodes in
    let i = c.loop-slot.slot in
    let node = c.node.result.now in
    mapped_on make_of (enumerate_from 0 nodes) i (i, node) c.args.events.now.items c.loop-slot.events.items c.push.new.self.items (Make i c.in_ok-node.node None)
    (get_numbered 0 nodes i node c.node.ensures ∙ ap (λ k. Some (k, node)) (omega arith)) c.loop-slot.invariant (ap (λ m. Make i m None) c.in_ok-node.ensures) c.in_ok-push.ensures.items

pub returns : goal.returns
returns c =
    let nodes = c.args.graph.now.nodes in
    c.loop-slot.invariant ∙ ap (λ xs. c.args.events.now.items ++ map make_of xs)
    (take_all c.loop-slot.slot (enumerate_from 0 nodes) (omega (arith, length-enumerate_from 0 nodes, c.loop-slot-test, c.loop-slot.auto, c.node_count-slot-end.ensures.count)))
