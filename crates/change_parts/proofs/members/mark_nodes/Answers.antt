use Rattle.std.proofs.Common.{◌≡◌, ◌∙◌, ◌∷◌, [], Some, slice_get, length, ap, sym, subst, arith, length-append}
use Rattle.std.proofs.lemmas.Option.{slice_get-get_or, slice_get_within}
use Rattle.change_parts.proofs.MemberLemmas.{AreMarked, mark_pushed}
use Rattle.change_parts.proofs.members.mark_nodes.Goals as goal

pub loop-node-init : goal.loop-node-init
loop-node-init c = record {
  long = ap length c.in_ok-marks.ensures.items;
  are = λ k n below at. absurd (omega (arith, below, ap length c.in_ok-marks.ensures.items));
}

pub loop-node-preserved : goal.loop-node-preserved
loop-node-preserved c =
    let g = c.args.graph.now in
    let nodes = c.args.nodes.now in
    let i = c.loop-node.node-index in
    let n = c.node-item.result in
    let marks = c.loop-node.marks.items in
    let at : slice_get nodes i ≡ Some n = slice_get-get_or nodes i n c.loop-node-test.true ∙ ap Some (sym c.node-item.is) in
    let here : slice_get nodes (length marks) ≡ Some n = ap (slice_get nodes) c.loop-node.invariant.long ∙ at in
    record {
      long = omega (arith, c.loop-node.invariant.long, ap length c.in_ok-push.ensures.items, length-append marks (c.is_some.result ∷ []));
      are = subst (AreMarked g nodes) (sym c.in_ok-push.ensures.items) (mark_pushed g nodes marks n c.place_of.result c.is_some.result here c.place_of.ensures.found c.place_of.ensures.missing c.is_some.ensures c.loop-node.invariant.are);
    }

pub returns : goal.returns
returns c =
    let nodes = c.args.nodes.now in
    let all : c.loop-node.node-index ≡ length nodes = omega (arith, c.loop-node-test.false, c.loop-node.auto.node-index-end) in
    record {
      long = c.loop-node.invariant.long ∙ all;
      are = λ k n at. c.loop-node.invariant.are k n (omega (arith, slice_get_within nodes k n at, all, c.loop-node.invariant.long)) at;
    }
