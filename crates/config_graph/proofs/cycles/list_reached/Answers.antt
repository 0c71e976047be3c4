use Rattle.std.proofs.Common.{◌<◌, ◌≤◌, ◌∙◌, ap, false, replicate, length, arith}
use Rattle.std.proofs.lemmas.List.{get_or_read, length-replicate}
use Rattle.config_graph.specs.Search.{see_all, seen_of, successors}
use Rattle.config_graph.proofs.SearchLaws.{search_begins, search_ends, search_goes_on}
use Rattle.config_graph.proofs.cycles.list_reached.Goals as goal

pub see_successors-requires-clause-bits : goal.see_successors-requires-clause-bits
see_successors-requires-clause-bits c =
    omega (arith, c.in_ok-bits.bits.ok.0, ap length c.in_ok-bits.ensures, length-replicate c.node_count.result false, c.node_count.ensures.count)

pub loop-next-init : goal.loop-next-init
loop-next-init c =
    let g = c.args.graph.now in
    let blank = c.in_ok-bits.ensures ∙ ap (λ n. replicate n false) c.node_count.ensures.count in
    search_begins g c.node_count.ensures.graph.within c.args.start _ (c.in_ok-see_successors.ensures ∙ (λ i. see_all (successors g c.args.start) (seen_of (blank i) (c.new-reached.ensures.items i))))

pub loop-next-preserved : goal.loop-next-preserved
loop-next-preserved c =
    let g = c.args.graph.now in
    let reached = c.loop-next.reached in
    let more : c.loop-next.next < length reached.items = omega (arith, c.len.ensures, reached.ok.0) in
    let node = get_or_read reached.items c.loop-next.next c.index.result.now more c.index.ensures 0 in
    search_goes_on g c.node_count.ensures.graph.within c.args.start _ _ c.loop-next.next c.index.result.now c.loop-next.invariant more node c.in_ok-see_successors-2.ensures

pub returns : goal.returns
returns c =
    let reached = c.loop-next.reached in
    let all : length reached.items ≤ c.loop-next.next = omega (arith, c.len.ensures, reached.ok.0) in
    record {
      length = omega (arith, c.loop-next.bits.ok.0, c.loop-next.invariant.long);
      reached = search_ends c.args.graph.now c.args.start _ c.loop-next.next c.loop-next.invariant all;
    }
