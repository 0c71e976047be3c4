use Rattle.std.proofs.Common.{◌≡◌, ◌<◌, ◌∙◌, ap, sym, arith, length}
use Rattle.std.specs.Prelude.{option_to_list}
use Rattle.config_graph.specs.Cycles.{leads_by}
use Rattle.config_graph.specs.Graph.{requires_at}
use Rattle.config_graph.specs.Search.{see_all, seen_of, successors_by}
use Rattle.config_graph.proofs.CycleLaws.{requires_is}
use Rattle.config_graph.proofs.SearchLaws.{see_all-append, see_all-extends, successors_by-more}
use Rattle.base.proofs.OptionLaws.{ForSome-from_IfSome}
use Rattle.config_graph.proofs.cycles.see_successors.Goals as goal

pub see_next-requires : goal.see_next-requires
see_next-requires c =
    ForSome-from_IfSome c.successor.result (λ j. j < length c.args.graph.now.nodes) _ c.successor.ensures.within (λ j h. rw c.loop-require.invariant.long h)

pub loop-require-preserved : goal.loop-require-preserved
loop-require-preserved c =
    let g = c.args.graph.now in
    let i = c.args.node in
    let r = c.loop-require.require in
    let before = seen_of c.args.bits.now.items c.args.reached.now.items in
    let old = seen_of c.loop-require.bits.items c.loop-require.reached.items in
    let seen = c.in_ok-see_next.ensures in
    let long = (see_all-extends (option_to_list c.successor.result) old).long in
    record {
      seen =
          seen ∙ (λ x. see_all (option_to_list (c.successor.ensures.node x)) (c.loop-require.invariant.seen x)) ∙ sym (see_all-append (successors_by g i r) (option_to_list (leads_by g i r)) before) ∙ ap (λ js. see_all js before) (sym (successors_by-more g i r));
      long =
          omega (arith, c.see_next.new.bits.ok.0, c.loop-require.bits.ok.0, long, ap (λ s. length s.bits) seen, c.loop-require.invariant.long);
    }

pub returns : goal.returns
returns c =
    let g = c.args.graph.now in
    let count = requires_is g.nodes c.args.node c.requires_-require-end.result c.node.result.now c.node.ensures c.requires_-require-end.ensures in
    let all : c.loop-require.require ≡ requires_at g.nodes c.args.node = omega (arith, count) in
    c.loop-require.invariant.seen ∙ ap (λ n. see_all (successors_by g c.args.node n) (seen_of c.args.bits.now.items c.args.reached.now.items)) all
