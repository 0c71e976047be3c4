use Rattle.std.proofs.Common.{◌≡◌, ◌∙◌, Some, ap, arith, get_or, inl, inr, length, slice_get, subst, sym}
use Rattle.std.specs.Option.{option_map_or}
use Rattle.std.proofs.lemmas.Option.{slice_get-get_or}
use Rattle.std.proofs.lemmas.Bool.{cases_lt}
use Rattle.config_graph.specs.Graph.{provides_at, provides_of, target_of}
use Rattle.config_graph.proofs.CycleLaws.{MayCall-require, linked}
use Rattle.config_graph.proofs.IncomingLaws.{incoming-length}
use Rattle.config_graph.proofs.LinkLaws.{get-ports}
use Rattle.config_graph.proofs.LinkLaws.{target_within}
use Rattle.config_graph.proofs.cycles.push_predecessors.Goals as goal

pub loop-provide-preserved : goal.loop-provide-preserved
loop-provide-preserved c =
    let g = c.args.graph.now in
    let few = incoming-length g c.args.node c.loop-provide.provide in
    let pushed = c.in_ok-push_owners.ensures in
    record {
      nodes = λ all. pushed.nodes (c.loop-provide.invariant.nodes all);
      count = omega (arith, few, ap length c.incoming.ensures.ports, pushed.count, c.loop-provide.invariant.count);
      kept = λ i h. pushed.kept i (c.loop-provide.invariant.kept i h);
      callers = λ i r x low within leads.
          elim (cases_lt x c.loop-provide.provide) [
            | inl before ↦ pushed.kept i (c.loop-provide.invariant.callers i r x before within leads)
            | inr last ↦
                let here : x ≡ c.loop-provide.provide = omega (arith, low, last) in
                pushed.owners _ (record { node = i; require = r })
                ((c.incoming.ensures.linked i r within).1 (subst (λ y. target_of g.links i r ≡ Some (record { node = c.args.node; provide = y })) here leads))
                (get-ports g.nodes i r within)
          ];
    }

pub returns-clause-callers : goal.returns-clause-callers
returns-clause-callers c = λ i h.
    let g = c.args.graph.now in
    let leads = linked g i c.args.node h in
    let low = target_within g.nodes g.links i h.port.require (record { node = c.args.node; provide = h.provide }) c.nodes-nodes.ensures.graph.within leads in
    let n = get_or c.nodes-nodes.result.now c.args.node c.index-nodes-node.result in
    let there : slice_get g.nodes c.args.node ≡ Some n =
    ap (λ ns. slice_get ns c.args.node) (sym c.nodes-nodes.ensures.nodes)
    ∙ slice_get-get_or c.nodes-nodes.result.now c.args.node c.index-nodes-node.result (rw c.nodes-nodes.ensures.nodes c.requires) in
    let count : provides_at g.nodes c.args.node ≡ provides_of n = ap (λ o. option_map_or provides_of o 0) there in
    c.loop-provide.invariant.callers i h.port.require h.provide (omega (arith, low, count, c.provides-provide-end.ensures)) (MayCall-require g i c.args.node h) leads
