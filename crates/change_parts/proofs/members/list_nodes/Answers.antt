use Rattle.std.proofs.Common.{◌∙◌, ◌++◌, List, ap, subst, Contains}
use Rattle.std.specs.List.Sorted.{IsPermutation}
use Rattle.config_graph.specs.declared.node.Node.{Node}
use Rattle.change_plan.specs.Selects.{Selects}
use Rattle.change_parts.proofs.MemberLemmas.{members_are}
use Rattle.change_parts.proofs.members.list_nodes.Goals as goal

pub returns : goal.returns
returns c =
    let old = c.args.old.now in
    let new = c.args.new.now in
    let created = c.in_ok-created.created.items in
    let nodes = c.sort_nodes.new.nodes.items in
    record {
      members = members_are old new c.nodes.ensures.graph c.nodes-2.ensures.graph created nodes
          (subst (λ (xs : List Node). Selects (λ n. ¬ Contains old.nodes n) xs created) c.nodes-2.ensures.nodes c.in_ok-created.ensures)
          (subst (λ xs. IsPermutation xs nodes) (c.in_ok-append.ensures.items ∙ ap (λ (xs : List Node). xs ++ created) (c.in_ok-nodes.ensures ∙ c.nodes.ensures.nodes)) c.sort_nodes.ensures.permutation)
          c.sort_nodes.ensures.sorted;
      graphs = (c.nodes.ensures.graph, c.nodes-2.ensures.graph);
    }
