use Rattle.std.proofs.Common.{◌≡◌, ◌∙◌, ap, sym, Some, List, get_or}
use Rattle.config_graph.specs.Graph.{index_of}
use Rattle.config_graph.specs.declared.node.Node.{Node}
use Rattle.config_graph.proofs.SameLaws.{node_decides}
use Rattle.change_plan.proofs.NodeLaws.{if_none, path_missing, twin_found, twin_missing}
use Rattle.change_parts.proofs.members.place_of.Goals as goal
use Rattle.change_parts.proofs.members.place_of.Goals.{After-then_some}

pub returns-in_err-index-clause-missing : goal.returns-in_err-index-clause-missing
returns-in_err-index-clause-missing c =
    let nodes = c.args.graph.now.nodes in
    let missing = ap (index_of nodes) (sym c.as_bytes.ensures) ∙ sym c.index_of.ensures ∙ c.in_err-index.was in
    if_none c.from_residual.result _ (path_missing nodes c.args.node.now missing)

found : (c : After-then_some) → index_of c.args.graph.now.nodes c.args.node.now.path ≡ Some c.in_ok-index.index
found c =
    ap (index_of c.args.graph.now.nodes) (sym c.as_bytes.ensures) ∙ sym c.index_of.ensures ∙ c.in_ok-index.was

here_is : (c : After-then_some) → c.index-nodes-index.result ≡ get_or c.args.graph.now.nodes c.in_ok-index.index c.index-nodes-index.result
here_is c =
    c.index-nodes-index.is ∙ ap (λ (nodes : List Node). get_or nodes c.in_ok-index.index c.index-nodes-index.result) c.nodes-nodes.ensures.nodes

pub returns-clause-found : goal.returns-clause-found
returns-clause-found c =
    let here = c.index-nodes-index.result in
    let node = c.args.node.now in
    twin_found c.args.graph.now.nodes c.nodes-nodes.ensures.graph.paths_rise node here c.in_ok-index.index c.eq-is_same.result c.then_some.result (found c) (here_is c) c.then_some.ensures (λ e. (node_decides here node).0 (sym c.eq-is_same.ensures ∙ e))

pub returns-clause-missing : goal.returns-clause-missing
returns-clause-missing c =
    let here = c.index-nodes-index.result in
    let node = c.args.node.now in
    twin_missing c.args.graph.now.nodes c.nodes-nodes.ensures.graph.paths_rise node here c.in_ok-index.index c.eq-is_same.result c.then_some.result (found c) (here_is c) c.then_some.ensures (λ e. c.eq-is_same.ensures ∙ (node_decides here node).1 e)
