use Rattle.std.proofs.Common.{◌++◌, ◌∷◌, [], ◌∙◌, ap, sym}
use Rattle.config_graph.proofs.cycles.all_nodes.Goals as goal
use Rattle.base.proofs.RisingLaws.{places_more}

pub loop-node-preserved : goal.loop-node-preserved
loop-node-preserved c =
    let k = c.loop-node.node in
    c.in_ok-push.ensures.items ∙ ap (λ nodes. nodes ++ k ∷ []) c.loop-node.invariant ∙ sym (places_more k)
