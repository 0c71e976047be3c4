use Rattle.std.proofs.Common.{arith, ◌∙◌}
use Rattle.config_graph.proofs.NumberingLaws.{length-starts, total_is}
use Rattle.config_graph.proofs.numbering.Numbering.provision_count.Goals as goal

pub index-requires : goal.index-requires
index-requires c =
    let nodes = c.self.inside.nodes in
    omega (arith, nodes.ok.0, c.self.inside.starts.ok.0, length-starts nodes.items c.self.inside.starts.items c.self.invariant.starts_are)

pub returns : goal.returns
returns c =
    total_is _ _ _ _ c.self.view_is c.self.invariant _ _ (c.len.ensures ∙ c.self.inside.nodes.ok.0) c.index.ensures
