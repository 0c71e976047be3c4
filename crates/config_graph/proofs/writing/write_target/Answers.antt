use Rattle.config_graph.specs.Graph.{provides_of}
use Rattle.config_graph.proofs.NumberingLaws.{within_list}
use Rattle.config_graph.proofs.writing.write_target.Goals as goal

pub node-node-requires : goal.node-node-requires
node-node-requires c =
    let target = c.in-Some.field-0 in
    within_list provides_of c.args.graph.now.nodes target.node target.provide (c.requires target c.in-Some.is)
