use Rattle.config_graph.proofs.TextLemmas.{port_lines_more}
use Rattle.config_graph.proofs.writing.write_ports.Goals as goal

pub loop-require-preserved : goal.loop-require-preserved
loop-require-preserved c =
    port_lines_more c.args.graph.now c.args.index c.args.node.now c.loop-require.require _ _ _ c.loop-require.invariant c.in_ok-write_port.ensures
