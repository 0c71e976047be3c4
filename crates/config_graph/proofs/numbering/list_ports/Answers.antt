use Rattle.config_graph.proofs.NumberingLaws.{ports_more}
use Rattle.config_graph.proofs.numbering.list_ports.Goals as goal

pub loop-index-preserved : goal.loop-index-preserved
loop-index-preserved c =
    ports_more _ _ _ _ _ _ c.loop-index-test.true c.index-nodes-index.is c.requires_.ensures c.loop-index.invariant c.in_ok-push_ports.ensures
