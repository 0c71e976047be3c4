use Rattle.crowd_laws.specs.Acts.{world_after}
use Rattle.crowd_laws.proofs.Going.{holds_then}
use Rattle.crowd_laws.proofs.Holding.{stand_all}
use Rattle.crowd_laws.proofs.Renumbering.{all_renumbered}
use Rattle.crowd_laws.proofs.TakingOver.{over_then}
use Rattle.crowd_laws.proofs.starting.crowds_go_over.Goals as goal

pub returns : goal.returns
returns c = record {
  meanwhile = λ w acts all_ alone may. stand_all w acts alone all_ may;
  stands = λ w acts s may t m. (holds_then w acts s may).stands t m;
  renumbered = λ k d node port ts sound r all_ t m. all_renumbered k d node port ts sound r all_ t m;
  taken_over = λ w acts g shut s may is_graph few_nodes few_ports. over_then (world_after w acts) g shut (holds_then w acts s may) is_graph few_nodes few_ports;
}
