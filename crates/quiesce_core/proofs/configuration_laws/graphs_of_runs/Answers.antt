use Rattle.quiesce_core.specs.Runs.{state_after}
use Rattle.quiesce_core.proofs.GraphExistsLaws.{graphs_are_sound, has_graph}
use Rattle.quiesce_core.proofs.RunLaws.{nodes_are_named, runs_are_well_formed}
use Rattle.quiesce_core.proofs.configuration_laws.graphs_of_runs.Goals as goal

pub returns : goal.returns
returns c = record {
  there = λ es h. has_graph (state_after es).config (runs_are_well_formed es h).sound (nodes_are_named es h);
  sound = graphs_are_sound;
}
