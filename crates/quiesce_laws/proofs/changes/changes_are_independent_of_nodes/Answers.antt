use Rattle.quiesce_core.proofs.RunLaws.{runs_are_consistent, runs_are_well_formed, no_node_if}
use Rattle.quiesce_core.specs.Runs.{state_after}
use Rattle.quiesce_laws.proofs.ChangeSwapLaws as laws
use Rattle.quiesce_laws.proofs.SwapLemmas.{may_be_swapped}
use Rattle.quiesce_laws.proofs.changes.changes_are_independent_of_nodes.Goals as goal

pub returns : goal.returns
returns c = record {
  in_states = laws.changes_are_independent_of_nodes;
  in_runs = λ es n x e run a b apart.
      may_be_swapped es x e run a.allowed b.allowed
      (laws.changes_are_independent_of_nodes (state_after es) n x e (runs_are_well_formed es run) (runs_are_consistent es run) a b apart)
      (λ k first second. cc (first, no_node_if (state_after es) x a.of_change));
}
