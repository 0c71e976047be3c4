use Rattle.std.proofs.Common.{◌∙◌, sym}
use Rattle.std.proofs.lemmas.Option.{same_Some}
use Rattle.quiesce_core.proofs.RunLaws.{runs_are_consistent, runs_are_well_formed}
use Rattle.quiesce_core.specs.Runs.{state_after}
use Rattle.quiesce_laws.proofs.NodeSwapLaws as laws
use Rattle.quiesce_laws.proofs.SwapLemmas.{may_be_swapped}
use Rattle.quiesce_laws.proofs.nodes.nodes_are_independent.Goals as goal

pub returns : goal.returns
returns c = record {
  in_states = laws.nodes_are_independent;
  in_runs = λ es m n e f run a b two.
      may_be_swapped es e f run a.allowed b.allowed
      (laws.nodes_are_independent (state_after es) m n e f (runs_are_well_formed es run) (runs_are_consistent es run) a b two)
      (λ k first second. two (same_Some m k (sym a.done_by_it ∙ first) ∙ sym (same_Some n k (sym b.done_by_it ∙ second))));
}
