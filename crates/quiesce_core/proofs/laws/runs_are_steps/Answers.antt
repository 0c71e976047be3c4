use Rattle.quiesce_core.proofs.StepsLaws.{both, end_is, parted, run_is_steps}
use Rattle.quiesce_core.proofs.laws.runs_are_steps.Goals as goal

pub returns : goal.returns
returns c = record {
  run = run_is_steps;
  end = end_is;
  between = λ s u es more_. (parted s u es more_, λ w. both s w.0 u es more_ w.1 w.2);
}
