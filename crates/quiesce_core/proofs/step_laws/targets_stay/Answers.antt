use Rattle.std.proofs.Common.{◌∙◌, ap}
use Rattle.quiesce_core.specs.State.{State, target}
use Rattle.quiesce_core.proofs.LegalLaws.{legal}
use Rattle.quiesce_core.proofs.StabilityLaws.{busy_ports_stay, serving_nodes_stay}
use Rattle.quiesce_core.proofs.step_laws.targets_stay.Goals as goal

pub returns : goal.returns
returns c = record {
  busy = λ s t e p w k step busy. ap (λ (u : State). target u.config p) step.changed ∙ busy_ports_stay s e w k (legal s e step.allowed) p busy;
  serving = λ s t e n p v w step serves owned. ap (λ (u : State). target u.config p) step.changed ∙ serving_nodes_stay s e w (legal s e step.allowed) n v serves p owned;
}
