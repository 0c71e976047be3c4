use Rattle.std.proofs.Common.{◌∙◌, ap}
use Rattle.quiesce_core.specs.Rules.{is_taken}
use Rattle.quiesce_core.specs.State.{State, exchange}
use Rattle.quiesce_core.proofs.LegalLaws.{legal}
use Rattle.quiesce_core.proofs.StabilityLaws.{answers_stay, replies_stay, taken_ports_stay}
use Rattle.quiesce_core.proofs.step_laws.replies_stay.Goals as goal

pub returns : goal.returns
returns c = record {
  answered = λ s t e p w k step there never. ap (λ (u : State). exchange u p) step.changed ∙ answers_stay s e w k (legal s e step.allowed) p there never;
  in_more = λ s t e p w k step there never. ap (λ (u : State). exchange u p) step.changed ∙ replies_stay s e w k (legal s e step.allowed) p there never;
  taken = λ s t e p w k step there never. ap (λ (u : State). is_taken u p) step.changed ∙ taken_ports_stay s e w k (legal s e step.allowed) p there never;
}
