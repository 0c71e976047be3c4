use Rattle.quiesce_core.proofs.StabilityLaws.{busy_is_live}
use Rattle.quiesce_core.proofs.StateLaws.{busy_made}
use Rattle.quiesce_core.proofs.step_laws.busy_ports_are_linked_and_live.Goals as goal

pub returns : goal.returns
returns c = record { made = busy_made; linked = λ s p k busy. k.linked p busy; live = busy_is_live }
