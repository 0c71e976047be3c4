use Rattle.std.proofs.Common.{sym, subst}
use Rattle.quiesce_core.specs.State.{State}
use Rattle.quiesce_laws.specs.Configurations.{Extends}
use Rattle.quiesce_core.proofs.LegalLaws.{legal}
use Rattle.quiesce_laws.proofs.ExtensionLaws.{extends_further, extends_next}
use Rattle.quiesce_laws.proofs.configurations.nodes_and_ports_stay.Goals as goal

pub returns : goal.returns
returns c = record {
  steps = λ s t e step. subst (λ (u : State). Extends s.config u.config) (sym step.changed) (extends_next s e (legal s e step.allowed));
  runs = extends_further;
}
