use Rattle.std.proofs.Common.{sym, subst}
use Rattle.quiesce_core.specs.State.{State}
use Rattle.quiesce_laws.specs.Configurations.{HasNoNewLink}
use Rattle.quiesce_core.proofs.LegalLaws.{legal}
use Rattle.quiesce_laws.proofs.ExtensionLaws.{no_link_further, no_new_link, reached_further}
use Rattle.quiesce_laws.proofs.configurations.links_are_made_by_link_alone.Goals as goal

pub returns : goal.returns
returns c = record {
  steps = λ s t e step other. subst (λ (u : State). HasNoNewLink s.config u.config) (sym step.changed) (no_new_link s e (legal s e step.allowed) other);
  links = no_link_further;
  reach = reached_further;
}
