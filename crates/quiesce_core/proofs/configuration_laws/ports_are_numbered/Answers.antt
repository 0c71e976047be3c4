use Rattle.quiesce_core.proofs.ConfigurationLaws.{linked_made, port_is}
use Rattle.quiesce_core.proofs.configuration_laws.ports_are_numbered.Goals as goal

pub returns : goal.returns
returns c = record { numbers = port_is; linked = linked_made }
