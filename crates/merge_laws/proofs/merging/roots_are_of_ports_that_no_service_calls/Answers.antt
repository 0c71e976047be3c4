use Rattle.merge_laws.proofs.RootPortLemmas.{roots_are_free}
use Rattle.merge_laws.proofs.merging.roots_are_of_ports_that_no_service_calls.Goals as goal

pub returns : goal.returns
returns c = roots_are_free
