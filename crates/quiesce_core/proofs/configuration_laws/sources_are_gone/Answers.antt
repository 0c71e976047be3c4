use Rattle.quiesce_core.proofs.SourceLaws.{sources_are_gone, sources_kept, sources_started}
use Rattle.quiesce_core.proofs.configuration_laws.sources_are_gone.Goals as goal

pub returns : goal.returns
returns c = record { runs = sources_are_gone; started = sources_started; steps = sources_kept }
