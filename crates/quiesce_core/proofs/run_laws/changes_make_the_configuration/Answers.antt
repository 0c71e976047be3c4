use Rattle.quiesce_core.proofs.RunLaws.{changes_make_the_configuration, effect_config, node_events_keep_the_configuration}
use Rattle.quiesce_core.proofs.run_laws.changes_make_the_configuration.Goals as goal

pub returns : goal.returns
returns c = record { next = effect_config; kept = node_events_keep_the_configuration; after = changes_make_the_configuration }
