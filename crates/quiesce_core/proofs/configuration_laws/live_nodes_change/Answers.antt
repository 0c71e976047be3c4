use Rattle.quiesce_core.proofs.ConfigurationLaws.{live_made_then, live_removed_then, slots_stay}
use Rattle.quiesce_core.proofs.configuration_laws.live_nodes_change.Goals as goal

pub returns : goal.returns
returns c = record { made = live_made_then; removed = live_removed_then; kept = slots_stay }
