use Rattle.quiesce_core.proofs.ConfigurationLaws.{target_kept, target_linked, target_made, target_removed, target_unlinked}
use Rattle.quiesce_core.proofs.configuration_laws.targets_change.Goals as goal

pub returns : goal.returns
returns c = record { linked = target_linked; unlinked = target_unlinked; made = target_made; removed = target_removed; kept = target_kept }
