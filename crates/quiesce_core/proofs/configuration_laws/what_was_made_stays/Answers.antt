use Rattle.quiesce_core.proofs.ConfigurationLaws.{owner_kept, removed_stays, require_kept, slot_was}
use Rattle.quiesce_core.proofs.configuration_laws.what_was_made_stays.Goals as goal

pub returns : goal.returns
returns c = record { nodes = slot_was; owners = owner_kept; requirements = require_kept; removed = removed_stays }
