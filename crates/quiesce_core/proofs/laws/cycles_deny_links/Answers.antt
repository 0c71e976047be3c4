use Rattle.quiesce_core.proofs.LinkedCycleLaws.{cycles_deny_links}
use Rattle.quiesce_core.proofs.laws.cycles_deny_links.Goals as goal

pub returns : goal.returns
returns c s p n x g alive named live unlinked provision settled graph =
    cycles_deny_links s p n x live unlinked provision settled alive named g graph
