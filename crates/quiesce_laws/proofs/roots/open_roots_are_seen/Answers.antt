use Rattle.quiesce_laws.proofs.RootsSeenLaws.{open_root_is_seen}
use Rattle.quiesce_laws.proofs.roots.open_roots_are_seen.Goals as goal

pub returns : goal.returns
returns c es p k run = open_root_is_seen es p k run
