use Rattle.merge_laws.proofs.GoneLemmas.{moved_rest, removed_rest}
use Rattle.merge_laws.proofs.deciding.removed_nodes_serve_nothing.Goals as goal

pub returns : goal.returns
returns c = record { removed = removed_rest; moved = moved_rest }
