use Rattle.quiesce_laws.proofs.WalkLemmas as walks
use Rattle.quiesce_laws.proofs.cycles.cycles_are_closed_walks.Goals as goal

pub returns : goal.returns
returns c = record { found = λ d. walks.cycles_are_closed_walks d; ranked = λ d. walks.ranked_without_walks d }
