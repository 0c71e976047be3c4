use Rattle.merge_laws.proofs.MergeLemmas as merges
use Rattle.merge_laws.proofs.going.ways_are_merges.Goals as goal

pub returns : goal.returns
returns c = record { merge = merges.ways_are_merges; logs = merges.logs_are_done }
