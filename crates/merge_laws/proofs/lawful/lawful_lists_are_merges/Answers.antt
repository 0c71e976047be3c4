use Rattle.merge_laws.proofs.LawfulLemmas as laws
use Rattle.merge_laws.proofs.LogLemmas.{has_roots_apart}
use Rattle.merge_laws.proofs.lawful.lawful_lists_are_merges.Goals as goal

pub returns : goal.returns
returns c = record { merge = laws.lawful_lists_are_merges; logs = laws.has_logs; roots = has_roots_apart }
