use Rattle.std.proofs.Common.{sym}
use Rattle.merge_laws.proofs.GuidedLemmas.{found}
use Rattle.merge_laws.proofs.going.guided_merges_are_found.Goals as goal

pub returns : goal.returns
returns c = λ m history logs cs guided run lines_are has. found m history logs cs guided run lines_are (λ k. sym (has k))
