use Rattle.merge_laws.proofs.TellingLemmas.{histories_are_told}
use Rattle.merge_laws.proofs.following.histories_tell_their_closes.Goals as goal

pub returns : goal.returns
returns c = histories_are_told
