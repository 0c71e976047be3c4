use Rattle.change_transcript_laws.proofs.FollowLaws.{fair_transcript}
use Rattle.change_transcript_laws.proofs.LawfulLaws.{drained}
use Rattle.change_transcript_laws.proofs.laws.what_is_told_as_drained_is_so.Goals as goal

pub returns : goal.returns
returns c = record { drained = λ alone statements t m ms x j is_of. drained t m ms (fair_transcript alone statements t x) j is_of }
