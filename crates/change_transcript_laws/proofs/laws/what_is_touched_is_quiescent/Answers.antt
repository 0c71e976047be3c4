use Rattle.change_spec.proofs.RunningLaws.{quiet}
use Rattle.change_transcript_laws.proofs.FollowLaws.{fair_transcript}
use Rattle.change_transcript_laws.proofs.LawfulLaws.{runs}
use Rattle.change_transcript_laws.proofs.laws.what_is_touched_is_quiescent.Goals as goal

pub returns : goal.returns
returns c = record { quiescent = λ alone statements t m ms x j is_of. quiet ms (runs t m ms (fair_transcript alone statements t x) j is_of) }
