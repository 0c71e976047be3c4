use Rattle.change_transcript_laws.proofs.FollowLaws.{fair_transcript}
use Rattle.change_transcript_laws.proofs.LawfulLaws.{runs}
use Rattle.change_transcript_laws.proofs.laws.joined_members_are_a_run.Goals as goal

pub returns : goal.returns
returns c = record { runs = λ alone statements t m ms x j is_of. runs t m ms (fair_transcript alone statements t x) j is_of }
