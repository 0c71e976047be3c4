use Rattle.change_transcript_laws.proofs.FollowLaws.{follows}
use Rattle.change_transcript_laws.proofs.laws.transcripts_follow_their_scripts.Goals as goal

pub returns : goal.returns
returns c = record { follows = follows }
