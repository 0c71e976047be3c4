use Rattle.change_transcript_laws.proofs.FollowLaws.{fair_transcript}
use Rattle.change_transcript_laws.proofs.MergeLaws.{merge}
use Rattle.change_transcript_laws.proofs.laws.logs_and_history_merge.Goals as goal

pub returns : goal.returns
returns c = record { merge = λ alone statements t m ms report x j is_of has. merge t m ms (fair_transcript alone statements t x) j is_of report has }
