use Rattle.change_transcript_laws.proofs.FoldLaws.{folds}
use Rattle.change_transcript_laws.proofs.FollowLaws.{fair_transcript}
use Rattle.change_transcript_laws.proofs.laws.logs_have_folds.Goals as goal

pub returns : goal.returns
returns c = record { folds = λ alone statements t m ms report x j is_of has. folds t m ms (fair_transcript alone statements t x) j is_of report has }
