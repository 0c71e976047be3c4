use Rattle.change_transcript_laws.proofs.EndFolds.{have_folds}
use Rattle.change_transcript_laws.proofs.StaysLaws.{none_unfinished}
use Rattle.change_transcript_laws.proofs.laws.nothing_is_undone_behind_rest.Goals as goal

pub returns : goal.returns
returns c = record { undone = none_unfinished; folds = have_folds }
