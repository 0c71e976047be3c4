use Rattle.change_transcript_laws.proofs.EndLaws.{unfinished}
use Rattle.change_transcript_laws.proofs.laws.reports_name_what_is_undone.Goals as goal

pub returns : goal.returns
returns c = record { unfinished = unfinished; status = λ t m report has. has.status_is }
