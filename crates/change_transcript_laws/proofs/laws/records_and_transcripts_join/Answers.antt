use Rattle.change_transcript_laws.proofs.LawfulLaws.{join}
use Rattle.change_transcript_laws.proofs.laws.records_and_transcripts_join.Goals as goal

pub returns : goal.returns
returns c = record { join = join }
