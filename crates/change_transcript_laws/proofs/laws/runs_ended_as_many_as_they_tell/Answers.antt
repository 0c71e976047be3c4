use Rattle.change_transcript_laws.proofs.NumberLaws.{runs_ended}
use Rattle.change_transcript_laws.proofs.laws.runs_ended_as_many_as_they_tell.Goals as goal

pub returns : goal.returns
returns c = record { ended = runs_ended }
