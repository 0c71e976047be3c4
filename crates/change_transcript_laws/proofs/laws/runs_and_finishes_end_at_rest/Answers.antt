use Rattle.change_transcript_laws.proofs.RestLaws.{numbers_on_threads, rested_at}
use Rattle.change_transcript_laws.proofs.laws.runs_and_finishes_end_at_rest.Goals as goal

pub returns : goal.returns
returns c = record { numbers = numbers_on_threads; at_once = rested_at }
