use Rattle.change_transcript_laws.proofs.BearingLaws.{bears}
use Rattle.change_transcript_laws.proofs.laws.records_bear_their_reports.Goals as goal

pub returns : goal.returns
returns c = record { bears = bears }
