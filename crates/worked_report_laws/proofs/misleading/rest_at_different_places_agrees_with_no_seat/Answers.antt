use Rattle.worked_report_laws.proofs.EarlyLemmas.{early, refuted}
use Rattle.worked_report_laws.proofs.misleading.rest_at_different_places_agrees_with_no_seat.Goals as goal

pub returns : goal.returns
returns c = record { early = early; refuted = refuted }
