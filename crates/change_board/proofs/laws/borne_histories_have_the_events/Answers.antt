use Rattle.change_board.proofs.BearingLaws.{borne_events, events_told}
use Rattle.change_board.proofs.laws.borne_histories_have_the_events.Goals as goal

pub returns : goal.returns
returns c = record { borne = borne_events; told = events_told }
