use Rattle.change_round_laws.proofs.StopLemmas.{stops_end}
use Rattle.change_round_laws.proofs.ending.stops_come_to_an_end.Goals as goal

pub returns : goal.returns
returns c = record { end = stops_end c.rounds_move_what_is_open.ensures.idle c.rest_bounds_all.ensures.all }
