use Rattle.txn_spec.proofs.SeatStepLaws.{give_out_prolongs, leave_prolongs, new_seat_prolongs, sight_prolongs, take_in_prolongs}
use Rattle.txn_spec.proofs.prolonging.seat_steps_prolong_the_run.Goals as goal

pub returns : goal.returns
returns c = record {
  new_seats = new_seat_prolongs;
  takes_in = λ id other nodes c n. take_in_prolongs id nodes c other n;
  sights = λ id other nodes c n. sight_prolongs id nodes c other n;
  gives_out = give_out_prolongs;
  leaves = leave_prolongs;
}
