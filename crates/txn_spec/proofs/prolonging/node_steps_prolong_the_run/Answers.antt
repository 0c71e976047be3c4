use Rattle.txn_spec.proofs.NodeStepLaws.{ask_prolongs, begin_prolongs, call_prolongs, end_prolongs, give_prolongs, hear_prolongs, load_prolongs, look_prolongs, more_prolongs, see_prolongs, take_prolongs}
use Rattle.txn_spec.proofs.SeatStepLaws.{adopt_prolongs}
use Rattle.txn_spec.proofs.prolonging.node_steps_prolong_the_run.Goals as goal

pub returns : goal.returns
returns c = record {
  loads = load_prolongs;
  begins = λ slots id p v old n to may opened leads unspent. begin_prolongs n p v old may to opened leads unspent slots id;
  takes = take_prolongs;
  gives = give_prolongs;
  sees = see_prolongs;
  ends = λ id p n may. end_prolongs n p may id;
  mores = more_prolongs;
  asks = λ id p v n may. ask_prolongs n p v may id;
  hears = hear_prolongs;
  misses = λ slots id p v n may. look_prolongs n p v may slots id;
  calls = λ id p v word n may was fit found. call_prolongs n p v may word was fit found id;
  adopts = adopt_prolongs;
}
