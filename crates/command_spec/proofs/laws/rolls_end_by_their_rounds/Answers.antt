use Rattle.command_spec.proofs.Wanting.{roll_ends, roll_pends}
use Rattle.command_spec.proofs.laws.rolls_end_by_their_rounds.Goals as goal

pub returns : goal.returns
returns c = record {
  ends = λ run within call target own old new written t. roll_ends t.given_up own t.ended;
  pending = λ run within call target own old new written t. roll_pends t.given_up own t.ended;
}
