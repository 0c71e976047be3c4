use Rattle.quiesce_word.proofs.OperandLaws.{xor_turns}
use Rattle.quiesce_word.proofs.operands.differences_turn_fields.Goals as goal

pub returns : goal.returns
returns c = xor_turns
