use Rattle.quiesce_word.proofs.OperandLaws.{and_opens, or_closes}
use Rattle.quiesce_word.proofs.operands.closed_bits_turn.Goals as goal

pub returns : goal.returns
returns c = record { closing = or_closes; opening = and_opens }
