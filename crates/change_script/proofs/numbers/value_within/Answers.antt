use Rattle.std.proofs.Common.{arith}
use Rattle.change_script.proofs.numbers.value_within.Goals as goal
use Rattle.base.proofs.DecimalLaws.{digits_value_next}

pub returns-then-more-from : goal.returns-then-more-from
returns-then-more-from c = let next = digits_value_next c.args.digits.now c.loop-digit.digit-index c.requires (omega arith) in λ small. omega arith

pub loop-digit-preserved : goal.loop-digit-preserved
loop-digit-preserved c = let next = digits_value_next c.args.digits.now c.loop-digit.digit-index c.requires (omega arith) in record { value = omega arith; small = omega arith }
