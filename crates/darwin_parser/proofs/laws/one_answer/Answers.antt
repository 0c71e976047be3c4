use Rattle.darwin_parser.proofs.UnitLaws.{always_one, not_both, not_too_nested, not_unexpected, one_too_nested, one_unexpected}
use Rattle.darwin_parser.proofs.laws.one_answer.Goals as goal

pub returns-clause-always_one : goal.returns-clause-always_one
returns-clause-always_one c = λ text tokens. always_one text tokens

pub returns-clause-unit_alone : goal.returns-clause-unit_alone
returns-clause-unit_alone c = λ text tokens tree n unit. (not_unexpected text tokens tree n unit, not_too_nested text tokens tree n unit)

pub returns-clause-unexpected_alone : goal.returns-clause-unexpected_alone
returns-clause-unexpected_alone c = λ text tokens m n is. (not_both text tokens m n is, one_unexpected text tokens m n is)

pub returns-clause-too_nested_alone : goal.returns-clause-too_nested_alone
returns-clause-too_nested_alone c = λ text tokens m n is other. one_too_nested text tokens m n is other
