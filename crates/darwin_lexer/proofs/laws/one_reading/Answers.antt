use Rattle.darwin_lexer.proofs.TokensLaws.{one_parting, one_first_fault, never_both, always_one}
use Rattle.darwin_lexer.proofs.laws.one_reading.Goals as goal

pub returns : goal.returns
returns c = record { one_parting = one_parting; one_fault = one_first_fault; never_both = never_both; always_one = always_one }
