use Rattle.std.proofs.Common.{length}
use Rattle.darwin_lexer.proofs.OrderLemmas.{in_order, parted, fault_stands, first_fault}
use Rattle.darwin_lexer.proofs.laws.tokens_in_order.Goals as goal

pub returns : goal.returns
returns c = record {
  in_order = λ text tokens. in_order text 0 (length text) tokens;
  only_those = λ text tokens. parted text 0 (length text) tokens;
  fault = fault_stands;
  only_that = first_fault;
}
