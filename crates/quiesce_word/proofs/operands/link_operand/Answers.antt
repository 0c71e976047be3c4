use Rattle.std.proofs.Common.{ap, ◌∙◌}
use Rattle.std.specs.Prelude.{bit_xor}
use Rattle.quiesce_word.specs.Words.{pack}
use Rattle.quiesce_word.proofs.OperandLaws.{link_turns, unlink_turns}
use Rattle.quiesce_word.proofs.operands.link_operand.Goals as goal

pub returns-clause-link : goal.returns-clause-link
returns-clause-link c w f was = ap (bit_xor (pack w)) c.difference_of.ensures ∙ link_turns c.args.target c.requires w f was

pub returns-clause-unlink : goal.returns-clause-unlink
returns-clause-unlink c w f was = ap (bit_xor (pack w)) c.difference_of.ensures ∙ unlink_turns c.args.target c.requires w f was
