use Rattle.std.proofs.Common.{ap, ◌∙◌}
use Rattle.std.specs.Prelude.{bit_xor}
use Rattle.quiesce_word.specs.Words.{pack}
use Rattle.quiesce_word.proofs.OperandLaws.{call_turns}
use Rattle.quiesce_word.proofs.operands.call_operand.Goals as goal

pub returns-clause-turns : goal.returns-clause-turns
returns-clause-turns c w f was was_consequent was_serial was_value =
    ap (bit_xor (pack w)) c.difference_of.ensures
    ∙ call_turns c.args.loaded c.args.value c.requires.fits c.requires.serial c.requires.value w f was was_consequent was_serial was_value
