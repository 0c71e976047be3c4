use Rattle.std.proofs.Common.{◌∙◌, ◌++◌}
use Rattle.txn_gate.proofs.change_calls.fresh_words.Goals as goal

pub returns : goal.returns
returns c = c.in_ok-extend_from_slice.ensures.items ∙ (λ i. c.in_ok-words.ensures i ++ (c.deref.ensures.value ∙ c.in_ok-slots.ensures) i)
