use Rattle.txn_spec.proofs.RuleLaws.{drained_until, noted_drained, noted_settled, settled_until}
use Rattle.txn_spec.proofs.laws.notes_tell_of_the_state.Goals as goal

pub returns : goal.returns
returns c = record { drained = noted_drained; settled = noted_settled; drained_until = drained_until; settled_until = settled_until }
