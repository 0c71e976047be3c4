use Rattle.change_spec.proofs.HandedLemmas.{chain_ends, handed_over}
use Rattle.change_spec.proofs.laws.a_moved_state_is_the_last_one.Goals as goal

pub returns : goal.returns
returns c = record { handed = handed_over; ends = chain_ends }
