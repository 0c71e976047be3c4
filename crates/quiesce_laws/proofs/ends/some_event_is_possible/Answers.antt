use Rattle.quiesce_laws.proofs.Onward.{possible_if, possible_after}
use Rattle.quiesce_laws.proofs.ends.some_event_is_possible.Goals as goal

pub returns : goal.returns
returns c = record { by_state = possible_if; in_runs = possible_after }
