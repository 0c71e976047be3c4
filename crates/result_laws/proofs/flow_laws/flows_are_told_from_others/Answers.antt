use Rattle.result_laws.proofs.WorkedFlows.{another_is_wrong, items_there, mixed_is_apart, mixed_is_table, philosopher_is_not, short_is_wrong, teller_is_not}
use Rattle.result_laws.proofs.flow_laws.flows_are_told_from_others.Goals as goal

pub returns : goal.returns
returns c = record { apart = mixed_is_apart; teller = teller_is_not; table = mixed_is_table; philosopher = philosopher_is_not; items = items_there; short = short_is_wrong; another = another_is_wrong }
