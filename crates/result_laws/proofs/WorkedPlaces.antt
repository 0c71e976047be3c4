-- What is held and under way at places of small runs.
use Rattle.std.proofs.Common.{◌≡◌, true, false, refl}
use Rattle.quiesce_core.specs.Reach.{has_no_cycle, reaches}
use Rattle.quiesce_core.specs.Runs.{IsRun}
use Rattle.quiesce_core.proofs.RunLaws.{run_if}
use Rattle.result_laws.specs.Carrying.{amount, carried}
use Rattle.result_laws.specs.Flows.{one}
use Rattle.result_laws.specs.Holding.{holds}
use Rattle.result_laws.specs.UnderWay.{of_nodes, spent, stock, under_way}
use Rattle.result_laws.specs.WorkedPlaces.{asked_to_pay, between_accounts, counted, given, paid, put, taken, with_fork}

pub fork_run : IsRun with_fork
unfolding has_no_cycle reaches
fork_run = run_if with_fork refl

pub fork_held : holds with_fork 0 ≡ true
fork_held = refl

pub not_before : holds given 0 ≡ false
not_before = refl

pub not_the_other : holds with_fork 1 ≡ false
not_the_other = refl

pub item_run : IsRun counted
unfolding has_no_cycle reaches
item_run = run_if counted refl

pub item_held : of_nodes (stock one) taken ≡ 1
item_held = refl

pub none_sent : of_nodes (spent one) taken ≡ 0
none_sent = refl

pub one_under_way : under_way one taken ≡ 1
one_under_way = refl

pub one_sent : of_nodes (spent one) counted ≡ 1
one_sent = refl

pub none_under_way : under_way one counted ≡ 0
none_under_way = refl

-- ---- what a branch carries

pub bank_run : IsRun put
unfolding has_no_cycle reaches
bank_run = run_if put refl

pub none_carried_before : (of_nodes amount asked_to_pay ≡ 100) × (carried asked_to_pay 2 ≡ 0)
none_carried_before = (refl, refl)

pub carried_paid : (of_nodes amount paid ≡ 99) × (carried paid 2 ≡ 1)
carried_paid = (refl, refl)

pub carried_between : (of_nodes amount between_accounts ≡ 99) × (carried between_accounts 2 ≡ 1)
carried_between = (refl, refl)

pub none_carried_behind : (of_nodes amount put ≡ 100) × (carried put 2 ≡ 0)
none_carried_behind = (refl, refl)
