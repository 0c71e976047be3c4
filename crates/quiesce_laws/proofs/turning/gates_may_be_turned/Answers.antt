use Rattle.quiesce_core.specs.Runs.{state_after}
use Rattle.quiesce_laws.proofs.GateLaws.{close_allowed, closed_at, open_at, reopen_allowed}
use Rattle.quiesce_laws.proofs.MemberLaws.{contains_in, in_contains}
use Rattle.quiesce_laws.proofs.TurningLaws.{live_port}
use Rattle.quiesce_laws.proofs.turning.gates_may_be_turned.Goals as goal

pub returns-clause-closed : goal.returns-clause-closed
returns-clause-closed c = λ es more_ left e ports live run is. close_allowed es ports (λ p i. live_port (state_after es).config p (live p (in_contains ports p i))) more_ left e run is

pub returns-clause-reopened : goal.returns-clause-reopened
returns-clause-reopened c = λ es more_ left e ports live run is. reopen_allowed es ports (λ p i. live_port (state_after es).config p (live p (in_contains ports p i))) more_ left e run is

pub returns-clause-are_closed : goal.returns-clause-are_closed
returns-clause-are_closed c = λ es more_ ports live is p i. closed_at es ports (λ q j. live_port (state_after es).config q (live q (in_contains ports q j))) more_ is p (contains_in ports p i)

pub returns-clause-are_open : goal.returns-clause-are_open
returns-clause-are_open c = λ es more_ ports live is p i. open_at es ports (λ q j. live_port (state_after es).config q (live q (in_contains ports q j))) more_ is p (contains_in ports p i)
