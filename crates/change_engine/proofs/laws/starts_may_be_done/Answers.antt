use Rattle.change_engine.proofs.Beginning.{may_start}
use Rattle.change_engine.proofs.laws.starts_may_be_done.Goals as goal

pub returns : goal.returns
returns c = λ g sound nodes few. may_start g (λ more_ left e run is. c.starts_can_not_fail.ensures.allowed g more_ left e sound nodes few run is)
