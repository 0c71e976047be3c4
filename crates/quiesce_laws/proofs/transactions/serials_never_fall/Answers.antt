use Rattle.std.proofs.Common.{◌≤◌, sym, subst}
use Rattle.quiesce_core.specs.State.{State, exchange}
use Rattle.quiesce_core.proofs.LegalLaws.{legal}
use Rattle.quiesce_laws.proofs.ExchangeLaws.{serials_grow}
use Rattle.quiesce_laws.proofs.transactions.serials_never_fall.Goals as goal

pub returns : goal.returns
returns c s t e w k step p =
    subst (λ (u : State). (exchange s p).serial ≤ (exchange u p).serial) (sym step.changed) (serials_grow s e w k (legal s e step.allowed) p)
