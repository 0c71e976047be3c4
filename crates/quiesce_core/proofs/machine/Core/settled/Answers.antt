use Rattle.std.proofs.Common.{subst}
use Rattle.std.specs.Prelude.{◌↔◌, IsTrue}
use Rattle.quiesce_core.specs.Settled.{Settled}
use Rattle.quiesce_core.specs.Tables.{state_of}
use Rattle.quiesce_core.proofs.SettledLaws.{settled_iff}
use Rattle.quiesce_core.proofs.machine.Core.settled.Goals as goal

pub returns-clause-settled : goal.returns-clause-settled
returns-clause-settled c =
    subst (λ m. IsTrue c.is_settled.result ↔ Settled m.state c.args.node) c.self.view_is
    (settled_iff (state_of c.self.inside.tables) c.self.invariant.well_formed.sound c.args.node c.is_settled.result c.is_settled.ensures)
