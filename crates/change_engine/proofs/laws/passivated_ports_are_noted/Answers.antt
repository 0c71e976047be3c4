use Rattle.change_engine.proofs.Noting.{passivated_noted}
use Rattle.change_engine.proofs.laws.passivated_ports_are_noted.Goals as goal

pub returns : goal.returns
returns c = passivated_noted
