use Rattle.std.proofs.Common.{◌-◌, ◌==◌, refl}
use Rattle.crowd_gate.proofs.GateLemmas.{left_}
use Rattle.crowd_gate.proofs.gate.Gate.leave.Goals as goal

pub returns : goal.returns
returns c w p name g e = left_ w p name c.args.self.now.number c.requires (c.args.self.now.number - 1 == 2147483648) refl g e
