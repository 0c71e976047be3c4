use Rattle.std.proofs.Common.{◌+◌, nat_lt, refl}
use Rattle.crowd_gate.proofs.GateLemmas.{shut_}
use Rattle.crowd_gate.proofs.gate.Gate.close.Goals as goal

pub returns : goal.returns
returns c w p g o = shut_ w p c.args.self.now.number c.requires (nat_lt 2147483648 (c.args.self.now.number + 2147483648)) refl g o
