use Rattle.std.proofs.Common.{sym}
use Rattle.node_host.proofs.Exactly.{takes_nothing}
use Rattle.node_host.proofs.Moving.{takes_front}
use Rattle.node_host.proofs.node.HostNode.take_next.Goals as goal

pub returns-in-None-clause-exact : goal.returns-in-None-clause-exact
returns-in-None-clause-exact g c = λ s held told telling. takes_nothing told held (sym (c.in-None.ensures.front held telling))

pub returns-in-Some-clause-exact : goal.returns-in-Some-clause-exact
returns-in-Some-clause-exact g c = λ s held told telling. takes_front told held (c.in-Some.ensures.front held telling) (λ later. c.take_at.ensures.exact later s told)
