use Rattle.elaborator.specs.Expansion.{instance_in}
use Rattle.elaborator.specs.Ports.{named_of}
use Rattle.elaborator.proofs.PortLemmas.{same_instance, bad-sized}
use Rattle.elaborator.proofs.ports.Named.size.Goals as goal

pub returns : goal.returns
returns c = λ i at declared.
    let self = c.args.self.now in
    let x = c.instance.result.now in
    bad-sized (instance_in x) x.port_sizes.items (named_of i self) self.id.port c.port_size.result c.instance.ensures.sizes
    (same_instance c.args.expansion.now self.id.instance x i c.instance.ensures.made at) declared c.port_size.ensures
