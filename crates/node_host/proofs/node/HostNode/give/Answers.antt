use Rattle.std.proofs.Common.{rules, ◌∙◌, [], ◌∷◌, Some, ap}
use Rattle.quiesce_core.specs.declared.event.Event.TheVariants as event
use Rattle.node_host.proofs.EventLaws.{GoesOn, did_by, goes_on}
use Rattle.node_host.proofs.Exactly.{gives_next}
use Rattle.node_host.proofs.Permitted.{give_folds, may_give, serial_is}
use Rattle.node_host.specs.Acts.{state_of}
use Rattle.node_host.proofs.node.HostNode.give.Given.{Over}
use Rattle.node_host.proofs.node.HostNode.give.Goals as goal
use Rattle.node_host.proofs.node.HostNode.give.Goals.{After-keep}

pub give-requires-clause-may : goal.give-requires-clause-may
give-requires-clause-may g c = may_give c.args.self.now.hosted c.args.served c.requires.serving.served c.requires.serving.heard c.requires.serving.ended c.args.value c.requires.small

pub given-requires : goal.given-requires
given-requires g c = record { gave = (c.args.value, c.requires.gives) }

went : (g : Over) (c : After-keep g) → GoesOn g.G.PortGate c.args.gate.now c.give.new.self c.args.self.now c.given.new.self c.give.new.seat c.keep.new.log.items c.keep.new.known c.keep.result (event.Give c.args.served.port c.args.served.serial c.args.value)
went g c =
    let h = c.args.self.now in
    goes_on (c.give.ensures.node ∙ c.requires.can.node) (g.met.G.PortGate.within c.give.new.self c.give.new.seat c.give.ensures.fits).1
    (did_by c.requires.can.node (ap (λ k. event.Give c.args.served.port k c.args.value ∷ []) (serial_is h.hosted c.args.served c.requires.serving.served)) c.give.ensures.does)
    tt (give_folds h.first_port c.args.served.port c.args.served.serial c.args.value (state_of h) _ c.requires.gives c.given.ensures.state) c.keep.ensures.event c.keep.ensures.logged c.keep.ensures.known

pub invariant_of-self-clause-hosted : goal.invariant_of-self-clause-hosted
invariant_of-self-clause-hosted g c = (went g (goal.at.invariant_of-self-clause-hosted g c).After-keep).hosted

pub returns-clause-acts : goal.returns-clause-acts
returns-clause-acts g c = let w = went g (goal.at.returns-clause-acts g c).After-keep in search (rules, w.node, w.moved)

pub returns-clause-exact : goal.returns-clause-exact
returns-clause-exact g c =
    let w = went g (goal.at.returns-clause-exact g c).After-keep in
    λ s told. ap Some w.is ∙ gives_next told c.args.served.port c.args.served.serial c.args.value _ w.led
