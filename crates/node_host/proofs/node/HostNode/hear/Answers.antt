use Rattle.std.proofs.Common.{rules, ◌∙◌, [], ◌∷◌, Some, refl, ap}
use Rattle.quiesce_core.specs.declared.event.Event.TheVariants as event
use Rattle.node_host.proofs.EventLaws.{GoesOn, GoesStill, did_by, goes_on, goes_still}
use Rattle.node_host.proofs.Exactly.{hears_heard, hears_not_yet}
use Rattle.node_host.proofs.InService.{waits_there}
use Rattle.node_host.proofs.Permitted.{hear_folds, may_hear, serial_is}
use Rattle.node_host.specs.Acts.{state_of}
use Rattle.node_host.proofs.node.HostNode.hear.Given.{Over}
use Rattle.node_host.proofs.node.HostNode.hear.Goals as goal
use Rattle.node_host.proofs.node.HostNode.hear.Goals.{After-keep, In-NotYet}

pub hear-requires-clause-may : goal.hear-requires-clause-may
hear-requires-clause-may g c = may_hear c.args.self.now.hosted c.args.served c.requires.served c.requires.waits

pub heard-requires-clause-waits : goal.heard-requires-clause-waits
heard-requires-clause-waits g c = waits_there c.args.self.now.hosted c.args.served c.requires.served c.requires.waits

still : (g : Over) (c : In-NotYet g) → GoesStill g.G.PortGate c.args.gate.now c.hear.new.self c.args.self.now c.hear.new.seat
still g c =
    goes_still (c.hear.ensures.node ∙ c.requires.can.node) (g.met.G.PortGate.within c.hear.new.self c.hear.new.seat c.hear.ensures.fits).1
    (did_by c.requires.can.node refl c.in-NotYet.ensures.does)

went : (g : Over) (c : After-keep g) → GoesOn g.G.PortGate c.args.gate.now c.hear.new.self c.args.self.now c.heard.new.self c.hear.new.seat c.keep.new.log.items c.keep.new.known c.keep.result (event.Hear c.args.served.port c.args.served.serial c.in-Heard.value)
went g c =
    let h = c.args.self.now in
    goes_on (c.hear.ensures.node ∙ c.requires.can.node) (g.met.G.PortGate.within c.hear.new.self c.hear.new.seat c.hear.ensures.fits).1
    (did_by c.requires.can.node (ap (λ k. event.Hear c.args.served.port k c.in-Heard.value ∷ []) (serial_is h.hosted c.args.served c.requires.served)) c.in-Heard.ensures.does)
    tt (hear_folds h.first_port c.args.served.port c.args.served.serial c.in-Heard.value (state_of h) _ (waits_there h.hosted c.args.served c.requires.served c.requires.waits) c.heard.ensures.state) c.keep.ensures.event c.keep.ensures.logged c.keep.ensures.known

pub invariant_of-self-clause-hosted : goal.invariant_of-self-clause-hosted
invariant_of-self-clause-hosted g c = (still g (goal.at.invariant_of-self-clause-hosted g c).In-NotYet).hosted

pub returns-in-NotYet-clause-acts : goal.returns-in-NotYet-clause-acts
returns-in-NotYet-clause-acts g c = let w = still g (goal.at.returns-in-NotYet-clause-acts g c).In-NotYet in search (rules, w.moved)

pub returns-in-NotYet-clause-exact : goal.returns-in-NotYet-clause-exact
returns-in-NotYet-clause-exact g c = λ s told. hears_not_yet told c.args.served.port c.in-NotYet.word c.in-NotYet.ensures.says

pub invariant_of-self-in-Heard-clause-hosted : goal.invariant_of-self-in-Heard-clause-hosted
invariant_of-self-in-Heard-clause-hosted g c = (went g (goal.at.invariant_of-self-in-Heard-clause-hosted g c).After-keep).hosted

pub returns-in-Heard-clause-acts : goal.returns-in-Heard-clause-acts
returns-in-Heard-clause-acts g c = let w = went g (goal.at.returns-in-Heard-clause-acts g c).After-keep in search (rules, w.node, w.moved)

pub returns-in-Heard-clause-exact : goal.returns-in-Heard-clause-exact
returns-in-Heard-clause-exact g c =
    let w = went g (goal.at.returns-in-Heard-clause-exact g c).After-keep in
    λ s told. ap Some w.is ∙ hears_heard told c.args.served.port c.args.served.serial c.in-Heard.value _ w.led
