use Rattle.std.proofs.Common.{rules, ◌∙◌, [], ◌∷◌, Some, sym, ap, subst}
use Rattle.quiesce_core.specs.declared.event.Event.TheVariants as event
use Rattle.node_gate.specs.Seats.{MaySendMore}
use Rattle.node_host.proofs.EventLaws.{GoesOn, did_by, goes_on}
use Rattle.node_host.proofs.Exactly.{sends_next}
use Rattle.node_host.proofs.InService.{no_call}
use Rattle.node_host.proofs.Permitted.{more_folds, may_send, serial_is, can_send}
use Rattle.node_host.specs.Acts.{state_of}
use Rattle.node_host.proofs.node.HostNode.send_more.Given.{Over}
use Rattle.node_host.proofs.node.HostNode.send_more.Goals as goal
use Rattle.node_host.proofs.node.HostNode.send_more.Goals.{After-keep}

pub more-requires-clause-may : goal.more-requires-clause-may
more-requires-clause-may g c =
    let h = c.args.self.now in
    subst (λ m. MaySendMore m (g.S.GateSeat.known h.seat) c.args.served.port c.args.value) (sym c.requires.can.node)
    (may_send h.hosted c.args.served c.requires.serving.served c.requires.serving.heard c.requires.serving.ended c.args.value c.requires.sends c.requires.small)

pub keep-requires-clause-count : goal.keep-requires-clause-count
keep-requires-clause-count g c =
    can_send c.args.self.now.hosted c.args.served c.requires.serving.served c.requires.serving.heard c.requires.serving.ended c.args.served.port c.args.served.serial c.args.value c.requires.sends

pub more_given-requires : goal.more_given-requires
more_given-requires g c = record { sent = (c.args.value, c.requires.sends) }

went : (g : Over) (c : After-keep g) → GoesOn g.G.PortGate c.args.gate.now c.more.new.self c.args.self.now c.more_given.new.self c.more.new.seat c.keep.new.log.items c.keep.new.known c.keep.result (event.More c.args.served.port c.args.served.serial c.args.value)
went g c =
    let h = c.args.self.now in
    goes_on (c.more.ensures.node ∙ c.requires.can.node) (g.met.G.PortGate.within c.more.new.self c.more.new.seat c.more.ensures.fits).1
    (did_by c.requires.can.node (ap (λ k. event.More c.args.served.port k c.args.value ∷ []) (serial_is h.hosted c.args.served c.requires.serving.served)) c.more.ensures.does)
    (no_call h.hosted c.requires.serving.ended) (more_folds h.first_port c.args.served.port c.args.served.serial c.args.value (state_of h) _ c.requires.sends c.more_given.ensures.state) c.keep.ensures.event c.keep.ensures.logged c.keep.ensures.known

pub invariant_of-self-clause-hosted : goal.invariant_of-self-clause-hosted
invariant_of-self-clause-hosted g c = (went g (goal.at.invariant_of-self-clause-hosted g c).After-keep).hosted

pub returns-clause-acts : goal.returns-clause-acts
returns-clause-acts g c = let w = went g (goal.at.returns-clause-acts g c).After-keep in search (rules, w.node, w.moved)

pub returns-clause-exact : goal.returns-clause-exact
returns-clause-exact g c =
    let w = went g (goal.at.returns-clause-exact g c).After-keep in
    λ s told. ap Some w.is ∙ sends_next told c.args.served.port c.args.served.serial c.args.value _ w.led
