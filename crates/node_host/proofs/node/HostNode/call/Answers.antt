use Rattle.std.proofs.Common.{rules, ◌∙◌, ◌+◌, Some, refl, sym, ap, subst, arith}
use Rattle.std.specs.Prelude.{◌&&◌, not, slice_index_or}
use Rattle.quiesce_core.specs.Knowledge.{port_at_start}
use Rattle.quiesce_core.specs.declared.event.Event.TheVariants as event
use Rattle.node_gate.specs.Loads.{is_next, is_word, leads_to}
use Rattle.node_gate.specs.Seats.{MayCallAt}
use Rattle.node_host.proofs.EventLaws.{GoesOn, did_by, goes_on}
use Rattle.node_host.proofs.Exactly.{calls_called, calls_missed}
use Rattle.node_host.proofs.Growing.{hosted_waiting}
use Rattle.node_host.proofs.Hinting.{hint_as, sent_at}
use Rattle.node_host.proofs.InService.{idle_to_call, no_call}
use Rattle.node_host.proofs.Loading.{keeps_loaded}
use Rattle.node_host.proofs.Permitted.{call_folds, can_call, can_miss, may_call, miss_folds}
use Rattle.node_host.specs.Acts.{state_of}
use Rattle.node_host.proofs.node.HostNode.call.Given.{Over}
use Rattle.node_host.proofs.node.HostNode.call.Goals as goal
use Rattle.node_host.proofs.node.HostNode.call.Goals.{After-keep, After-keep-event}

pub call-requires-clause-may : goal.call-requires-clause-may
call-requires-clause-may g c =
    let h = c.args.self.now in
    subst (λ m. MayCallAt m (g.S.GateSeat.known h.seat) (h.first_port + c.args.ask.require) c.args.ask.value) (sym c.requires.can.node)
    (may_call h.hosted c.args.served c.requires.serving.served c.requires.serving.heard c.requires.serving.ended c.args.ask (slice_index_or h.known.ports c.args.ask.require port_at_start) c.requires.asks c.requires.fits_ask c.requires.depends refl (idle_to_call h.hosted c.args.ask c.requires.fits_ask c.requires.serving.ended c.requires.asks))

pub answered-requires-clause-asked : goal.answered-requires-clause-asked
answered-requires-clause-asked g c = (c.args.ask.value, c.requires.asks)

pub keep-requires-clause-count : goal.keep-requires-clause-count
keep-requires-clause-count g c =
    let h = c.args.self.now in
    can_miss h.hosted c.args.served c.requires.serving.served c.requires.serving.heard c.requires.serving.ended (h.first_port + c.args.ask.require) c.args.ask c.requires.asks

pub keep-event-requires-clause-count : goal.keep-event-requires-clause-count
keep-event-requires-clause-count g c =
    let h = c.args.self.now in
    can_call h.hosted c.args.served c.requires.serving.served c.requires.serving.heard c.requires.serving.ended (h.first_port + c.args.ask.require) c.in-Called.serial c.args.ask.value c.args.ask c.requires.asks

pub post-requires-clause-port : goal.post-requires-clause-port
post-requires-clause-port g c = omega (arith, c.requires.fits_ask.require, c.args.self.now.hosted.limits.ports_within)

pub post-requires-clause-node : goal.post-requires-clause-node
post-requires-clause-node g c = c.in-Called.ensures.says.1

missed : (g : Over) (c : After-keep g) → GoesOn g.G.PortGate c.args.gate.now c.call.new.self c.args.self.now c.answered.new.self c.call.new.seat c.keep.new.log.items c.keep.new.known c.keep.result (event.Miss (c.args.self.now.first_port + c.args.ask.require))
missed g c =
    let h = c.args.self.now in
    goes_on (c.call.ensures.node ∙ c.requires.can.node) (g.met.G.PortGate.within c.call.new.self c.call.new.seat c.call.ensures.fits).1 (did_by c.requires.can.node refl c.in-Missed.ensures.does)
    (no_call h.hosted c.requires.serving.ended) (miss_folds h.first_port c.args.ask (state_of h) _ c.requires.asks c.answered.ensures.state) c.keep.ensures.event c.keep.ensures.logged c.keep.ensures.known

called : (g : Over) (c : After-keep-event g) → GoesOn g.G.PortGate c.args.gate.now c.call.new.self c.args.self.now c.args.self.now.inner c.call.new.seat c.keep-event.new.log.items c.keep-event.new.known c.keep-event.result (event.Call (c.args.self.now.first_port + c.args.ask.require) c.in-Called.serial c.args.ask.value)
called g c =
    let h = c.args.self.now in
    goes_on (c.call.ensures.node ∙ c.requires.can.node) (g.met.G.PortGate.within c.call.new.self c.call.new.seat c.call.ensures.fits).1 (did_by c.requires.can.node refl c.in-Called.ensures.does)
    (no_call h.hosted c.requires.serving.ended) (call_folds h.first_port c.in-Called.serial c.args.ask (state_of h) c.requires.asks) c.keep-event.ensures.event c.keep-event.ensures.logged c.keep-event.ensures.known

pub invariant_of-self-clause-hosted : goal.invariant_of-self-clause-hosted
invariant_of-self-clause-hosted g c = (missed g (goal.at.invariant_of-self-clause-hosted g c).After-keep).hosted

pub invariant_of-self-in-Called-clause-hosted : goal.invariant_of-self-in-Called-clause-hosted
invariant_of-self-in-Called-clause-hosted g c =
    hosted_waiting (called g (goal.at.invariant_of-self-in-Called-clause-hosted g c).After-keep-event).hosted c.post.ensures.posted c.post.ensures.waits c.requires.fits_ask.require c.in-Called.ensures.says.1

pub returns-in-Missed-clause-acts : goal.returns-in-Missed-clause-acts
returns-in-Missed-clause-acts g c = let w = missed g (goal.at.returns-in-Missed-clause-acts g c).After-keep in search (rules, w.node, w.moved)

pub returns-in-Called-clause-acts : goal.returns-in-Called-clause-acts
returns-in-Called-clause-acts g c = let w = called g (goal.at.returns-in-Called-clause-acts g c).After-keep-event in search (rules, w.node, w.moved)

pub returns-in-Missed-clause-exact : goal.returns-in-Missed-clause-exact
returns-in-Missed-clause-exact g c =
    let w = missed g (goal.at.returns-in-Missed-clause-exact g c).After-keep in
    λ s told. ap Some w.is ∙ calls_missed told (c.args.self.now.first_port + c.args.ask.require) c.args.ask.value _ w.led

pub returns-in-Called-clause-exact : goal.returns-in-Called-clause-exact
returns-in-Called-clause-exact g c =
    let w = called g (goal.at.returns-in-Called-clause-exact g c).After-keep-event in
    λ s told. ap Some w.is ∙ calls_called told (c.args.self.now.first_port + c.args.ask.require) c.in-Called.serial c.args.ask.value _ w.led

pub returns-in-Called-clause-hints : goal.returns-in-Called-clause-hints
returns-in-Called-clause-hints g c = record {
  hint =
      hint_as _ _ _ _ c.keep-event.ensures.event
      (sent_at c.args.ask.require (is_next c.in-Called.serial) c.in-Called.ensures.says.2 c.in-Called.ensures.loads c.post.ensures);
  quiet = search rules;
}

pub returns-in-Missed-clause-moved : goal.returns-in-Missed-clause-moved
returns-in-Missed-clause-moved g c =
    let h = c.args.self.now in
    record {
      room = search rules;
      known = search rules;
      number = search rules;
      loads =
          keeps_loaded 2 h.first_port c.args.ask.require (is_word c.in-Missed.word) h.known (g.S.GateSeat.loads h.seat) (g.S.GateSeat.loads c.call.new.seat)
          (ap not (idle_to_call h.hosted c.args.ask c.requires.fits_ask c.requires.serving.ended c.requires.asks)) c.in-Missed.ensures.loads;
    }

pub returns-in-Called-clause-moved : goal.returns-in-Called-clause-moved
returns-in-Called-clause-moved g c =
    let h = c.args.self.now in
    record {
      room = search rules;
      known = search rules;
      number = search rules;
      loads =
          keeps_loaded 2 h.first_port c.args.ask.require (λ l. leads_to c.in-Called.target l && is_next c.in-Called.serial l) h.known (g.S.GateSeat.loads h.seat) (g.S.GateSeat.loads c.call.new.seat)
          (ap not (idle_to_call h.hosted c.args.ask c.requires.fits_ask c.requires.serving.ended c.requires.asks)) c.in-Called.ensures.loads;
    }
