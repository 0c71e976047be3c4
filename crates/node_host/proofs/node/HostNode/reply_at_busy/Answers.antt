use Rattle.std.proofs.Common.{rules, ◌∙◌, ◌+◌, ◌<◌, refl, ap, arith}
use Rattle.std.specs.Prelude.{slice_index_or}
use Rattle.config_graph.proofs.KindLaws.{two_requires}
use Rattle.quiesce_core.specs.Knowledge.{port_at_start}
use Rattle.quiesce_core.specs.declared.event.Event.TheVariants as event
use Rattle.quiesce_core.specs.declared.known.PortKnown.{PortKnown}
use Rattle.node_gate.specs.Moves.{with_seen}
use Rattle.node_gate.specs.declared.answers.SeeAnswer.TheVariants as see
use Rattle.node_host.proofs.EventLaws.{GoesOn, goes_on}
use Rattle.node_host.proofs.Growing.{busy_at, expected_at, seat_two}
use Rattle.node_host.proofs.Replying.{ask_folds, asked, ended, not_yet}
use Rattle.node_host.specs.Acts.{state_of}
use Rattle.node_host.proofs.node.HostNode.reply_at_busy.Given.{Over}
use Rattle.node_host.proofs.node.HostNode.reply_at_busy.Goals as goal
use Rattle.node_host.proofs.node.HostNode.reply_at_busy.Goals.{After-keep, After-keep-in-More}

pub hand_in-requires-clause-expected : goal.hand_in-requires-clause-expected
hand_in-requires-clause-expected g c =
    let h = c.args.self.now in
    expected_at h.hosted c.args.require c.port_known-known.result (omega (arith, c.requires.require, two_requires (state_of h).kind)) c.port_known-known.ensures (ap (λ (k : PortKnown). k.idle) c.port_known-known.ensures ∙ c.requires.busy)

pub returns-in-NotYet-clause-exact : goal.returns-in-NotYet-clause-exact
returns-in-NotYet-clause-exact g c = λ s told. not_yet told (state_of c.args.self.now) (c.args.self.now.first_port + c.args.require) c.in-NotYet.word c.in-NotYet.ensures.says

did_end : (g : Over) (c : After-keep g) → GoesOn g.G.PortGate c.args.gate.now c.end.new.self c.args.self.now c.hand_in.new.inner c.end.new.seat c.keep.new.log.items c.keep.new.known c.keep.result (event.End (c.args.self.now.first_port + c.args.require) c.port_known-known.result.serial c.in-Answer.value)
did_end g c =
    let h = c.args.self.now in
    let x = c.port_known-known.result in
    let two : c.args.require < 2 = omega (arith, c.requires.require, two_requires (state_of h).kind) in
    goes_on (c.end.ensures.node ∙ c.see.ensures.node ∙ c.requires.can.node) (g.met.G.PortGate.within c.end.new.self c.end.new.seat c.end.ensures.fits).1
    (ended c.args.require (see.Answer c.in-Answer.value) (c.see.ensures.node ∙ c.requires.can.node) (c.in-Answer.ensures.known ∙ ap (λ m. with_seen m (h.first_port + c.args.require) (see.Answer c.in-Answer.value) (g.S.GateSeat.known h.seat)) c.requires.can.node)
    c.see.ensures.events c.see.ensures.state (omega (arith, two, seat_two h.hosted)) x c.in-Answer.value (c.port_known-known.ensures ∙ ap (λ w. slice_index_or w.ports c.args.require port_at_start) h.hosted.kept) refl c.end.ensures.does)
    (busy_at h.hosted c.args.require x two c.port_known-known.ensures (ap (λ (k : PortKnown). k.idle) c.port_known-known.ensures ∙ c.requires.busy)) (c.hand_in.ensures.folds x.serial) c.keep.ensures.event c.keep.ensures.logged c.keep.ensures.known

did_ask : (g : Over) (c : After-keep-in-More g) → GoesOn g.G.PortGate c.args.gate.now c.ask.new.self c.args.self.now c.args.self.now.inner c.ask.new.seat c.keep-in-More.new.log.items c.keep-in-More.new.known c.keep-in-More.result (event.Ask (c.args.self.now.first_port + c.args.require) c.port_known-known.result.serial c.replies-value.result)
did_ask g c =
    let h = c.args.self.now in
    let x = c.port_known-known.result in
    let two : c.args.require < 2 = omega (arith, c.requires.require, two_requires (state_of h).kind) in
    goes_on (c.ask.ensures.node ∙ c.see.ensures.node ∙ c.requires.can.node) (g.met.G.PortGate.within c.ask.new.self c.ask.new.seat c.ask.ensures.fits).1
    (asked c.args.require (see.More c.in-More.value) (c.see.ensures.node ∙ c.requires.can.node) (c.in-More.ensures.known ∙ ap (λ m. with_seen m (h.first_port + c.args.require) (see.More c.in-More.value) (g.S.GateSeat.known h.seat)) c.requires.can.node)
    c.see.ensures.events c.see.ensures.state (omega (arith, two, seat_two h.hosted)) x c.in-More.value c.replies-value.result (c.port_known-known.ensures ∙ ap (λ w. slice_index_or w.ports c.args.require port_at_start) h.hosted.kept) refl c.ask.ensures.does)
    tt (ask_folds h.first_port (h.first_port + c.args.require) x.serial c.replies-value.result (state_of h) x.consequent (expected_at h.hosted c.args.require x two c.port_known-known.ensures (ap (λ (k : PortKnown). k.idle) c.port_known-known.ensures ∙ c.requires.busy)) c.replies-value.ensures.reply)
    c.keep-in-More.ensures.event c.keep-in-More.ensures.logged c.keep-in-More.ensures.known

pub invariant_of-self-in-Answer-clause-hosted : goal.invariant_of-self-in-Answer-clause-hosted
invariant_of-self-in-Answer-clause-hosted g c = (did_end g (goal.at.invariant_of-self-in-Answer-clause-hosted g c).After-keep).hosted

pub invariant_of-self-in-More-clause-hosted : goal.invariant_of-self-in-More-clause-hosted
invariant_of-self-in-More-clause-hosted g c = (did_ask g (goal.at.invariant_of-self-in-More-clause-hosted g c).After-keep-in-More).hosted

pub returns-in-Answer-clause-acts : goal.returns-in-Answer-clause-acts
returns-in-Answer-clause-acts g c = let w = did_end g (goal.at.returns-in-Answer-clause-acts g c).After-keep in search (rules, w.node, w.moved)

pub returns-in-More-clause-acts : goal.returns-in-More-clause-acts
returns-in-More-clause-acts g c = let w = did_ask g (goal.at.returns-in-More-clause-acts g c).After-keep-in-More in search (rules, w.node, w.moved)
