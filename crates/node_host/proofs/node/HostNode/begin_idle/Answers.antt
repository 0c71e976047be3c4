use Rattle.std.proofs.Common.{rules, inr, ◌∙◌, ◌+◌, ◌<◌, Some, refl, sym, ap, subst, arith}
use Rattle.std.specs.Prelude.{slice_index_or}
use Rattle.std.proofs.lemmas.Option.{same_Some}
use Rattle.config_graph.proofs.KindLaws.{two_requires}
use Rattle.component_trait.specs.declared.next.Ask.{Ask}
use Rattle.quiesce_core.specs.Knowledge.{port_at_start}
use Rattle.quiesce_core.specs.declared.event.Event.TheVariants as event
use Rattle.node_gate.specs.Loads.{IsLoaded, TellsLoads, is_begun}
use Rattle.node_gate.specs.Seats.{MayBegin}
use Rattle.node_host.proofs.EventLaws.{GoesOn, did_by, goes_on}
use Rattle.node_host.proofs.Exactly.{begins_begun, begins_refused}
use Rattle.node_host.proofs.Growing.{hosted_waiting, idle_at}
use Rattle.node_host.proofs.Hinting.{hint_as, sent_at}
use Rattle.node_host.proofs.Permitted.{begin_folds, may_begin}
use Rattle.node_host.proofs.Refused.{loads_bar}
use Rattle.node_host.specs.Acts.{state_of}
use Rattle.node_host.specs.Tried.{bars_begin}
use Rattle.node_host.proofs.node.HostNode.begin_idle.Given.{Over}
use Rattle.node_host.proofs.node.HostNode.begin_idle.Goals as goal
use Rattle.node_host.proofs.node.HostNode.begin_idle.Goals.{After-keep-event}

pub begin-requires-clause-may : goal.begin-requires-clause-may
begin-requires-clause-may g c =
    let h = c.args.self.now in
    subst (λ m. MayBegin m (g.S.GateSeat.known h.seat) (h.first_port + c.args.ask.require) c.args.ask.value) (sym c.requires.can.node)
    (may_begin h.hosted c.args.ask (slice_index_or h.known.ports c.args.ask.require port_at_start) c.requires.fits_ask refl c.requires.idle)

pub post-requires-clause-port : goal.post-requires-clause-port
post-requires-clause-port g c = omega (arith, c.requires.fits_ask.require, c.args.self.now.hosted.limits.ports_within)

pub post-requires-clause-node : goal.post-requires-clause-node
post-requires-clause-node g c = c.in-Begun.ensures.says.1

went : (g : Over) (c : After-keep-event g) → GoesOn g.G.PortGate c.args.gate.now c.begin.new.self c.args.self.now c.args.self.now.inner c.begin.new.seat c.keep-event.new.log.items c.keep-event.new.known c.keep-event.result (event.Begin (c.args.self.now.first_port + c.args.ask.require) c.in-Begun.serial c.args.ask.value)
went g c =
    let h = c.args.self.now in
    let two : c.args.ask.require < 2 = omega (arith, c.requires.fits_ask.require, two_requires (state_of h).kind) in
    goes_on (c.begin.ensures.node ∙ c.requires.can.node) (g.met.G.PortGate.within c.begin.new.self c.begin.new.seat c.begin.ensures.fits).1 (did_by c.requires.can.node refl c.in-Begun.ensures.does)
    (idle_at h.hosted c.args.ask.require (slice_index_or h.known.ports c.args.ask.require port_at_start) two refl c.requires.idle) (begin_folds h.first_port c.in-Begun.serial c.args.ask (state_of h) c.requires.wanted)
    c.keep-event.ensures.event c.keep-event.ensures.logged c.keep-event.ensures.known

pub invariant_of-self-2-clause-hosted : goal.invariant_of-self-2-clause-hosted
invariant_of-self-2-clause-hosted g c =
    hosted_waiting (went g (goal.at.invariant_of-self-2-clause-hosted g c).After-keep-event).hosted c.post.ensures.posted c.post.ensures.waits c.requires.fits_ask.require c.in-Begun.ensures.says.1

pub returns : goal.returns
returns g c =
    let w = went g (goal.at.returns g c).After-keep-event in
    record {
      acts = search (rules, w.node, w.moved);
      moved = search rules;
      hints = record {
        hint =
            hint_as _ _ _ _ c.keep-event.ensures.event
            (sent_at c.args.ask.require (is_begun c.in-Begun.serial) c.in-Begun.ensures.says.2 c.in-Begun.ensures.loads c.post.ensures);
        quiet = search rules;
      };
      exact = λ s told. ap Some w.is ∙ begins_begun told c.args.ask (state_of c.args.self.now) c.in-Begun.serial _ c.requires.wanted w.led;
      tried = search rules;
      no_begin = search rules;
    }

pub returns-in_default : goal.returns-in_default
returns-in_default g c =
    let h = c.args.self.now in
    let a = g.S.GateSeat.loads h.seat in
    let b = g.S.GateSeat.loads c.begin.new.seat in
    record {
      acts = search rules;
      moved = search rules;
      hints = search rules;
      exact = λ s told. begins_refused told c.args.ask (state_of h) c.begin.result c.in_default.not-Begun c.requires.wanted c.begin.ensures.says;
      tried = λ none_ may x wants. inr (subst (λ (y : Ask). TellsLoads (IsLoaded (h.first_port + y.require) bars_begin) a b) (same_Some c.args.ask x (sym c.requires.wanted ∙ wants))
          (loads_bar (g.G.PortGate.state c.args.gate.now) (h.first_port + c.args.ask.require) c.begin.result a b c.in_default.not-Begun c.begin.ensures.says c.begin.ensures.loads));
      no_begin = search rules;
    }
