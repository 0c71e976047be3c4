use Rattle.std.proofs.Common.{◌≡◌, ◌∙◌, Some, refl, sym, ap}
use Rattle.std.specs.Prelude.{◌&&◌, is_none}
use Rattle.quiesce_core.specs.State.{service}
use Rattle.node_turn_laws.specs.Turn.{serves}
use Rattle.node_host.specs.Acts.{gate_seen, state_of}
use Rattle.node_host.proofs.ActLaws.{as_before}
use Rattle.node_host.proofs.Hinting.{without_hint}
use Rattle.node_host.proofs.Tries.{sent_before_look, sent_by_then, tried_then}
use Rattle.node_host.proofs.node.HostNode.act.Goals as goal

pub returns-in-Some-clause-sent : goal.returns-in-Some-clause-sent
returns-in-Some-clause-sent g c =
    let h = c.args.self.now in
    sent_before_look 1 refl c.in-Some.ensures.replies.number
    (λ s told. ap (λ e. is_none e && is_none (serves s h.slot (state_of h)) && is_none (service s h.slot)) (sym (c.in-Some.ensures.replies.exact s told)))
    (without_hint (gate_seen g.G.PortGate c.args.gate.now h c.end_or_ask.new.self) h.first_port (Some c.in-Some.event) (g.H.Hints.counts c.args.hints.now) (g.H.Hints.tells c.args.hints.now) c.in-Some.ensures.silent.asks_nothing c.in-Some.ensures.silent.waiting)

pub returns-in-None-clause-sent : goal.returns-in-None-clause-sent
returns-in-None-clause-sent g c =
    let h = c.args.self.now in
    let m = c.end_or_ask.new.self in
    sent_by_then c.in-None.ensures.acts c.in-None.ensures.replies.steps c.work.new.self
    (ap (λ x. record { waiting = x; counts = g.H.Hints.counts c.args.hints.now; told = g.H.Hints.tells c.args.hints.now }) c.in-None.ensures.silent.waiting)
    (λ s told.
    as_before c.in-None.ensures.acts (λ slot first t w seat o. (is_none (serves s m.slot (state_of m)) && is_none (service s m.slot)) ≡ (is_none (serves s slot t) && is_none (service s slot))) refl
    ∙ ap (λ e. is_none e && is_none (serves s h.slot (state_of h)) && is_none (service s h.slot)) (c.in-None.ensures.replies.exact s told))
    c.work.ensures.sent

pub returns-in-None-clause-tried : goal.returns-in-None-clause-tried
returns-in-None-clause-tried g c =
    tried_then c.in-None.ensures.acts c.in-None.ensures.replies.steps c.work.new.self c.in-None.ensures.replies.tried c.work.ensures.loads c.work.ensures.passed c.work.ensures.held c.work.ensures.tried
