use Rattle.std.proofs.Common.{◌∙◌, refl, sym, ap}
use Rattle.std.specs.Prelude.{◌&&◌, is_none}
use Rattle.quiesce_core.specs.State.{service}
use Rattle.node_host.specs.Acts.{hinted, state_of}
use Rattle.node_host.proofs.Loading.{keeps_steps}
use Rattle.node_host.proofs.Tries.{cannot_then, held_kept, sent_after_service, sent_before_look, sent_then}
use Rattle.node_host.proofs.node.HostNode.work.Goals as goal

pub returns-in-Some-clause-sent : goal.returns-in-Some-clause-sent
returns-in-Some-clause-sent g c =
    sent_before_look 2 refl c.in-Some.ensures.moved.number (λ s told. ap (λ e. is_none e && is_none (service s c.args.self.now.slot)) (sym (c.in-Some.ensures.exact s told))) c.in-Some.ensures.hints.hint

pub returns-in-None-clause-sent : goal.returns-in-None-clause-sent
returns-in-None-clause-sent g c =
    let h = c.args.self.now in
    let m = c.serve.new.self in
    let quiet = c.in-None.ensures.hints.quiet refl in
    sent_after_service (state_of h) h.hosted.kept c.look.ensures.looks.passed (λ s told. c.in-None.ensures.exact s told)
    (sent_then c.in-None.ensures.acts (keeps_steps 2 h.first_port h.known (g.S.GateSeat.loads h.seat) (g.S.GateSeat.loads m.seat) c.in-None.ensures.moved.loads) c.look.new.self
    (ap (λ x. hinted g.H.Hints x m) quiet.0 ∙ ap (λ x. record { waiting = x; counts = g.H.Hints.counts c.args.hints.now; told = g.H.Hints.tells c.args.hints.now }) quiet.1) c.look.ensures.looks.sent)

pub returns-in-None-clause-tried : goal.returns-in-None-clause-tried
returns-in-None-clause-tried g c =
    let h = c.args.self.now in
    λ none_ may. cannot_then c.in-None.ensures.acts (keeps_steps 2 h.first_port h.known (g.S.GateSeat.loads h.seat) (g.S.GateSeat.loads c.serve.new.self.seat) c.in-None.ensures.moved.loads) c.look.new.self (c.look.ensures.looks.tried none_ may)

pub returns-in-None-clause-held : goal.returns-in-None-clause-held
returns-in-None-clause-held g c =
    let h = c.args.self.now in
    let m = c.serve.new.self in
    λ passed. held_kept m.first_port m.known h.known h.known.service (g.S.GateSeat.loads h.seat) (g.S.GateSeat.loads m.seat) (g.S.GateSeat.loads c.look.new.self.seat) c.look.ensures.looks.loads (c.in-None.ensures.held refl)
