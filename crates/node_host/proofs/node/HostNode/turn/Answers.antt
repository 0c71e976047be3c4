use Rattle.std.proofs.Common.{◌∙◌, Some, ap}
use Rattle.node_host.proofs.Tries.{tried_posted}
use Rattle.node_host.proofs.node.HostNode.turn.Goals as goal

pub returns-in-Some-clause-tried : goal.returns-in-Some-clause-tried
returns-in-Some-clause-tried g c =
    let h = c.args.self.now in
    let p = c.post_waiting.new.self in
    let k = c.act.new.self in
    tried_posted h.slot p.slot h.first_port p.first_port (g.C.Component.state h.inner) (g.C.Component.state p.inner) h.known p.known c.args.begins (Some c.in-Some.event)
    (g.S.GateSeat.loads h.seat) (g.S.GateSeat.loads p.seat) (g.S.GateSeat.loads k.seat)
    c.post_waiting.ensures.same.slot c.post_waiting.ensures.same.first_port (ap (λ x. g.C.Component.state x) c.post_waiting.ensures.same.inner ∙ c.room.ensures.state) c.post_waiting.ensures.same.known
    (ap (λ x. g.S.GateSeat.loads x) c.post_waiting.ensures.same.seat) c.in-Some.ensures.tried
