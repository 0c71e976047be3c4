use Rattle.std.proofs.Common.{◌≡◌, ◌<◌, ◌∙◌, ap, slice_get, All}
use Rattle.config_graph.specs.Graph.{IsLinkWithin, ports, target_of, requires_at}
use Rattle.config_graph.proofs.LinkLaws.{IfSome-target, get-ports}
use Rattle.config_graph.proofs.graph.Graph.target.Goals as goal
use Rattle.base.proofs.MapLaws.{table_read}
use Rattle.config_graph.proofs.graph.Graph.target.Goals.{After-index}

is_target : (c : After-index) → c.index.result.now ≡ target_of c.args.self.now.links c.args.index c.args.require
is_target c =
    let g = c.self.inside in
    let i = c.args.index in
    let r = c.args.require in
    let there : r < requires_at g.nodes i = rw (← c.self.view_is) at c.requires in
    let at = ap (slice_get (ports g.nodes)) c.port_number-port.ensures.number ∙ get-ports g.nodes i r there in
    rw (← c.self.view_is) (table_read (λ p. target_of g.links.items p.node p.require) (ports g.nodes) _ _ _ _ c.self.invariant.targets_are at c.index.ensures)

pub returns-clause-target : goal.returns-clause-target
returns-clause-target c = is_target (goal.at.returns-clause-target c).After-index

pub returns-clause-within : goal.returns-clause-within
returns-clause-within c =
    let g = c.args.self.now in
    let within : All (IsLinkWithin g.nodes) g.links = rw (← c.self.view_is) c.self.invariant.graph.within in
    IfSome-target g.nodes g.links c.args.index c.args.require c.index.result.now within (is_target (goal.at.returns-clause-within c).After-index)
