-- A start is refused where its component has no graph, or there is no room for the graph.
use Rattle.std.proofs.lemmas.Result.{err_from_is_err_and}
use Rattle.command_spec.specs.Descriptions.{IsDescriptionRefusal}
use Rattle.command_spec.specs.Plans.{RefusesStart, has_no_graph, is_full}
use Rattle.command_program.proofs.Planning.{refused_through}
use Rattle.command_program.proofs.plans.start.Goals as goal

pub returns-in_err-graph-clause-refused : goal.returns-in_err-graph-clause-refused
returns-in_err-graph-clause-refused c text checked =
    let top = c.args.top.now in
    let args = c.args.args.now in
    let p = err_from_is_err_and c.from_residual.result c.from_residual.ensures.1 in
    rw (p.1, p.2) (refused_through (IsDescriptionRefusal text top args) (RefusesStart text top args) c.in_err-graph.field-0.0
    (λ words refuses. has_no_graph words refuses) (c.in_err-graph.ensures.refused text checked))

pub returns-in_err-require_room-clause-refused : goal.returns-in_err-require_room-clause-refused
returns-in_err-require_room-clause-refused c text checked =
    let p = err_from_is_err_and c.from_residual-in_err-require_room.result c.from_residual-in_err-require_room.ensures.1 in
    rw (p.1, p.2) (λ plain. is_full c.in_ok-graph.graph c.in_err-require_room.field-0.0 (c.in_ok-graph.ensures.graph text checked) c.in_err-require_room.ensures.refused)
