-- A start is refused for a fault of its component, or since there is no room for its graph.
use Rattle.std.proofs.lemmas.Result.{err_from_is_err_and}
use Rattle.std.specs.Option.{option_map}
use Rattle.command_spec.specs.Lines.{starts}
use Rattle.darwin_types.specs.Checked.{description}
use Rattle.command_program.proofs.PlannedLines.{call_at_fault, start_lacks}
use Rattle.command_program.proofs.changing.start_with.Goals as goal

pub returns-in_err-graph-clause-refused : goal.returns-in_err-graph-clause-refused
returns-in_err-graph-clause-refused c p at =
    let q = err_from_is_err_and c.from_residual.result c.from_residual.ensures.1 in
    rw (q.1, q.2)
    (call_at_fault p (option_map description c.args.way.now.used) starts c.args.name c.args.args c.in_err-graph.field-0.0 at.used_is
    (rw (c.as_bytes.ensures, c.items.ensures) at c.in_err-graph.ensures.at_fault))

pub returns-in_err-require_room-clause-refused : goal.returns-in_err-require_room-clause-refused
returns-in_err-require_room-clause-refused c p at =
    let q = err_from_is_err_and c.from_residual-in_err-require_room.result c.from_residual-in_err-require_room.ensures.1 in
    let way = c.args.way.now in
    rw (q.1, q.2)
    (start_lacks p (option_map description way.used) c.args.name c.args.args c.in_ok-graph.graph way.made at.used_is at.made_is
    (rw (c.as_bytes.ensures, c.items.ensures) at c.in_ok-graph.ensures.graph)
    c.in_err-require_room.field-0.0 c.in_err-require_room.ensures.refused)
