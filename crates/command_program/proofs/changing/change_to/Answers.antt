-- A change is refused for a fault of its component, or since it can't be planned.
use Rattle.std.proofs.Common.{refl}
use Rattle.std.proofs.lemmas.Result.{err_from_is_err_and}
use Rattle.std.specs.Option.{option_map}
use Rattle.command_spec.specs.Lines.{changes}
use Rattle.darwin_types.specs.Checked.{description}
use Rattle.command_program.proofs.PlannedLines.{call_at_fault, change_leads, change_refused}
use Rattle.command_program.proofs.changing.change_to.Goals as goal

pub returns-in_err-graph-clause-refused : goal.returns-in_err-graph-clause-refused
returns-in_err-graph-clause-refused c p at =
    let q = err_from_is_err_and c.from_residual.result c.from_residual.ensures.1 in
    rw (q.1, q.2)
    (call_at_fault p (option_map description c.args.way.now.used) (changes c.args.within c.args.moves) c.args.name c.args.args c.in_err-graph.field-0.0 at.used_is
    (rw (c.as_bytes.ensures, c.items.ensures) at c.in_err-graph.ensures.at_fault))

pub returns-in_err-plan-clause-refused : goal.returns-in_err-plan-clause-refused
returns-in_err-plan-clause-refused c p at =
    let q = err_from_is_err_and c.from_residual-in_err-plan.result c.from_residual-in_err-plan.ensures.1 in
    let way = c.args.way.now in
    rw (q.1, q.2)
    (change_refused way p (option_map description way.used) c.args.name c.args.args c.args.within c.args.moves c.graph.result.now c.in_ok-graph.graph at.used_is c.requires.begun
    c.graph.ensures at (rw (c.as_bytes.ensures, c.items.ensures) at c.in_ok-graph.ensures.graph) c.in_err-plan.field-0.0 (rw c.items-2.ensures at c.in_err-plan.ensures.refused))

pub returns-clause-leads : goal.returns-clause-leads
returns-clause-leads c p at =
    let way = c.args.way.now in
    record {
      name_is = refl;
      args_are = refl;
      within_is = refl;
      moves_are = refl;
      leads = change_leads way p (option_map description way.used) c.args.name c.args.args c.args.within c.args.moves c.graph.result.now c.in_ok-graph.graph at.used_is c.requires.begun
          c.graph.ensures at (rw (c.as_bytes.ensures, c.items.ensures) at c.in_ok-graph.ensures.graph) c.in_ok-plan.plan (rw c.items-2.ensures at c.in_ok-plan.ensures.accepted)
          (rw c.items-2.ensures at c.in_ok-plan.ensures.plan);
    }
