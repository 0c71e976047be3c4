use Rattle.std.proofs.Common.{sym, subst}
use Rattle.std.specs.Option.{option_map_or}
use Rattle.darwin_types.specs.Check.{Judges, inner_end_faults, outer_end_faults}
use Rattle.darwin_types.specs.Within.{tree_in, component_in}
use Rattle.darwin_types.proofs.declared.Declared.check_end_port.Goals as goal

pub returns-in-Some : goal.returns-in-Some
returns-in-Some c =
    let t = tree_in c.args.self.now in
    let k = component_in c.args.self.now in
    let port = c.args.end.now.port in
    subst (λ o. Judges (option_map_or (λ x. inner_end_faults t k x port) o (outer_end_faults k port)) c.check_inner_port.result) (sym c.in-Some.is) c.check_inner_port.ensures
