use Rattle.std.proofs.Common.{subst, map, length, option_map, unwrap_or, [], ◌∷◌}
use Rattle.std.specs.Option.{option_map_or, option_or}
use Rattle.darwin_parser.specs.Tree.{expr_of}
use Rattle.darwin_types.specs.declared.error.TypeError.TheVariants.{UnknownName}
use Rattle.darwin_types.specs.Check.{Judges, call_faults}
use Rattle.darwin_types.specs.Within.{tree_in, component_in}
use Rattle.darwin_types.proofs.declared.Declared.check_element.Goals as goal

pub returns-in-Some : goal.returns-in-Some
returns-in-Some c =
    let t = tree_in c.args.self.now in
    let k = component_in c.args.self.now in
    let own = option_map (λ l. map expr_of l.items) c.args.args.now in
    subst (λ o. Judges (option_map_or (λ a. call_faults t k c.args.array.now a.component (length (unwrap_or (option_or own a.args) []))) o (UnknownName k.name c.args.array.now ∷ [])) c.check_call.result) c.in-Some.ensures (rw c.count.ensures at c.check_call.ensures)
