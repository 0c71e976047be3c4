use Rattle.std.proofs.Common.{sym, subst, ◌++◌}
use Rattle.std.specs.Option.{option_to_list}
use Rattle.std.proofs.lemmas.List.Elements.{Contains-append_left, Contains-append_right}
use Rattle.std.specs.List.{Contains}
use Rattle.base.proofs.AnswerLaws.{Answers-exit}
use Rattle.darwin_parser.specs.Tree.{end_of}
use Rattle.darwin_types.specs.NameUses.{values}
use Rattle.darwin_types.specs.Check.{Judges, uses_faults, end_faults}
use Rattle.darwin_types.specs.Within.{tree_in, component_in}
use Rattle.darwin_types.proofs.UseFaults.{uses_faults-end}
use Rattle.darwin_types.proofs.Judged.{Judges_after}
use Rattle.darwin_types.proofs.declared.Declared.check_end.Goals as goal

pub returns-in_err-check_end_port : goal.returns-in_err-check_end_port
returns-in_err-check_end_port c =
    Answers-exit _ _ c.from_residual.ensures.1 (Contains-append_left _ _) c.in_err-check_end_port.ensures

pub returns-in_err-check_optional_value : goal.returns-in_err-check_optional_value
returns-in_err-check_optional_value c =
    let t = tree_in c.args.self.now in
    let k = component_in c.args.self.now in
    let scope = c.args.scope.now in
    let e = end_of c.args.end.now in
    let port = end_faults t k e in
    let first = uses_faults t k (values scope (option_to_list e.inst_index)) in
    let second = uses_faults t k (values scope (option_to_list e.port_index)) in
    Answers-exit {Cause = Contains _} _ _ c.from_residual-in_err-check_optional_value.ensures.1 (λ f has. subst (λ fs. Contains fs f) (sym (uses_faults-end t k scope e)) (Contains-append_right port (first ++ second) f (Contains-append_left first second f has))) c.in_err-check_optional_value.ensures

pub returns : goal.returns
returns c =
    let t = tree_in c.args.self.now in
    let k = component_in c.args.self.now in
    let scope = c.args.scope.now in
    let e = end_of c.args.end.now in
    let port = end_faults t k e in
    let first = uses_faults t k (values scope (option_to_list e.inst_index)) in
    let second = uses_faults t k (values scope (option_to_list e.port_index)) in
    let last = c.check_optional_value-2 in
    subst (λ fs. Judges fs last.result) (sym (uses_faults-end t k scope e)) (Judges_after port (first ++ second) last.result c.in_ok-check_end_port.ensures (Judges_after first second last.result c.in_ok-check_optional_value.ensures last.ensures))
