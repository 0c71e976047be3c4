use Rattle.std.proofs.Common.{◌≡◌, sym, subst, ◌∙◌, ◌++◌, map, length, option_map}
use Rattle.std.proofs.lemmas.List.{length-map}
use Rattle.std.proofs.lemmas.List.Elements.{Contains-append_left, Contains-append_right}
use Rattle.std.specs.List.{Contains}
use Rattle.base.proofs.AnswerLaws.{Answers-exit}
use Rattle.darwin_parser.specs.Tree.{expr_of, entry_of}
use Rattle.darwin_types.specs.NameUses.{values, args_of, entry_uses}
use Rattle.darwin_types.specs.Check.{Judges, uses_faults, clash_faults, call_faults, element_faults, value_faults}
use Rattle.darwin_types.specs.Within.{tree_in, component_in}
use Rattle.darwin_types.proofs.Judged.{Judges_after}
use Rattle.darwin_types.proofs.declared.Declared.check_entry.Goals as goal

pub returns-in_err-check_single-in-Single : goal.returns-in_err-check_single-in-Single
returns-in_err-check_single-in-Single c =
    let d = c.args.self.now in
    let s = c.in-Single in
    let count : c.len.result ≡ length (map expr_of s.args.items) = c.len.ensures ∙ s.args.ok.0 ∙ sym (length-map s.args.items expr_of) in
    let first = clash_faults (component_in d) s.name s.component ++ call_faults (tree_in d) (component_in d) s.name s.component (length (map expr_of s.args.items)) in
    let rest = uses_faults (tree_in d) (component_in d) (values c.args.scope.now (map expr_of s.args.items)) in
    Answers-exit {Cause = Contains _} _ _ c.from_residual.ensures.1 (λ f has. subst (λ v. Contains (uses_faults (tree_in d) (component_in d) (entry_uses c.args.scope.now (entry_of v))) f) (sym s.is) (Contains-append_left first rest f has)) (rw count at c.in_err-check_single-in-Single.ensures)

pub returns-in_ok-check_single-in-Single : goal.returns-in_ok-check_single-in-Single
returns-in_ok-check_single-in-Single c =
    let d = c.args.self.now in
    let s = c.in-Single in
    let count : c.len.result ≡ length (map expr_of s.args.items) = c.len.ensures ∙ s.args.ok.0 ∙ sym (length-map s.args.items expr_of) in
    let first = clash_faults (component_in d) s.name s.component ++ call_faults (tree_in d) (component_in d) s.name s.component (length (map expr_of s.args.items)) in
    let rest = uses_faults (tree_in d) (component_in d) (values c.args.scope.now (map expr_of s.args.items)) in
    subst (λ v. Judges (uses_faults (tree_in d) (component_in d) (entry_uses c.args.scope.now (entry_of v))) c.check_values.result) (sym s.is) (Judges_after first rest c.check_values.result (rw count at c.in_ok-check_single-in-Single.ensures) (rw c.as_slice.ensures.value at c.check_values.ensures))

pub returns-in_err-check_element-in-Element : goal.returns-in_err-check_element-in-Element
returns-in_err-check_element-in-Element c =
    let d = c.args.self.now in
    let s = c.in-Element in
    let own = option_map (λ l. map expr_of l.items) s.args in
    let first = element_faults (tree_in d) (component_in d) s.array own in
    let index = value_faults (component_in d) c.args.scope.now (expr_of s.index) in
    let rest = uses_faults (tree_in d) (component_in d) (values c.args.scope.now (args_of own)) in
    Answers-exit {Cause = Contains _} _ _ c.from_residual-in_err-check_element-in-Element.ensures.1 (λ f has. subst (λ v. Contains (uses_faults (tree_in d) (component_in d) (entry_uses c.args.scope.now (entry_of v))) f) (sym s.is) (Contains-append_left first (index ++ rest) f has)) c.in_err-check_element-in-Element.ensures

pub returns-in_err-check_value-in-Element : goal.returns-in_err-check_value-in-Element
returns-in_err-check_value-in-Element c =
    let d = c.args.self.now in
    let s = c.in-Element in
    let own = option_map (λ l. map expr_of l.items) s.args in
    let first = element_faults (tree_in d) (component_in d) s.array own in
    let index = value_faults (component_in d) c.args.scope.now (expr_of s.index) in
    let rest = uses_faults (tree_in d) (component_in d) (values c.args.scope.now (args_of own)) in
    Answers-exit {Cause = Contains _} _ _ c.from_residual-in_err-check_value-in-Element.ensures.1 (λ f has. subst (λ v. Contains (uses_faults (tree_in d) (component_in d) (entry_uses c.args.scope.now (entry_of v))) f) (sym s.is) (Contains-append_right first (index ++ rest) f (Contains-append_left index rest f has))) c.in_err-check_value-in-Element.ensures

pub returns-in_ok-check_value-in-Element : goal.returns-in_ok-check_value-in-Element
returns-in_ok-check_value-in-Element c =
    let d = c.args.self.now in
    let s = c.in-Element in
    let own = option_map (λ l. map expr_of l.items) s.args in
    let first = element_faults (tree_in d) (component_in d) s.array own in
    let index = value_faults (component_in d) c.args.scope.now (expr_of s.index) in
    let rest = uses_faults (tree_in d) (component_in d) (values c.args.scope.now (args_of own)) in
    let last = c.check_optional_values in
    subst (λ v. Judges (uses_faults (tree_in d) (component_in d) (entry_uses c.args.scope.now (entry_of v))) last.result) (sym s.is) (Judges_after first (index ++ rest) last.result c.in_ok-check_element-in-Element.ensures (Judges_after index rest last.result c.in_ok-check_value-in-Element.ensures last.ensures))
