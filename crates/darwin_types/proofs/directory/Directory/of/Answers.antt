use Rattle.std.proofs.Common.{sym, subst, ap, map, ◌∙◌}
use Rattle.std.specs.List.{Contains, flat_map}
use Rattle.std.proofs.lemmas.List.Elements.{Contains-append_left, Contains-append_right}
use Rattle.base.proofs.AnswerLaws.{Answers-exit}
use Rattle.darwin_parser.specs.Tree.{component_of}
use Rattle.darwin_types.specs.declared.error.TypeError.TheVariants.{TwoComponents}
use Rattle.darwin_types.specs.Check.{repeat_faults, port_faults, components_of}
use Rattle.darwin_types.proofs.Components.{names_of_components-pure}
use Rattle.darwin_types.proofs.Judged.{flat_map-done, none-append}
use Rattle.darwin_types.proofs.directory.Directory.of.Goals as goal
use Rattle.base.proofs.ContainsLaws.{Contains-from}

pub returns-in_err-names-clause-judged : goal.returns-in_err-names-clause-judged
returns-in_err-names-clause-judged c =
    let cs = c.args.components.now in
    Answers-exit {Cause = Contains _} _ _ c.from_residual.ensures.1
    (λ f has. Contains-append_left (repeat_faults TwoComponents (map (λ d. d.name) (components_of cs))) (flat_map port_faults (components_of cs)) f (subst (λ ns. Contains (repeat_faults TwoComponents ns) f) (sym (names_of_components-pure cs)) has))
    c.in_err-names.ensures.judged

pub returns-in_err-ports_of-clause-judged : goal.returns-in_err-ports_of-clause-judged
returns-in_err-ports_of-clause-judged c =
    let cs = c.args.components.now in
    Answers-exit {Cause = Contains _} _ _ c.from_residual-in_err-ports_of.ensures.1
    (λ f has. Contains-append_right (repeat_faults TwoComponents (map (λ d. d.name) (components_of cs))) (flat_map port_faults (components_of cs)) f (Contains-from port_faults component_of cs c.loop-component.component-index c.component-item.result _ c.loop-component-test.true c.component-item.is c.loop-component.invariant.rest f has))
    c.in_err-ports_of.ensures.judged

pub returns-clause-judged : goal.returns-clause-judged
returns-clause-judged c =
    let cs = c.args.components.now in
    none-append (repeat_faults TwoComponents (map (λ d. d.name) (components_of cs))) (flat_map port_faults (components_of cs)) (ap (repeat_faults TwoComponents) (names_of_components-pure cs) ∙ c.in_ok-names.ensures.judged) (flat_map-done port_faults component_of cs c.loop-component.component-index (flat_map port_faults (components_of cs)) c.loop-component-test.false c.loop-component.invariant.rest)
