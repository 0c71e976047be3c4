use Rattle.std.proofs.Common.{ap, sym, subst, ◌∙◌, ◌++◌, [], ◌∷◌, length, drop, take, map, ◌+◌, Bool, arith}
use Rattle.std.specs.List.{flat_map}
use Rattle.std.proofs.lemmas.List.{length-map, take_all}
use Rattle.std.specs.List.{Contains}
use Rattle.base.proofs.AnswerLaws.{Answers-exit}
use Rattle.base.proofs.ContainsLaws.{Contains-from}
use Rattle.base.proofs.MapLaws.{map-map, map-take_more}
use Rattle.darwin_parser.specs.declared.tree.Component as code
use Rattle.darwin_parser.specs.Tree.{component_of}
use Rattle.darwin_types.specs.Scope.{is_primitive}
use Rattle.darwin_types.specs.Check.{components_of, component_faults, names_in_component}
use Rattle.darwin_types.proofs.Components.{ports_at}
use Rattle.darwin_types.proofs.Judged.{flat_map-drop, flat_map-done}
use Rattle.darwin_types.proofs.checking.check_each.Goals as goal

abbrev is_noted : code.Component → Bool
is_noted x = is_primitive (component_of x)

pub check_component-requires : goal.check_component-requires
check_component-requires c =
    let d = c.args.directory.now in
    ports_at d.components.now d.ports.items c.loop-index.index c.index-directory-index.result c.index.result.now d.with_ports c.loop-index-test.true c.index-directory-index.is c.index.ensures ∙ ap names_in_component c.index-directory-index.is

pub index-requires : goal.index-requires
index-requires c =
    let d = c.args.directory.now in
    omega (arith, ap length d.with_ports ∙ length-map d.components.now names_in_component, d.ports.ok.0, c.loop-index-test.true)

pub returns-in_err-noted-clause-judged : goal.returns-in_err-noted-clause-judged
returns-in_err-noted-clause-judged c =
    let cs = c.args.directory.now.components.now in
    let t = components_of cs in
    Answers-exit {Cause = Contains _} _ _ c.from_residual.ensures.1
    (λ f has.
    Contains-from (component_faults t) component_of cs c.loop-index.index c.index-directory-index.result _ c.loop-index-test.true c.index-directory-index.is c.loop-index.invariant.rest f
    (subst (λ x. Contains (component_faults t (component_of x)) f) (sym c.index-directory-index.is) has))
    c.in_err-noted.ensures.judged

pub loop-index-preserved : goal.loop-index-preserved
loop-index-preserved c =
    let cs = c.args.directory.now.components.now in
    let t = components_of cs in
    let i = c.loop-index.index in
    let x = c.index-directory-index.result in
    let is = c.index-directory-index.is in
    record {
      rest =
          c.loop-index.invariant.rest ∙ flat_map-drop (component_faults t) component_of cs i x c.loop-index-test.true c.index-directory-index.is
          ∙ ap (λ fs. fs ++ flat_map (component_faults t) (components_of (drop (i + 1) cs))) (ap (λ y. component_faults t (component_of y)) is ∙ c.in_ok-noted.ensures.judged);
      noted =
          c.in_ok-push.ensures.items ∙ ap (λ bs. bs ++ c.in_ok-noted.noted ∷ []) (c.loop-index.invariant.noted ∙ map-map is_primitive component_of (take i cs))
          ∙ ap (λ b. map is_noted (take i cs) ++ b ∷ []) (c.in_ok-noted.ensures.primitive ∙ ap is_noted (sym is))
          ∙ sym (map-map is_primitive component_of (take (i + 1) cs) ∙ map-take_more is_noted cs i x c.loop-index-test.true c.index-directory-index.is);
    }

pub returns-clause-judged : goal.returns-clause-judged
returns-clause-judged c =
    let cs = c.args.directory.now.components.now in
    flat_map-done (component_faults (components_of cs)) component_of cs c.loop-index.index _ c.loop-index-test.false c.loop-index.invariant.rest

pub returns-clause-primitive : goal.returns-clause-primitive
returns-clause-primitive c =
    let cs = c.args.directory.now.components.now in
    c.loop-index.invariant.noted ∙ ap (λ ds. map is_primitive (components_of ds)) (take_all c.loop-index.index cs c.loop-index-test.false)
