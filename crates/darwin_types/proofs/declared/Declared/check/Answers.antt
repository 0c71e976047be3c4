use Rattle.std.proofs.Common.{◌++◌}
use Rattle.std.specs.List.{flat_map}
use Rattle.std.proofs.lemmas.List.Elements.{Contains-append_left, Contains-append_right}
use Rattle.std.specs.List.{Contains}
use Rattle.base.proofs.AnswerLaws.{Answers-exit}
use Rattle.darwin_types.specs.NameUses.{port_uses, body_uses}
use Rattle.darwin_types.specs.Check.{uses_faults, arrays_faults, kind_faults}
use Rattle.darwin_types.specs.Within.{tree_in, component_in}
use Rattle.darwin_types.proofs.Judged.{Judges_after}
use Rattle.darwin_types.proofs.declared.Declared.check.Goals as goal

pub returns-in_err-check_ports : goal.returns-in_err-check_ports
returns-in_err-check_ports c =
    Answers-exit _ _ c.from_residual.ensures.1 (Contains-append_left _ _) (rw (c.requires.params, c.as_slice.ensures.value) at c.in_err-check_ports.ensures)

pub returns-in_err-check_arrays : goal.returns-in_err-check_arrays
returns-in_err-check_arrays c =
    Answers-exit {Cause = Contains _} _ _ c.from_residual-in_err-check_arrays.ensures.1 (λ f has. Contains-append_right _ _ f (Contains-append_left _ _ f has)) (rw (c.requires.params, c.as_slice-2.ensures.value) at c.in_err-check_arrays.ensures)

pub returns-in_err-check_body : goal.returns-in_err-check_body
returns-in_err-check_body c =
    let t = tree_in c.args.self.now in
    let k = component_in c.args.self.now in
    let ports = uses_faults t k (flat_map (port_uses k.params) k.ports) in
    let arrays = arrays_faults t k k.params k.arrays in
    let body = uses_faults t k (body_uses k.params k.body) in
    Answers-exit {Cause = Contains _} _ _ c.from_residual-in_err-check_body.ensures.1 (λ f has. Contains-append_right ports (arrays ++ (body ++ kind_faults k)) f (Contains-append_right arrays (body ++ kind_faults k) f (Contains-append_left body (kind_faults k) f has))) (rw (c.requires.params, c.as_slice-3.ensures.value) at c.in_err-check_body.ensures.judged)

pub returns : goal.returns
returns c =
    let ports = rw (c.requires.params, c.as_slice.ensures.value) at c.in_ok-check_ports.ensures in
    let arrays = rw (c.requires.params, c.as_slice-2.ensures.value) at c.in_ok-check_arrays.ensures in
    let body = rw (c.requires.params, c.as_slice-3.ensures.value) at c.in_ok-check_body.ensures.judged in
    Judges_after _ _ _ ports (Judges_after _ _ _ arrays (Judges_after _ _ _ body c.check_kind.ensures))
