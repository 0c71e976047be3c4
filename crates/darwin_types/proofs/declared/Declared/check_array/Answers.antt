use Rattle.std.proofs.lemmas.List.Elements.{Contains-append_left, Contains-append_right}
use Rattle.std.specs.List.{Contains}
use Rattle.base.proofs.AnswerLaws.{Answers-exit}
use Rattle.darwin_types.proofs.Judged.{Judges_after}
use Rattle.darwin_types.proofs.declared.Declared.check_array.Goals as goal

pub returns-in_err-check_array_component : goal.returns-in_err-check_array_component
returns-in_err-check_array_component c =
    Answers-exit _ _ c.from_residual.ensures.1 (Contains-append_left _ _) c.in_err-check_array_component.ensures

pub returns-in_err-check_value : goal.returns-in_err-check_value
returns-in_err-check_value c =
    Answers-exit {Cause = Contains _} _ _ c.from_residual-in_err-check_value.ensures.1 (λ f has. Contains-append_right _ _ f (Contains-append_left _ _ f has)) c.in_err-check_value.ensures

pub returns : goal.returns
returns c =
    Judges_after _ _ _ c.in_ok-check_array_component.ensures (Judges_after _ _ _ c.in_ok-check_value.ensures c.check_optional_values.ensures)
