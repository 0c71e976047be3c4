use Rattle.base.proofs.AnswerLaws.{Answers-exit}
use Rattle.darwin_walk.proofs.scope.inner_at.Goals as goal

pub returns-in_err-element-in-Some-Some : goal.returns-in_err-element-in-Some-Some
returns-in_err-element-in-Some-Some c =
    rw (c.in-Some-Some.is-0, c.in-Some-Some.is-1)
    (Answers-exit _ _ c.from_residual.ensures.1 (λ _ cause. cause) c.in_err-element-in-Some-Some.ensures)
