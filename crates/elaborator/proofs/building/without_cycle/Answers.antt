use Rattle.base.proofs.AnswerLaws.{Answers-exit}
use Rattle.elaborator.proofs.building.without_cycle.Goals as goal

pub returns-in_err-check_cycle : goal.returns-in_err-check_cycle
returns-in_err-check_cycle c =
    Answers-exit _ _ c.from_residual.ensures.1 (λ f cause. cause) c.in_err-check_cycle.ensures
