use Rattle.base.proofs.AnswerLaws.{Answers-exit}
use Rattle.darwin_walk.proofs.walking.child_at.Goals as goal

pub returns-in_err-arguments-in-Single : goal.returns-in_err-arguments-in-Single
returns-in_err-arguments-in-Single c =
    rw (c.in-Single.is, ← c.deref.ensures.value)
    (Answers-exit _ _ c.from_residual.ensures.1 (λ _ cause. cause) c.in_err-arguments-in-Single.ensures)
