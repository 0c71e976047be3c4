use Rattle.std.proofs.lemmas.List.Elements.{Contains-append_left}
use Rattle.base.proofs.AnswerLaws.{Answers-exit}
use Rattle.darwin_walk.proofs.CauseLaws.{fault-grow}
use Rattle.darwin_walk.proofs.walking.binding_at.Goals as goal

pub returns-in_err-left : goal.returns-in_err-left
returns-in_err-left c = Answers-exit _ _ c.from_residual.ensures.1 (fault-grow _ _ _ (Contains-append_left _ _)) c.in_err-left.ensures
