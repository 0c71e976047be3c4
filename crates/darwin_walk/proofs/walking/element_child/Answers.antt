use Rattle.std.proofs.lemmas.List.Elements.{Contains-append_left}
use Rattle.base.proofs.AnswerLaws.{Answers-exit}
use Rattle.darwin_walk.proofs.CauseLaws.{fault-grow}
use Rattle.darwin_walk.proofs.walking.element_child.Goals as goal

pub returns-in_err-element : goal.returns-in_err-element
returns-in_err-element c = Answers-exit _ _ c.from_residual.ensures.1 (fault-grow _ _ _ (Contains-append_left _ _)) c.in_err-element.ensures
