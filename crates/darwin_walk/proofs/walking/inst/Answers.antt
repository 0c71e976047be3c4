use Rattle.std.proofs.lemmas.List.Elements.{Contains-append_left}
use Rattle.base.proofs.AnswerLaws.{Answers-exit}
use Rattle.darwin_walk.proofs.CauseLaws.{fault-grow}
use Rattle.darwin_walk.proofs.walking.inst.Goals as goal

pub returns-in_err-child : goal.returns-in_err-child
returns-in_err-child c = Answers-exit _ _ c.from_residual-in_err-child.ensures.1 (fault-grow _ _ _ (Contains-append_left _ _)) c.in_err-child.ensures
