use Rattle.std.proofs.lemmas.List.Elements.{Contains-append_left}
use Rattle.base.proofs.AnswerLaws.{Answers-exit}
use Rattle.darwin_types.proofs.Judged.{Judges_after}
use Rattle.darwin_types.proofs.declared.Declared.check_single.Goals as goal

pub returns-in_err-check_clash : goal.returns-in_err-check_clash
returns-in_err-check_clash c =
    Answers-exit _ _ c.from_residual.ensures.1 (Contains-append_left _ _) c.in_err-check_clash.ensures

pub returns : goal.returns
returns c = Judges_after _ _ _ c.in_ok-check_clash.ensures c.check_call.ensures
