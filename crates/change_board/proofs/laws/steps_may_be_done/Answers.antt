use Rattle.change_board.proofs.StepLaws.{may_do_all}
use Rattle.change_board.proofs.laws.steps_may_be_done.Goals as goal

pub returns : goal.returns
returns c = λ noted r es last_ f h. may_do_all noted r es last_ f h
