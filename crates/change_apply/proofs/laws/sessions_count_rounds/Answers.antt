use Rattle.change_apply.proofs.RoundLemmas.{left_after}
use Rattle.change_apply.proofs.laws.sessions_count_rounds.Goals as goal

pub returns : goal.returns
returns c = λ h said going. left_after h said going
