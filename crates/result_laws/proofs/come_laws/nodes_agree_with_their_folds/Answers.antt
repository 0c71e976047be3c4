use Rattle.result_laws.proofs.AgreeingLaws.{agreed}
use Rattle.result_laws.proofs.come_laws.nodes_agree_with_their_folds.Goals as goal

pub returns : goal.returns
returns c = record { agree = λ es run n m there kept s is. (agreed es run).made n m there kept s is }
