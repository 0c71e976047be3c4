use Rattle.elaborator_laws.proofs.Whole.{same_description-sym, accepted-like}
use Rattle.elaborator_laws.proofs.laws.order_means_nothing.Goals as goal

pub returns : goal.returns
returns c = λ tree other name arguments g same.
    (accepted-like tree other name arguments g same, accepted-like other tree name arguments g (same_description-sym tree other same))
