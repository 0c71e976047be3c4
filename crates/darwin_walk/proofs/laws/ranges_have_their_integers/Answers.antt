use Rattle.darwin_walk.proofs.ReachesLemmas.{integers_are}
use Rattle.darwin_walk.proofs.laws.ranges_have_their_integers.Goals as goal

pub returns : goal.returns
returns c = integers_are
