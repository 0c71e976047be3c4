use Rattle.merge_laws.proofs.GoingLemmas.{found}
use Rattle.merge_laws.proofs.going.all_ways_end_where_one_does.Goals as goal

pub returns : goal.returns
returns c = found
