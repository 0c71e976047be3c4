use Rattle.merge_laws.proofs.StuckLemmas.{some_way}
use Rattle.merge_laws.proofs.going.some_way_goes_on_no_more.Goals as goal

pub returns : goal.returns
returns c = some_way
