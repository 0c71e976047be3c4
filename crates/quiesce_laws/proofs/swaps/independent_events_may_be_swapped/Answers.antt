use Rattle.quiesce_laws.proofs.SwapLemmas as laws
use Rattle.quiesce_laws.proofs.swaps.independent_events_may_be_swapped.Goals as goal

pub returns : goal.returns
returns c = laws.may_be_swapped
