use Rattle.quiesce_core.specs.Runs.{state_after}
use Rattle.quiesce_core.specs.State.{owner}
use Rattle.quiesce_core.specs.declared.event.Event.TheVariants.{Link, Unlink, Remove}
use Rattle.quiesce_laws.proofs.QuiescenceLaws.{quiescent_at}
use Rattle.quiesce_core.proofs.InductionLaws.{place}
use Rattle.quiesce_laws.proofs.quiescence.changes_find_nodes_quiescent.Goals as goal

pub returns : goal.returns
returns c = record {
  linked = λ before after p n x run. let here = place before after (Link p n x) run in quiescent_at before (owner (state_after before).config p) here.run here.legal.settled;
  unlinked = λ before after p run. let here = place before after (Unlink p) run in quiescent_at before (owner (state_after before).config p) here.run here.legal.settled;
  removed = λ before after n run. let here = place before after (Remove n) run in quiescent_at before n here.run here.legal.settled;
}
