use Rattle.std.proofs.Common.{◌∷◌, [], ◌++◌, arith}
use Rattle.quiesce_core.specs.declared.event.Event.TheVariants.{Begin}
use Rattle.quiesce_core.specs.Runs.{state_after}
use Rattle.quiesce_core.proofs.RunLaws.{runs_are_well_formed, runs_are_consistent, last_step}
use Rattle.quiesce_laws.proofs.Steps.{rest_falls, rest_stays, rest_rises}
use Rattle.quiesce_laws.proofs.falling.rest_falls_in_runs.Goals as goal

pub returns-clause-falls : goal.returns-clause-falls
returns-clause-falls c es e run h =
    let w = last_step es e run in
    omega (arith, rest_falls (state_after es) (state_after (es ++ e ∷ [])) e (runs_are_well_formed es w.0) (runs_are_consistent es w.0) w.1 h)

pub returns-clause-stays : goal.returns-clause-stays
returns-clause-stays c es e run no_begin =
    let w = last_step es e run in
    rest_stays (state_after es) (state_after (es ++ e ∷ [])) e (runs_are_well_formed es w.0) (runs_are_consistent es w.0) w.1 no_begin

pub returns-clause-rises : goal.returns-clause-rises
returns-clause-rises c es p k v to run leads =
    let w = last_step es (Begin p k v) run in
    rest_rises (state_after es) (state_after (es ++ Begin p k v ∷ [])) p k v to (runs_are_well_formed es w.0) (runs_are_consistent es w.0) w.1 leads
