-- What a session does next, the change may do in the crowd.
use Rattle.std.proofs.Common.{◌≡◌, ◌∙◌, List, ◌∷◌, ◌++◌, true, fold, sym, ap, subst}
use Rattle.config_graph.specs.Graph.{Graph}
use Rattle.crowd_laws.specs.Acts.{Act, MayChange, events_told, is_change, world_after}
use Rattle.crowd_laws.specs.Crowds.{World}
use Rattle.quiesce_core.specs.declared.event.Event.{Event}
use Rattle.quiesce_core.specs.Effect.{effect}
use Rattle.quiesce_core.specs.Runs.{IsRun, Steps, state_after}
use Rattle.quiesce_core.specs.Start.{started}
use Rattle.quiesce_core.specs.State.{State, empty}
use Rattle.quiesce_core.proofs.RunLaws.{run_parts}
use Rattle.quiesce_core.proofs.StepsLaws.{end_is}
use Rattle.quiesce_laws.specs.Starts.{start_of}
use Rattle.quiesce_laws.proofs.MeanwhileLaws.{after_more}

-- where the machine of a crowd is
pub machine_in_crowd : (g : Graph) (w : World) (acts : List Act) → Steps w.machine (events_told w acts) (world_after w acts).machine → w.machine ≡ started g → state_after (start_of g) ≡ started g
    → (world_after w acts).machine ≡ state_after (start_of g ++ events_told w acts)
machine_in_crowd g w acts steps first is =
    let told = events_told w acts in
    end_is w.machine (world_after w acts).machine told steps ∙ ap (λ s. fold effect s told) (first ∙ sym is) ∙ sym (after_more empty (start_of g) told)

pub change_may_come : (g : Graph) (w : World) (acts : List Act) (events after : List Event) (e : Event) → Steps w.machine (events_told w acts) (world_after w acts).machine
    → w.machine ≡ started g → state_after (start_of g) ≡ started g → IsRun events → events ≡ (start_of g ++ events_told w acts) ++ e ∷ after
    → ((s : State) → is_change s e ≡ true) → MayChange (world_after w acts).machine e
change_may_come g w acts events after e steps first is run are one =
    let told = events_told w acts in
    subst (λ s. MayChange s e) (sym (machine_in_crowd g w acts steps first is))
    (record { is_one = one (state_after (start_of g ++ told)); allowed = (run_parts (start_of g ++ told) (e ∷ after) (subst IsRun are run)).1.0.allowed })
