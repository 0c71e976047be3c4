use Rattle.std.proofs.Common.{◌≡◌, ◌∙◌, ◌++◌, [], map, refl, ap, sym, subst}
use Rattle.std.specs.Prelude.{fold}
use Rattle.std.proofs.lemmas.List.{append-nil}
use Rattle.change_plan_laws.specs.Commit.{reopened_ports}
use Rattle.quiesce_core.specs.declared.event.Event.TheVariants.{Reopen}
use Rattle.quiesce_core.specs.Effect.{effect}
use Rattle.quiesce_core.specs.Live.{IsGraphOf}
use Rattle.quiesce_core.specs.Runs.{state_after}
use Rattle.quiesce_core.specs.State.{State, empty}
use Rattle.quiesce_core.proofs.StepsLaws.{end_is}
use Rattle.quiesce_laws.proofs.MeanwhileLaws.{after_more}
use Rattle.quiesce_laws.proofs.TurningLaws.{same_graph}
use Rattle.crowd_laws.specs.Acts.{events_told, world_after}
use Rattle.crowd_laws.proofs.Going.{holds_on, holds_then, steps_told}
use Rattle.crowd_laws.proofs.Holding.{holds_first}
use Rattle.crowd_laws.proofs.Staying.{same_steps}
use Rattle.crowd_laws.proofs.TakingOver.{over_then}
use Rattle.crowd_laws.proofs.sessions.sessions_follow_one_another.Goals as goal

pub returns-clause-committed : goal.returns-clause-committed
returns-clause-committed c = λ w acts more_ old new moves plan es shut s may later at may_commit is few_nodes few_ports.
    let v = world_after w acts in
    let u = world_after v more_ in
    let h = holds_then w acts s may in
    let told = events_told v more_ in
    let there : u.machine ≡ state_after (es ++ told) = end_is v.machine u.machine told (steps_told v more_ h later) ∙ ap (λ (t : State). fold effect t told) at ∙ sym (after_more empty es told) in
    let opened = map Reopen (reopened_ports old new plan (state_after es).config) in
    over_then u new shut (holds_on v more_ h later)
    (subst (λ (t : State). IsGraphOf t.config new) (sym there)
    (c.commits_leave_the_new_graph.ensures.reopening old new moves plan es told opened [] may_commit is (append-nil opened)))
    few_nodes few_ports

pub returns-clause-given_up : goal.returns-clause-given_up
returns-clause-given_up c = λ w acts old shut s may graph none_ few_nodes few_ports.
    let v = world_after w acts in
    over_then v old shut (holds_then w acts s may)
    (same_graph w.machine.config v.machine.config old (same_steps w.machine v.machine (events_told w acts) none_ (steps_told w acts (holds_first w s) may)) graph)
    few_nodes few_ports
