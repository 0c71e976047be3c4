use Rattle.std.proofs.Common.{refl}
use Rattle.quiesce_core.specs.declared.event.Event.TheVariants.{Link, Remove, Unlink}
use Rattle.change_apply.specs.Courses.{scene_after}
use Rattle.change_apply.proofs.CrowdLemmas.{change_may_come}
use Rattle.change_apply.proofs.laws.sessions_find_crowds_quiescent.Goals as goal

pub returns-clause-linked : goal.returns-clause-linked
returns-clause-linked c = λ h said w acts after p n x can start first may are.
    c.changes_find_crowds_quiescent.ensures.linked w acts p n x start may
    (change_may_come h.old w acts (scene_after h said).events after (Link p n x) (c.true_lines_are_allowed.ensures.told w acts start may) first
    (c.started_systems_are_reached.ensures h.old can.old_sound can.few_nodes can.few_ports).1 (c.sessions_keep_their_course.ensures h said can).run are (λ s. refl))

pub returns-clause-unlinked : goal.returns-clause-unlinked
returns-clause-unlinked c = λ h said w acts after p can start first may are.
    c.changes_find_crowds_quiescent.ensures.unlinked w acts p start may
    (change_may_come h.old w acts (scene_after h said).events after (Unlink p) (c.true_lines_are_allowed.ensures.told w acts start may) first
    (c.started_systems_are_reached.ensures h.old can.old_sound can.few_nodes can.few_ports).1 (c.sessions_keep_their_course.ensures h said can).run are (λ s. refl))

pub returns-clause-removed : goal.returns-clause-removed
returns-clause-removed c = λ h said w acts after n can start first may are.
    c.changes_find_crowds_quiescent.ensures.removed w acts n start may
    (change_may_come h.old w acts (scene_after h said).events after (Remove n) (c.true_lines_are_allowed.ensures.told w acts start may) first
    (c.started_systems_are_reached.ensures h.old can.old_sound can.few_nodes can.few_ports).1 (c.sessions_keep_their_course.ensures h said can).run are (λ s. refl))
