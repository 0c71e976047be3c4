use Rattle.std.proofs.Common.{◌≡◌, ◌∙◌, sym, ap, subst}
use Rattle.change_apply.specs.Applied.{Place}
use Rattle.change_apply.specs.Courses.{Course, scene_after}
use Rattle.change_apply.specs.Promises.{StandsBehind}
use Rattle.change_apply.specs.Sessions.{Scene, change_in}
use Rattle.change_apply.specs.Written.{IsWritten}
use Rattle.change_apply.specs.declared.said.Ending.{Ending}
use Rattle.quiesce_core.specs.Runs.{IsRun}
use Rattle.change_apply.proofs.CrowdLemmas.{machine_in_crowd}
use Rattle.change_apply.proofs.EndLemmas.{end_by, end_in}
use Rattle.change_apply.proofs.PromiseLemmas.{finds_quiet, go_commits, heard_fits, reached_by, says_go, stands_behind}
use Rattle.change_apply.proofs.WrittenLemmas.{scene_is}
use Rattle.change_apply.proofs.promises.apply_promises.Goals as goal

pub returns-clause-run : goal.returns-clause-run
returns-clause-run c = λ r came at can reached.
    let there = reached_by r came at reached in (
      subst (λ (p : Place). IsRun p.scene.events) (sym there.1)
          (subst (λ (s : Scene). IsRun s.events) (sym (scene_is r there.0)) (c.sessions_keep_their_course.ensures (change_in r) there.0 can).run),
      subst (λ (p : Place). IsWritten p.text p.scene.events) (sym there.1) (c.sessions_write_their_run.ensures.written r there.0),
    )

pub returns-clause-quiescent : goal.returns-clause-quiescent
returns-clause-quiescent c = λ r came at w front back l e can reached is says_.
    let h = change_in r in
    let there = reached_by r came at reached in
    let said = there.0 in
    let done = c.sessions_write_their_run.ensures.places at.text at.scene.events w front back l e is says_ in
    let same : at.scene.events ≡ (scene_after h said).events = ap (λ (p : Place). p.scene.events) there.1 ∙ ap (λ (s : Scene). s.events) (scene_is r said) in (
      done,
      finds_quiet h (scene_after h said).events (record {
        linked = λ before after p n x are. c.sessions_find_nodes_quiescent.ensures.linked h said before after p n x can are;
        unlinked = λ before after p are. c.sessions_find_nodes_quiescent.ensures.unlinked h said before after p can are;
        removed = λ before after n are. c.sessions_find_nodes_quiescent.ensures.removed h said before after n can are;
        crowd_linked = λ v acts after p n x start first may are. c.sessions_find_crowds_quiescent.ensures.linked h said v acts after p n x can start first may are;
        crowd_unlinked = λ v acts after p start first may are. c.sessions_find_crowds_quiescent.ensures.unlinked h said v acts after p can start first may are;
        crowd_removed = λ v acts after n start first may are. c.sessions_find_crowds_quiescent.ensures.removed h said v acts after n can start first may are;
        there = λ v acts start first may. machine_in_crowd h.old v acts (c.true_lines_are_allowed.ensures.told v acts start may) first
            (c.started_systems_are_reached.ensures h.old can.old_sound can.few_nodes can.few_ports).1;
      }) done.before done.after e (sym same ∙ done.are),
    )

pub returns-clause-stands : goal.returns-clause-stands
returns-clause-stands c = λ r came before taken e can h.
    let there = reached_by r came h.place h.reached in
    let scene : h.place.scene ≡ scene_after (change_in r) there.0 = ap (λ (p : Place). p.scene) there.1 ∙ scene_is r there.0 in
    subst (λ (x : Ending). StandsBehind x (change_in r) h.place.scene.events) (sym h.is)
    (stands_behind (change_in r) h.place.scene h.place.answer (subst (λ (s : Scene). Course (change_in r) s) (sym scene) (c.sessions_keep_their_course.ensures (change_in r) there.0 can))
    (subst (λ (p : Place). end_in p.scene.phase ≡ end_by p.answer) (sym there.1) (heard_fits r there.0)) h.over)

pub returns-clause-committed : goal.returns-clause-committed
returns-clause-committed c = λ r said. ((λ is. says_go r said is), (λ is. go_commits r said is))

pub returns-clause-one : goal.returns-clause-one
returns-clause-one c = λ r came before taken e h read. c.one_input_has_one_answer.ensures r came before taken e h read
