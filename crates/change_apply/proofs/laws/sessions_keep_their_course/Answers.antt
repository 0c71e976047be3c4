use Rattle.std.proofs.Common.{◌∙◌, ◌<◌, [], map, length, sym, ap, subst}
use Rattle.std.specs.Prelude.{filter}
use Rattle.std.proofs.lemmas.List.{append-nil}
use Rattle.change_plan_laws.specs.Commit.{commit_events, reopened_ports}
use Rattle.quiesce_core.specs.declared.event.Event.TheVariants.{Reopen}
use Rattle.quiesce_core.specs.Doers.{is_of_change}
use Rattle.quiesce_core.specs.Live.{IsGraphOf}
use Rattle.quiesce_core.specs.Runs.{state_after}
use Rattle.quiesce_core.specs.State.{State, gate}
use Rattle.quiesce_laws.specs.Starts.{start_of}
use Rattle.change_apply.proofs.CourseLemmas.{course_after, open_at_first, same_asked}
use Rattle.change_apply.proofs.StandLemmas.{all_change}
use Rattle.change_apply.proofs.laws.sessions_keep_their_course.Goals as goal

pub returns : goal.returns
returns c = λ h said can.
    let first = state_after (start_of h.old) in
    let reached = c.started_systems_are_reached.ensures h.old can.old_sound can.few_nodes can.few_ports in
    course_after h said can (record {
      listed = λ d p. c.what_is_frozen_may_be_closed.ensures.all h.old h.plan d p;
      runs = λ es may. c.commits_can_not_fail.ensures.runs h.old h.new [] h.plan es may;
      graph = λ es may.
          let d = (state_after es).config in
          let opens = map Reopen (reopened_ports h.old h.new h.plan d) in
          c.commits_leave_the_new_graph.ensures.reopening h.old h.new [] h.plan es (commit_events h.old h.new h.plan d) opens [] may
          (all_change h.old h.new h.plan es (c.commits_can_not_fail.ensures.by_the_configuration h.old h.new [] h.plan es may)) (append-nil opens);
      by_steps = λ es may. c.commits_can_not_fail.ensures.by_the_configuration h.old h.new [] h.plan es may;
      left = λ es p may made unfrozen.
          let ce = commit_events h.old h.new h.plan (state_after es).config in
          c.what_is_not_frozen_is_left.ensures.gate h.old h.new [] h.plan es ce [] p may made unfrozen
          (append-nil (filter is_of_change ce) ∙ all_change h.old h.new h.plan es (c.commits_can_not_fail.ensures.by_the_configuration h.old h.new [] h.plan es may));
      closes = λ d same. same_asked h.old h.plan first.config d same;
      first_run = reached.0;
      first_is = reached.1;
      first_graph = subst (λ (s : State). IsGraphOf s.config h.old) (sym reached.1) (c.a_started_system_has_its_graph.ensures h.old can.old_sound can.few_nodes can.few_ports);
      first_open = λ p made.
          ap (λ (s : State). (gate s.config p).closed) reached.1
          ∙ open_at_first h.old p (subst (λ (s : State). p < length s.config.gates) reached.1 made);
    })
