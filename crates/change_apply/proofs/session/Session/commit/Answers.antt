use Rattle.std.proofs.Common.{◌≡◌, ◌∙◌, ◌++◌, ◌∷◌, [], append_assoc, map, refl, sym, ap}
use Rattle.std.proofs.lemmas.List.{append-nil}
use Rattle.change_spec.specs.Members.{lines_of_events}
use Rattle.change_plan_laws.specs.Commit.{commit_events, ports_to_close, reopened_ports}
use Rattle.quiesce_core.specs.declared.event.Event.TheVariants.{Reopen}
use Rattle.quiesce_core.specs.Runs.{state_after}
use Rattle.report_types.specs.declared.report.HistoryLine.TheVariants as to
use Rattle.change_apply.proofs.StandLemmas.{all_change, can_do, may_commit, state_done}
use Rattle.change_apply.proofs.session.Session.commit.Goals as goal

pub list_commit-requires : goal.list_commit-requires
list_commit-requires c =
    let w = c.requires.stands in
    record { planned = ((state_after w.0).config, [], w.1.is_graph, w.1.layout, w.1.planned) }

pub do_all-requires : goal.do_all-requires
do_all-requires c =
    let es = c.requires.stands.0 in
    let st = c.requires.stands.1 in
    let d = c.args.self.now in
    let cf = (state_after es).config in
    let tells = c.layouts_tell_commits.ensures in
    let closes : d.asked.items ≡ ports_to_close d.request.from.graph d.request.plan cf =
    st.closed ∙ sym (tells.closed d.request.from.graph d.request.to.graph [] d.request.plan cf d.layout st.is_graph st.planned.new_graph st.planned.is_plan st.graph st.layout) in
    let may = may_commit d es st closes (c.what_is_frozen_may_be_closed.ensures.all d.request.from.graph d.request.plan cf) (st.ready c.requires.ready) in
    let ce = commit_events d.request.from.graph d.request.to.graph d.request.plan cf in
    can_do es ce c.deref-2.result.now d.core.state st.state
    (c.deref-2.ensures.value ∙ c.in_ok-commit.ensures.events
    ∙ sym (tells.events d.request.from.graph d.request.to.graph [] d.request.plan cf d.layout st.is_graph st.planned.new_graph st.planned.is_plan st.graph st.layout))
    (c.commits_can_not_fail.ensures.runs d.request.from.graph d.request.to.graph [] d.request.plan es may)

pub returns : goal.returns
returns c es st =
    let d = c.args.self.now in
    let cf = (state_after es).config in
    let told = c.args.told.now.items in
    let tells = c.layouts_tell_commits.ensures in
    let listed = c.in_ok-commit.ensures in
    let closes : d.asked.items ≡ ports_to_close d.request.from.graph d.request.plan cf =
    st.closed ∙ sym (tells.closed d.request.from.graph d.request.to.graph [] d.request.plan cf d.layout st.is_graph st.planned.new_graph st.planned.is_plan st.graph st.layout) in
    let may = may_commit d es st closes (c.what_is_frozen_may_be_closed.ensures.all d.request.from.graph d.request.plan cf) (st.ready c.requires.ready) in
    let step = c.commits_can_not_fail.ensures.by_the_configuration d.request.from.graph d.request.to.graph [] d.request.plan es may in
    let ce = commit_events d.request.from.graph d.request.to.graph d.request.plan cf in
    let same : c.in_ok-commit.commit.events.items ≡ ce =
    listed.events ∙ sym (tells.events d.request.from.graph d.request.to.graph [] d.request.plan cf d.layout st.is_graph st.planned.new_graph st.planned.is_plan st.graph st.layout) in
    let opens = map Reopen (reopened_ports d.request.from.graph d.request.to.graph d.request.plan cf) in
    record {
      answer_is = refl;
      lines = c.in_ok-push.ensures.items ∙ ap (λ xs. xs ++ to.Commit ∷ []) c.in_ok-push_lines.ensures
          ∙ append_assoc told (lines_of_events c.deref.result.now) (to.Commit ∷ [])
          ∙ ap (λ xs. told ++ (lines_of_events xs ++ to.Commit ∷ [])) (c.deref.ensures.value ∙ same);
      change = refl;
      scene = refl;
      holds = record {
        state = state_done es ce c.deref-2.result.now d.core.state c.do_all.new.core.state st.state (c.deref-2.ensures.value ∙ same) c.in_ok-do_all.ensures;
        run = c.commits_can_not_fail.ensures.runs d.request.from.graph d.request.to.graph [] d.request.plan es may;
        graph = c.commits_leave_the_new_graph.ensures.reopening d.request.from.graph d.request.to.graph [] d.request.plan es ce opens [] may
            (all_change d.request.from.graph d.request.to.graph d.request.plan es step) (append-nil opens);
      };
    }
