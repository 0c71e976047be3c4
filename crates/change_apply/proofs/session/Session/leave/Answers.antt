use Rattle.std.proofs.Common.{◌≡◌, ◌∙◌, ◌++◌, ◌∷◌, [], true, append_assoc, map, refl, sym, ap, subst}
use Rattle.std.specs.Prelude.{All}
use Rattle.change_spec.specs.Members.{lines_of_events}
use Rattle.change_plan_laws.specs.Commit.{ports_to_close}
use Rattle.quiesce_laws.proofs.TurningLaws.{same_graph}
use Rattle.quiesce_core.specs.declared.event.Event.TheVariants.{Reopen}
use Rattle.quiesce_core.specs.Rules.{is_live_port}
use Rattle.quiesce_core.specs.Runs.{state_after}
use Rattle.report_types.specs.declared.report.HistoryLine.TheVariants as to
use Rattle.change_apply.specs.Sessions.{asked}
use Rattle.change_apply.specs.Standing.{change_of}
use Rattle.change_apply.specs.declared.said.Phase.TheVariants as phase
use Rattle.change_apply.proofs.StandLemmas.{can_do, closed_are_live, holds_left, are_opened, reopen_lines, state_done}
use Rattle.change_apply.proofs.session.Session.leave.Goals as goal

pub do_all-requires : goal.do_all-requires
do_all-requires c =
    let es = c.requires.stands.0 in
    let st = c.requires.stands.1 in
    let d = c.args.self.now in
    let cf = (state_after es).config in
    let closes : d.asked.items ≡ ports_to_close d.request.from.graph d.request.plan cf =
    st.closed ∙ sym (c.layouts_tell_commits.ensures.closed d.request.from.graph d.request.to.graph [] d.request.plan cf d.layout st.is_graph st.planned.new_graph st.planned.is_plan st.graph st.layout) in
    let on = are_opened es d.asked.items st.run (closed_are_live d es st closes) in
    can_do es (map Reopen d.asked.items) c.deref-3.result.now d.core.state st.state
    (c.deref-3.ensures.value ∙ c.in_ok-events.ensures ∙ ap (map Reopen) c.deref.ensures.value) on.run

pub returns : goal.returns
returns c es st =
    let d = c.args.self.now in
    let cf = (state_after es).config in
    let told = c.args.told.now.items in
    let ps = asked (change_of d) in
    let closes : d.asked.items ≡ ports_to_close d.request.from.graph d.request.plan cf =
    st.closed ∙ sym (c.layouts_tell_commits.ensures.closed d.request.from.graph d.request.to.graph [] d.request.plan cf d.layout st.is_graph st.planned.new_graph st.planned.is_plan st.graph st.layout) in
    let on = are_opened es ps st.run (subst (λ qs. All (λ p. is_live_port cf p ≡ true) qs) st.asked_are (closed_are_live d es st closes)) in
    let after = state_after (es ++ map Reopen ps) in
    let opened = lines_of_events c.deref-2.result.now in
    let last = to.Abandon ∷ [] in
    let same : c.in_ok-events.events.items ≡ map Reopen ps = c.in_ok-events.ensures ∙ ap (map Reopen) (c.deref.ensures.value ∙ st.asked_are) in
    record {
      answer_is = refl;
      lines = c.in_ok-push.ensures.items ∙ ap (λ xs. xs ++ last) c.in_ok-push_lines.ensures ∙ append_assoc told opened last
          ∙ ap (λ l. told ++ (l ++ last)) (ap lines_of_events (c.deref-2.ensures.value ∙ same) ∙ reopen_lines ps);
      change = refl;
      scene = refl;
      holds = holds_left c.args.answer (record d { core = c.do_all.new.core; phase = phase.Left }) (es ++ map Reopen ps) (change_of d) c.requires.ends (record {
        state = state_done es (map Reopen ps) c.deref-3.result.now d.core.state c.do_all.new.core.state st.state (c.deref-3.ensures.value ∙ same) c.in_ok-do_all.ensures;
        run = on.run;
        graph = same_graph cf after.config d.request.from.graph on.links st.graph;
      });
    }
