use Rattle.std.proofs.Common.{◌++◌, ◌∷◌, [], length, map, sym, ap, ◌∙◌, subst, arith}
use Rattle.std.proofs.lemmas.List.{length-map}
use Rattle.change_spec.specs.Members.{lines_of_events}
use Rattle.report_types.specs.declared.report.HistoryLine.TheVariants as to
use Rattle.quiesce_core.specs.declared.event.Event.TheVariants as event
use Rattle.change_lists.specs.Layouts.{place_in}
use Rattle.change_engine.specs.Passivating.{HasPlaceFor}
use Rattle.change_engine.proofs.CommitRoom.{nodes_fit}
use Rattle.change_lists.proofs.PlanInLaws.{plan_in}
use Rattle.change_engine.proofs.PrepareLemmas.{ports_few}
use Rattle.change_lists.proofs.RangeLaws.{places_below}
use Rattle.change_engine.proofs.preparing.list_by.Goals as goal

pub list_commit-requires-clause-few : goal.list_commit-requires-clause-few
list_commit-requires-clause-few c =
    let w = c.requires.planned in
    let old = c.args.old.now in
    let new = c.args.new.now in
    omega (arith, ap length w.3.laid.places_are ∙ length-map w.0.slots (place_in old), nodes_fit old new w.1 c.args.plan.now w.0 w.4)

pub list_commit-requires-clause-few_ports : goal.list_commit-requires-clause-few_ports
list_commit-requires-clause-few_ports c =
    let w = c.requires.planned in
    omega (arith, ports_few c.args.old.now c.args.new.now w.1 c.args.plan.now w.0 c.args.layout.now w.4 w.3.laid)

pub list_commit-requires-clause-within : goal.list_commit-requires-clause-within
list_commit-requires-clause-within c =
    let w = c.requires.planned in
    (plan_in c.args.old.now c.args.new.now w.1 c.args.plan.now w.2 w.4.new_graph w.4.is_plan).create

pub list_commit-requires-clause-places : goal.list_commit-requires-clause-places
list_commit-requires-clause-places c =
    let w = c.requires.planned in
    places_below c.args.layout.now w.0 c.args.old.now w.3.laid

pub returns-clause-for_plan : goal.returns-clause-for_plan
returns-clause-for_plan c =
    let w = c.requires.planned in
    let old = c.args.old.now in
    let new = c.args.new.now in
    let plan = c.args.plan.now in
    let l = c.args.layout.now in
    let laws = c.layouts_tell_commits.ensures in
    let x = c.in_ok-commit.ensures in
    record {
      closed = λ d told. c.in_ok-closed.ensures ∙ sym (laws.closed old new w.1 plan d l w.2 w.4.new_graph w.4.is_plan told.graph told.laid);
      events = λ d told. x.events ∙ sym (laws.events old new w.1 plan d l w.2 w.4.new_graph w.4.is_plan told.graph told.laid);
      next_ = λ d told. laws.layout old new w.1 plan d l c.in_ok-commit.commit.next w.2 w.4.new_graph w.4.is_plan told.graph told.laid x.places x.ports;
      lines_are = c.in_ok-lines.ensures ∙ ap (λ es. lines_of_events es ++ to.Commit ∷ []) c.deref.ensures.value;
      reopens = c.in_ok-reopens.ensures ∙ ap (map event.Reopen) c.deref-2.ensures.value;
      reopen_lines = c.in_ok-reopen_lines.ensures ∙ ap (λ es. lines_of_events es ++ to.Abandon ∷ []) c.deref-3.ensures.value;
    }

pub returns-clause-waiting : goal.returns-clause-waiting
returns-clause-waiting c = subst (HasPlaceFor c.in_ok-waiting.waiting) c.len.ensures c.in_ok-waiting.ensures
