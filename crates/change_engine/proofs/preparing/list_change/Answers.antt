use Rattle.std.proofs.Common.{◌<◌, All, subst, sym}
use Rattle.std.specs.Prelude.{IfOk}
use Rattle.change_plan.specs.declared.plan_data.Plan.{Plan}
use Rattle.change_plan.specs.declared.plan_data.Shift.{Shift}
use Rattle.change_engine.specs.Engines.{IsFor, IsPlanned}
use Rattle.change_lists.proofs.PlanInLaws.{moves_in, plan_in}
use Rattle.change_engine.proofs.preparing.list_change.Goals as goal

pub of-requires : goal.of-requires
of-requires c =
    let w = c.requires.planned in
    let old = c.args.old.now in
    let new = c.args.new.now in
    let plan = c.args.plan.now in
    let places = plan_in old new w.1 plan w.2 w.4.new_graph w.4.is_plan in
    record {
      freeze = subst (λ n. All (λ i. i < n) plan.freeze) (sym c.node_count.ensures.count) places.freeze;
      remove = subst (λ n. All (λ i. i < n) plan.remove) (sym c.node_count.ensures.count) places.remove;
      moves = subst (λ n. All (λ (s : Shift). s.new < n) plan.moves) (sym c.node_count-2.ensures.count) (moves_in old new w.1 plan w.4.is_plan);
    }

pub list_by-requires : goal.list_by-requires
list_by-requires c =
    let w = c.requires.planned in
    record {
      planned = (w.0, w.1, w.2, w.3, subst (λ (p : Plan). IsPlanned c.args.old.now c.args.new.now w.1 p w.0) (sym c.in_ok-plan.ensures) w.4);
    }

pub returns-clause-for_plan : goal.returns-clause-for_plan
returns-clause-for_plan c =
    subst (λ (p : Plan). IfOk c.list_by.result (λ change. IsFor c.args.layout.now c.args.old.now c.args.new.now p change)) c.in_ok-plan.ensures c.list_by.ensures.for_plan
