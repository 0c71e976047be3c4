use Rattle.std.proofs.Common.{◌∙◌, ◌+◌, List, ap, subst, sym}
use Rattle.change_plan.specs.declared.plan_data.Shift.{Shift}
use Rattle.change_plan.proofs.MoveLemmas.{ListedBelow, listed_push, listed_skip}
use Rattle.change_plan.proofs.moving.list_by_target.Goals as goal
use Rattle.change_plan.proofs.moving.list_by_target.Goals.{in-Some+in_ok-push, in_default}

pub loop-new-preserved : goal.loop-new-preserved
loop-new-preserved c =
    let targets = c.args.targets.now in
    let n = c.loop-new.new in
    let shifts = c.loop-new.shifts.items in
    let listed = λ (items : List Shift). ListedBelow targets (n + 1) items in
    elim c.match-source.branch [
      | in-Some+in_ok-push w ↦
          subst listed (sym (ap (λ v. v.items) w.shifts-is ∙ w.in_ok-push.ensures.items)) (listed_push targets n shifts c.loop-new.invariant w.in-Some.old w.in-Some.is)
      | in_default w ↦
          subst listed (sym (ap (λ v. v.items) w.shifts-is)) (listed_skip targets n shifts c.loop-new.invariant w.in_default.is)
    ]
