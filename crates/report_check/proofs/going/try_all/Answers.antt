use Rattle.std.proofs.Common.{◌≡◌, ◌∙◌, ◌+◌, ◌||◌, Bool, sym, ap, subst, arith}
use Rattle.report_check.specs.Ways.{IsSwept}
use Rattle.report_check.specs.Going.{left_behind}
use Rattle.report_check.proofs.LeadingLemmas.{first_swept, swept_all, swept_on}
use Rattle.report_check.proofs.WayLemmas.{log_beyond}
use Rattle.report_check.proofs.going.try_all.Goals as goal
use Rattle.report_check.proofs.going.try_all.Goals.{then-came, else-came}

pub loop-node-init : goal.loop-node-init
loop-node-init c = record { swept = first_swept _ _ _ c.in_ok-came.ensures.tried; placed = c.in_ok-came.ensures.placed }

pub loop-node-preserved : goal.loop-node-preserved
loop-node-preserved c =
    let came = c.loop-node.came in
    let one = c.in_ok-one.one in
    let is : c.if-came.came ≡ (came || one) =
    elim c.if-came.branch [
      | then-came w ↦ w.came-is ∙ w.if-came.true ∙ sym (ap (λ b. b || one) w.if-came.true)
      | else-came w ↦ w.came-is ∙ sym (ap (λ b. b || one) w.if-came.false)
    ] in
    let x = left_behind c.args.way.now c.args.history.now c.args.logs.now in
    let z = left_behind c.try_one-in-loop-node.new.way c.args.history.now c.args.logs.now in
    record {
      swept = subst (λ (b : Bool). IsSwept x b z (c.loop-node.node + 1)) (sym is) (swept_on x came _ c.loop-node.node one z c.loop-node.invariant.swept c.in_ok-one.ensures.tried);
      placed = c.in_ok-one.ensures.placed;
    }

pub returns-clause-passed : goal.returns-clause-passed
returns-clause-passed c =
    swept_all _ _ _ _ c.loop-node.invariant.swept
    (λ m le. log_beyond c.loop-node.way c.args.history.now c.args.logs.now m c.loop-node.invariant.placed (omega (arith, le, c.loop-node-test.false)))
