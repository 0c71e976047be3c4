use Rattle.std.proofs.Common.{◌∙◌, ◌+◌, ℕ, [], List, ap, subst, sym}
use Rattle.std.proofs.lemmas.Bool.{false≢true}
use Rattle.std.specs.List.{range_with_len}
use Rattle.change_plan.specs.Selects.{Selects}
use Rattle.change_plan.specs.Selects.Selects.{ends}
use Rattle.change_plan.specs.Touched.{IsTouched}
use Rattle.change_plan.proofs.SelectsLaws.{places_pass, places_push}
use Rattle.change_plan.proofs.touching.list_touched.Goals as goal
use Rattle.change_plan.proofs.touching.list_touched.Goals.{then-is_touched+in_ok-push, else-is_touched}

pub loop-node-init : goal.loop-node-init
loop-node-init c = subst (Selects (IsTouched c.args.old.now c.args.new.now) []) (sym c.new-touched.ensures.items) ends

pub loop-node-preserved : goal.loop-node-preserved
loop-node-preserved c =
    let P = IsTouched c.args.old.now c.args.new.now in
    let i = c.loop-node.node in
    let touched = c.loop-node.touched.items in
    let chosen = λ (items : List ℕ). Selects P (range_with_len 0 (i + 1)) items in
    let is = c.is_touched.ensures in
    elim c.if-is_touched.branch [
      | then-is_touched+in_ok-push w ↦
          subst chosen (sym (ap (λ v. v.items) w.touched-is ∙ w.in_ok-push.ensures.items)) (places_push P i touched (is.0 w.if-is_touched.true) c.loop-node.invariant)
      | else-is_touched w ↦
          subst chosen (sym (ap (λ v. v.items) w.touched-is)) (places_pass P i touched (λ h. false≢true (sym w.if-is_touched.false ∙ is.1 h)) c.loop-node.invariant)
    ]
