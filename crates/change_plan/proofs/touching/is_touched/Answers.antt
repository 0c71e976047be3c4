use Rattle.std.proofs.Common.{refl}
use Rattle.change_plan.proofs.DifferenceLemmas.{touched_none, touched_some}
use Rattle.change_plan.proofs.touching.is_touched.Goals as goal

pub returns-in-None : goal.returns-in-None
returns-in-None c =
    let touched = touched_none c.args.old.now c.args.new.now c.args.node c.node.result.now c.node.ensures c.in-None.ensures.missing in
    (λ t. touched, λ h. refl)

pub returns-in-Some : goal.returns-in-Some
returns-in-Some c =
    let touched = touched_some c.args.old.now c.args.new.now c.args.node c.node.result.now c.in-Some.twin c.node.ensures c.in-Some.ensures.found in
    let new = c.has_new_target.ensures in
    (λ t. touched.0 (new.0 t), λ h. new.1 (touched.1 h))
