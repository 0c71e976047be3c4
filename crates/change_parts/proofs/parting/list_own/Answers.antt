use Rattle.std.proofs.Common.{◌∙◌, ◌+◌, ◌∷◌, ◌++◌, [], List, ap, arith, subst, sym, take}
use Rattle.std.proofs.lemmas.Bool.{false≢true}
use Rattle.std.proofs.lemmas.List.{take_all}
use Rattle.change_plan.specs.Selects.{Selects}
use Rattle.change_plan.specs.Selects.Selects.{ends}
use Rattle.change_plan.specs.declared.plan_data.Move.{Move}
use Rattle.change_plan.proofs.SelectsLaws.{elements_pass, elements_push}
use Rattle.change_parts.specs.Owning.{IsOwn}
use Rattle.change_parts.proofs.parting.list_own.Goals as goal
use Rattle.change_parts.proofs.parting.list_own.Goals.{then-is_own+in_ok-copy_move+in_ok-push, else-is_own}

pub loop-moved-init : goal.loop-moved-init
loop-moved-init c = subst (Selects (IsOwn c.args.old.now c.args.numbers.now c.args.before.now c.args.applied.now) []) (sym c.new-own.ensures.items) ends

pub loop-moved-preserved : goal.loop-moved-preserved
loop-moved-preserved c =
    let moves = c.args.moves.now in
    let i = c.loop-moved.moved-index in
    let m = c.moved-item.result in
    let own = c.loop-moved.own.items in
    let P : Move → Type 0 = IsOwn c.args.old.now c.args.numbers.now c.args.before.now c.args.applied.now in
    let low = c.loop-moved-test.true in
    let chosen = λ (items : List Move). Selects P (take (i + 1) moves) items in
    elim c.if-is_own.branch [
      | then-is_own+in_ok-copy_move+in_ok-push w ↦
          let has : P m = sym c.is_own.ensures ∙ w.if-is_own.true in
          subst chosen (sym (ap (λ v. v.items) w.own-is ∙ w.in_ok-push.ensures.items ∙ ap (λ (x : Move). own ++ x ∷ []) (w.in_ok-copy_move.ensures ∙ c.moved-item.is)))
          (elements_push P moves own i m low (subst P c.moved-item.is has) c.loop-moved.invariant)
      | else-is_own w ↦
          subst chosen (sym (ap (λ v. v.items) w.own-is))
          (elements_pass P moves own i m low (λ has. false≢true (sym w.if-is_own.false ∙ c.is_own.ensures ∙ subst P (sym c.moved-item.is) has)) c.loop-moved.invariant)
    ]

pub returns : goal.returns
returns c =
    subst (λ (xs : List Move). Selects (IsOwn c.args.old.now c.args.numbers.now c.args.before.now c.args.applied.now) xs c.loop-moved.own.items) (take_all c.loop-moved.moved-index c.args.moves.now (omega (arith, c.loop-moved-test.false))) c.loop-moved.invariant
