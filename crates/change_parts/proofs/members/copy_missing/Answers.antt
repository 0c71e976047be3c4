use Rattle.std.proofs.Common.{◌≡◌, ◌∙◌, ◌+◌, [], ◌∷◌, ◌++◌, List, Some, ap, arith, slice_get, subst, sym, take, Contains}
use Rattle.std.proofs.lemmas.List.{take_all}
use Rattle.config_graph.specs.declared.node.Node.{Node}
use Rattle.change_plan.specs.Selects.{Selects}
use Rattle.change_plan.specs.Selects.Selects.{ends}
use Rattle.change_plan.proofs.NodeLaws.{from_none, from_some}
use Rattle.change_plan.proofs.SelectsLaws.{elements_pass, elements_push}
use Rattle.base.proofs.ContainsLaws.{Contains-at}
use Rattle.change_parts.proofs.members.copy_missing.Goals as goal
use Rattle.change_parts.proofs.members.copy_missing.Goals.{then-is_none+in_ok-try_clone+in_ok-push, else-is_none}

pub loop-node-init : goal.loop-node-init
loop-node-init c = subst (Selects (λ n. ¬ Contains c.args.graph.now.nodes n) []) (sym c.new-copies.ensures.items) ends

pub loop-node-preserved : goal.loop-node-preserved
loop-node-preserved c =
    let g = c.args.graph.now in
    let nodes = c.args.nodes.now in
    let i = c.loop-node.node-index in
    let n = c.node-item.result in
    let copies = c.loop-node.copies.items in
    let P : Node → Type 0 = λ m. ¬ Contains g.nodes m in
    let low = c.loop-node-test.true in
    let chosen = λ (items : List Node). Selects P (take (i + 1) nodes) items in
    elim c.if-is_none.branch [
      | then-is_none+in_ok-try_clone+in_ok-push w ↦
          let lacks : P n = from_none c.place_of.result c.is_none.result (P n) c.is_none.ensures w.if-is_none.true c.place_of.ensures.missing in
          subst chosen (sym (ap (λ v. v.items) w.copies-is ∙ w.in_ok-push.ensures.items ∙ ap (λ (m : Node). copies ++ m ∷ []) (w.in_ok-try_clone.ensures ∙ c.node-item.is)))
          (elements_push P nodes copies i n low (subst P c.node-item.is lacks) c.loop-node.invariant)
      | else-is_none w ↦
          let there = from_some c.place_of.result c.is_none.result (λ j. slice_get g.nodes j ≡ Some n) c.is_none.ensures w.if-is_none.false c.place_of.ensures.found in
          subst chosen (sym (ap (λ v. v.items) w.copies-is))
          (elements_pass P nodes copies i n low (λ missing. subst P (sym c.node-item.is) missing (Contains-at g.nodes there.0 n there.1)) c.loop-node.invariant)
    ]

pub returns : goal.returns
returns c =
    subst (λ (xs : List Node). Selects (λ n. ¬ Contains c.args.graph.now.nodes n) xs c.loop-node.copies.items) (take_all c.loop-node.node-index c.args.nodes.now (omega (arith, c.loop-node-test.false))) c.loop-node.invariant
