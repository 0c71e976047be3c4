use Rattle.std.proofs.Common.{◌≡◌, ◌∙◌, ◌+◌, ℕ, [], List, Some, ap, arith, length, slice_get, subst, sym}
use Rattle.std.specs.List.{range_with_len}
use Rattle.change_plan.specs.Differences.{IsGone}
use Rattle.change_plan.specs.Selects.{Selects}
use Rattle.change_plan.specs.Selects.Selects.{ends}
use Rattle.change_plan.proofs.DifferenceLemmas.{not_gone}
use Rattle.change_plan.proofs.NodeLaws.{from_none, from_some}
use Rattle.change_plan.proofs.SelectsLaws.{places_pass, places_push}
use Rattle.change_plan.proofs.differences.list_gone.Goals as goal
use Rattle.base.proofs.PlaceLaws.{read_at}
use Rattle.change_plan.proofs.differences.list_gone.Goals.{then-is_none+in_ok-push, else-is_none}

pub loop-index-init : goal.loop-index-init
loop-index-init c = subst (Selects (IsGone c.args.graph.now c.args.other.now) []) (sym c.new-gone.ensures.items) ends

pub loop-index-preserved : goal.loop-index-preserved
loop-index-preserved c =
    let g = c.args.graph.now in
    let h = c.args.other.now in
    let i = c.loop-index.index in
    let n = c.node-item.result in
    let gone = c.loop-index.gone.items in
    let chosen = λ (items : List ℕ). Selects (IsGone g h) (range_with_len 0 (i + 1)) items in
    let here = read_at c.nodes-node-items.result.now g.nodes i n c.nodes-node-items.ensures.nodes c.loop-index-test.true c.node-item.is in
    elim c.if-is_none.branch [
      | then-is_none+in_ok-push w ↦
          subst chosen (sym (ap (λ v. v.items) w.gone-is ∙ w.in_ok-push.ensures.items)) (places_push (IsGone g h) i gone (record { node = n; here = here; gone = from_none c.twin_of.result c.is_none.result _ c.is_none.ensures w.if-is_none.true c.twin_of.ensures.missing }) c.loop-index.invariant)
      | else-is_none w ↦
          let there = from_some c.twin_of.result c.is_none.result (λ j. slice_get h.nodes j ≡ Some n) c.is_none.ensures w.if-is_none.false c.twin_of.ensures.found in
          subst chosen (sym (ap (λ v. v.items) w.gone-is)) (places_pass (IsGone g h) i gone (not_gone g h i n here there.0 there.1) c.loop-index.invariant)
    ]

pub returns-clause-gone : goal.returns-clause-gone
returns-clause-gone c =
    let g = c.args.graph.now in
    let count : length c.nodes-node-items.result.now ≡ length g.nodes = ap length c.nodes-node-items.ensures.nodes in
    let all : c.loop-index.index ≡ length g.nodes = omega (arith, count) in
    subst (λ n. Selects (IsGone g c.args.other.now) (range_with_len 0 n) c.loop-index.gone.items) all c.loop-index.invariant
