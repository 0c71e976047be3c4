use Rattle.std.proofs.Common.{◌∙◌, ◌+◌, [], List, ap, subst, sym, take}
use Rattle.std.proofs.lemmas.Bool.{false≢true}
use Rattle.std.proofs.lemmas.List.{take_all}
use Rattle.config_graph.specs.declared.node.Link.{Link}
use Rattle.change_plan.specs.Differences.{IsKeptLink}
use Rattle.change_plan.specs.Selects.{Selects}
use Rattle.change_plan.specs.Selects.Selects.{ends}
use Rattle.change_plan.proofs.SelectsLaws.{elements_pass, elements_push}
use Rattle.change_plan.proofs.differences.list_gone_links.Goals as goal
use Rattle.change_plan.proofs.differences.list_gone_links.Goals.{then-not-is_kept+in_ok-push, else-not-is_kept}

pub loop-link-init : goal.loop-link-init
loop-link-init c = subst (Selects (λ k. ¬ IsKeptLink c.args.graph.now c.args.other.now k) []) (sym c.new-gone.ensures.items) ends

pub loop-link-preserved : goal.loop-link-preserved
loop-link-preserved c =
    let P = λ (k : Link). ¬ IsKeptLink c.args.graph.now c.args.other.now k in
    let links = c.links-link-items.result.now in
    let i = c.loop-link.link-index in
    let chosen = λ (items : List Link). Selects P (take (i + 1) links) items in
    let kept = c.is_kept.ensures in
    elim c.if-not-is_kept.branch [
      | then-not-is_kept+in_ok-push w ↦
          subst chosen (sym (ap (λ v. v.items) w.gone-is ∙ w.in_ok-push.ensures.items)) (elements_push P links c.loop-link.gone.items i _ c.loop-link-test.true (λ k. false≢true (sym w.if-not-is_kept.true ∙ kept.1 k)) c.loop-link.invariant)
      | else-not-is_kept w ↦
          subst chosen (sym (ap (λ v. v.items) w.gone-is)) (elements_pass P links c.loop-link.gone.items i _ c.loop-link-test.true (λ lost. lost (kept.0 w.if-not-is_kept.false)) c.loop-link.invariant)
    ]

pub returns : goal.returns
returns c =
    let P = λ (k : Link). ¬ IsKeptLink c.args.graph.now c.args.other.now k in
    let all = take_all c.loop-link.link-index c.links-link-items.result.now c.loop-link-test.false ∙ c.links-link-items.ensures in
    subst (λ links. Selects P links c.loop-link.gone.items) all c.loop-link.invariant
