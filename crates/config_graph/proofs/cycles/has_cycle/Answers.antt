use Rattle.std.proofs.Common.{◌≡◌, ◌∙◌, ◌↔◌, ap, arith, not, subst, sym, true}
use Rattle.std.specs.List.{list_any}
use Rattle.config_graph.specs.Cycles.{HasCycle}
use Rattle.config_graph.proofs.ClosureLaws.{unset_iff_cycle}
use Rattle.config_graph.proofs.cycles.has_cycle.Goals as goal

pub returns : goal.returns
returns c =
    let g = c.args.graph.now in
    let acyclic = c.in_ok-acyclic.acyclic.items in
    let marks = c.in_ok-acyclic.ensures in
    let iff : (list_any not acyclic ≡ true) ↔ HasCycle g = unset_iff_cycle g acyclic (omega (arith, marks.length, c.in_ok-acyclic.acyclic.ok.0)) marks.acyclic marks.cycle in
    let value = c.has_unset.ensures ∙ ap (list_any not) c.deref.ensures.value in
    subst (λ b. (b ≡ true) ↔ HasCycle g) (sym value) iff
