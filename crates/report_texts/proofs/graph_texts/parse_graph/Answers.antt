use Rattle.std.proofs.Common.{◌≡◌, ◌⊎◌, ◌∙◌, ap, inl, inr, rules, subst, sym}
use Rattle.config_graph.specs.Cycles.{graph_wiring}
use Rattle.config_graph.specs.Graph.{Graph}
use Rattle.config_graph.specs.Wiring.{HasNoCycle}
use Rattle.report_texts.specs.GraphFaults.{IsFirstCycle, IsGraphFault, by_cycle}
use Rattle.report_texts.specs.GraphTexts.{paths_rise}
use Rattle.report_texts.specs.ReportTexts.{IsGraphText}
use Rattle.report_texts.specs.TextLines.{lines}
use Rattle.report_texts.specs.declared.graph_texts.GraphFault.TheVariants as faults
use Rattle.report_texts.proofs.GraphFaultLemmas.{drawn_rise, is_text}
use Rattle.report_texts.proofs.graph_texts.parse_graph.Goals as goal

pub draw-requires-clause-rise : goal.draw-requires-clause-rise
draw-requires-clause-rise c = ap paths_rise c.in_ok-nodes.ensures ∙ drawn_rise (lines c.args.text.now) c.in_ok-check_lines.ensures.fit

pub returns-in_err-check_cycles-clause-fault : goal.returns-in_err-check_cycles-clause-fault
returns-in_err-check_cycles-clause-fault c =
    let fault : (c.in_err-check_cycles.field-0.0 ≡ faults.NoMemory) ⊎ IsGraphFault c.args.text.now c.in_err-check_cycles.field-0.0 =
    elim c.in_err-check_cycles.ensures.fault [
      | inl none ↦ inl none
      | inr cycle ↦ inr (by_cycle c.in_err-check_cycles.field-0.0 c.in_ok-check_text.ensures.alike (subst (λ (g : Graph). IsFirstCycle g c.in_err-check_cycles.field-0.0) c.in_ok-graph.ensures cycle))
    ] in
    search (rules, fault)

pub returns-clause-graph : goal.returns-clause-graph
returns-clause-graph c =
    subst (IsGraphText c.args.text.now) (sym c.in_ok-graph.ensures)
    (is_text c.args.text.now c.in_ok-check_text.ensures.alike (subst (λ (g : Graph). HasNoCycle (graph_wiring g)) c.in_ok-graph.ensures c.in_ok-check_cycles.ensures.none))
