use Rattle.std.proofs.Common.{◌≡◌, ◌∙◌, Some, false, ap, rules, sym}
use Rattle.report_lines.specs.Parts.{is_used_up}
use Rattle.report_texts.specs.GraphTexts.{graph_in, graph_lines}
use Rattle.report_texts.specs.TextLines.{lines}
use Rattle.report_texts.proofs.PastLemmas.{shown_step}
use Rattle.report_texts.proofs.history.push_shown.Goals as goal

pub returns : goal.returns
returns c =
    let read = c.in_ok-graph.ensures ∙ ap graph_in c.split_graph.ensures.shown in
    let told : graph_in (graph_lines (lines c.args.behind.text.now)) ≡ Some c.in-Some.graph = search (rules, read) in
    let more : is_used_up (lines c.split_graph.result.1.now) ≡ false = search rules in
    shown_step c.args.history.now.items c.push.new.self.items c.in-Some.graph (lines c.args.behind.text.now) c.args.made (sym (ap is_used_up c.split_graph.ensures.behind) ∙ more) told c.requires.made
    c.in_ok-push.ensures.items
