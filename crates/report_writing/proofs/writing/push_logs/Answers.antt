use Rattle.std.proofs.Common.{◌≡◌, ◌==◌, ◌++◌, List, map, length, ap, sym, ◌∙◌, subst}
use Rattle.std.specs.Prelude.{filter, flat_map}
use Rattle.std.proofs.lemmas.List.Elements.{All-get_or}
use Rattle.report_types.specs.declared.report.NodeLog.{NodeLog}
use Rattle.report_writing.specs.MadeNodes.{slot_path_of}
use Rattle.report_writing.specs.Reports.{SlotPath, ended, event_text, last_text, log_head, log_text, second}
use Rattle.report_writing.proofs.ReportTextLemmas.{line_more}
use Rattle.report_writing.proofs.writing.push_logs.Goals as goal
use Rattle.base.proofs.LinesLaws.{lines_all}

pub path_of-requires : goal.path_of-requires
path_of-requires c =
    let P : NodeLog → Type 0 = λ log. length (filter (λ (m : SlotPath). m.slot == log.slot) (map slot_path_of c.args.made.now)) ≡ 1 in
    subst P (sym c.log-item.is) (All-get_or P c.args.logs.now c.loop-log.log-index c.log-item.result c.loop-log-test.true c.requires)

pub loop-log-preserved : goal.loop-log-preserved
loop-log-preserved c =
    let log = c.log-item.result in
    let text_with : List _ → List _ = λ path. c.loop-log.text.items ++ (ended (log_head second path log.slot) ++ flat_map event_text log.events ++ last_text log.last) in
    line_more (log_text second (map slot_path_of c.args.made.now)) c.args.logs.now c.args.text.now.items _ _ c.loop-log.log-index _ c.loop-log-test.true c.log-item.is c.loop-log.invariant
    (c.in_ok-push_log.ensures ∙ ap text_with c.path_of.ensures)

pub returns : goal.returns
returns c = lines_all (log_text second (map slot_path_of c.args.made.now)) c.args.logs.now c.args.text.now.items _ c.loop-log.log-index c.loop-log-test.false c.loop-log.invariant
