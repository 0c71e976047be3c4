use Rattle.std.proofs.Common.{◌≡◌, ◌==◌, ◌∙◌, List, ap, length, map, subst, sym}
use Rattle.std.specs.Prelude.{All, filter}
use Rattle.report_types.specs.declared.report.HistoryLine.{HistoryLine}
use Rattle.report_types.specs.declared.report.NodeLog.{NodeLog}
use Rattle.report_writing.specs.MadeNodes.{slot_path_of}
use Rattle.report_writing.specs.Reports.{HasOneMake, SlotPath, makes}
use Rattle.report_writing.proofs.writing.report_text.Goals as goal

-- each log is of one of the nodes made, where each is of a slot that is made once
each_made_once : (history : List HistoryLine) (made : List SlotPath) (logs all : List NodeLog) → made ≡ makes history → logs ≡ all
    → All (λ (log : NodeLog). HasOneMake history log.slot) all → All (λ (log : NodeLog). length (filter (λ (m : SlotPath). m.slot == log.slot) made) ≡ 1) logs
each_made_once history made logs all made_is logs_are once =
    let of : List SlotPath → List NodeLog → Type 0 = λ ms ls. All (λ (log : NodeLog). length (filter (λ (m : SlotPath). m.slot == log.slot) ms) ≡ 1) ls in
    let here : of (makes history) logs = subst (of (makes history)) (sym logs_are) once in
    subst (λ ms. of ms logs) (sym made_is) here

pub push_logs-requires : goal.push_logs-requires
push_logs-requires c =
    let made_is : map slot_path_of c.as_slice.result.now ≡ makes c.args.report.now.history = ap (map slot_path_of) c.as_slice.ensures.value ∙ c.in_ok-made.ensures ∙ ap makes c.items.ensures in
    each_made_once c.args.report.now.history _ _ _ made_is c.items-3.ensures c.requires
