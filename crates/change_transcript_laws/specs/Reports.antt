-- To be believed (definitions.md).
-- Which report a transcript has, where the logs of its run were taken in.
use Rattle.std.specs.Prelude.{◌≡◌, ℕ, List, map, length, All}
use Rattle.std.specs.List.{range_with_len}
use Rattle.quiesce_core.specs.Runs.{done_by}
use Rattle.quiesce_core.specs.declared.event.Event.{Event}
use Rattle.change_spec.specs.Endings.{status_of}
use Rattle.report_types.specs.declared.report.NodeLog.{NodeLog}
use Rattle.report_types.specs.declared.report.Report.{Report}
use Rattle.change_board.specs.Collecting.{IsEndOf, first_undone}
use Rattle.txn_records.specs.Records.{Moment, events}
use Rattle.change_board.specs.Transcripts.{Item, lines}
use Rattle.change_engine.specs.Ending.{unfinished_after}
use Rattle.change_transcript_laws.specs.Pieces.{config_at}

-- what each node did in a run, by slot
abbrev pub logs_in : List Moment → ℕ → List (List Event)
logs_in m n = map (λ k. done_by k (events m)) (range_with_len 0 n)

-- what was taken in of each node
abbrev pub taken_in : Report → List (List Event)
taken_in report = map (λ (l : NodeLog). l.events) report.logs

-- The history has the transcript's lines, and there is a log of each node made, with what it did, which ends with its
-- last state or tells where that went. The first live node that isn't done is named where there is a finish.
pub record IsReportOfTranscript (t : List Item) (m : List Moment) (report : Report) : Type 0 where
  pub history_is : report.history ≡ lines t
  pub slots : map (λ (l : NodeLog). l.slot) report.logs ≡ range_with_len 0 (length (config_at t).slots)
  pub events_are : taken_in report ≡ logs_in m (length (config_at t).slots)
  pub ends : All (IsEndOf (config_at t) (taken_in report)) report.logs
  pub unfinished_is : report.unfinished ≡ unfinished_after report.history (first_undone (config_at t) (taken_in report))
  pub status_is : report.status ≡ status_of report.history report.unfinished
