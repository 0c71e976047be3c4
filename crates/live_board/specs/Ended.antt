-- To be believed (definitions.md).
-- What a system on threads leaves behind: a report, and the seat of its change, with its record and the nodes that it
-- took in for good.
use Rattle.std.specs.Prelude.{◌≡◌, ◌++◌, ℕ, false, List, None, map, length, All}
use Rattle.std.specs.List.{range_with_len}
use Rattle.base.specs.Each.{Each}
use Rattle.change_board.specs.Bearing.{Bears}
use Rattle.change_board.specs.Collecting.{IsEndOf, first_undone}
use Rattle.change_board.specs.Transcripts.{Item, entries, lines}
use Rattle.change_engine.specs.Ending.{unfinished_after}
use Rattle.change_spec.specs.Endings.{status_of}
use Rattle.change_spec.specs.Lawful.{LawfulOnThreads}
use Rattle.change_spec.specs.Statements.{Statement}
use Rattle.report_types.specs.declared.report.NodeLog.{NodeLog}
use Rattle.report_types.specs.declared.report.Report.{Report}
use Rattle.txn_records.specs.Entries.{config_of}
use Rattle.txn_records.specs.declared.entry.Entry.{Entry}
use Rattle.txn_spec.specs.Merging.{AreAllAmong, MergeIntoRun}
use Rattle.txn_spec.specs.Views.{log_in}
use Rattle.txn_spec.specs.declared.view.NodeView.{NodeView}
use Rattle.change_transcript_laws.specs.Pieces.{IsTranscript}
use Rattle.change_transcript_laws.specs.Reports.{taken_in}
use Rattle.change_spec.specs.Resting.{FinishedEarly, RestedIfShort}
use Rattle.change_transcript_laws.specs.Rests.{AreQuiet}
use Rattle.quiesce_core.specs.declared.event.Event.{Event}
use Rattle.quiesce_core.specs.Runs.{done_by}
use Rattle.change_spec.specs.Members.{Member}
use Rattle.change_transcript_laws.specs.Joining.{AreJoined}
use Rattle.txn_records.specs.Records.{IsRecordOf, Moment, events}

-- the events of each node made, by slot, as the seat took them in
abbrev pub collected_logs : List Entry → List NodeView → List (List Event)
collected_logs r nodes = map (log_in nodes) (range_with_len 0 (length (config_of r).slots))

-- the statements were carried out on the board whose seat has this record, and the logs were taken in
pub record CarriedOutOnThreads (statements : List Statement) (report : Report) (r : List Entry) (nodes : List NodeView) : Type 0 where
  pub transcript : List Item
  pub is_transcript : IsTranscript false statements transcript
  pub record_is : entries transcript ≡ r
  pub history_is : report.history ≡ lines transcript
  pub logs_are : taken_in report ≡ collected_logs r nodes
  pub slots : map (λ (l : NodeLog). l.slot) report.logs ≡ range_with_len 0 (length (config_of r).slots)
  pub ends : All (IsEndOf (config_of r) (collected_logs r nodes)) report.logs
  pub unfinished_is : report.unfinished ≡ unfinished_after report.history (first_undone (config_of r) (collected_logs r nodes))
  pub status_is : report.status ≡ status_of report.history report.unfinished

-- How the report came about: the statements were carried out by this transcript, whose lines are the history and whose
-- entries are the record, but for what was seen behind them. These moments are the run of it: the entries, and of each
-- node what the seat took in. The members are the transcript and the moments, joined at each entry.
pub record CameAbout (statements : List Statement) (report : Report) (r : List Entry) (nodes : List NodeView) (members : List Member) : Type 0 where
  pub transcript : List Item
  pub is_transcript : IsTranscript false statements transcript
  pub history_is : report.history ≡ lines transcript
  pub seen_behind : List Entry
  pub quiet : AreQuiet seen_behind
  pub record_is : r ≡ entries transcript ++ seen_behind
  pub moments : List Moment
  pub is_record : IsRecordOf (entries transcript) moments
  pub logs : (n : ℕ) → done_by n (events moments) ≡ log_in nodes n
  pub joined : AreJoined transcript moments members

-- The report is lawful on threads by members in which all rested at one place where a run ended with fewer transactions
-- than were asked for, or a finish made fewer rounds than were allowed. The record bears it, and its logs are what was
-- taken in, slot by slot. Where a finish made fewer rounds and no change was committed behind it, no node is named as
-- undone. Of each node made the seat was taken in, and their events and the record are one run.
pub record AgreesWith (statements : List Statement) (report : Report) (r : List Entry) (nodes : List NodeView) : Type 0 where
  pub lawful : LawfulOnThreads statements report
  pub came : CameAbout statements report r nodes lawful.lawful.members
  pub at_once : Each RestedIfShort lawful.lawful.members
  pub bears : Bears r report.history
  pub logs_are : taken_in report ≡ collected_logs r nodes
  pub early : FinishedEarly report.history → report.unfinished ≡ None
  pub merged : MergeIntoRun r nodes
  pub all : AreAllAmong (length (config_of r).slots) nodes
