-- What was carried out, with the logs that are parts of its run, is a report of one list of members.
use Rattle.std.proofs.Common.{◌≡◌, ◌∙◌, Bool, true, List, sym, ap, subst}
use Rattle.std.specs.Prelude.{All}
use Rattle.report_types.specs.declared.report.Report.{Report}
use Rattle.change_spec.specs.Lawful.{IsLawfulBy}
use Rattle.change_spec.specs.Members.{Member}
use Rattle.change_spec.specs.Serial.{Serial}
use Rattle.change_spec.specs.Statements.{Statement}
use Rattle.change_board.specs.Collecting.{IsEndOf, first_undone}
use Rattle.change_board.specs.declared.board.Board.{Ghosts as BoardWords}
use Rattle.txn_records.specs.Records.{IsRecordOf, Moment}
use Rattle.change_board.specs.Transcripts.{Item, entries}
use Rattle.change_engine.specs.Ending.{unfinished_after}
use Rattle.change_transcript_laws.specs.Joining.{AreJoined}
use Rattle.change_transcript_laws.specs.Pieces.{IsTranscript, config_at}
use Rattle.change_transcript_laws.specs.Reports.{IsReportOfTranscript, taken_in}
use Rattle.change_transcript_laws.proofs.LawfulLaws.{join}
use Rattle.change_runner.specs.Ran.{HasCarriedOut}
use Rattle.step_board.specs.Standing.{AreOfRounds, AreParts}

module _ {B : Type 0} (W : BoardWords B) (statements : List Statement) (report : Report) (board : B) (x : HasCarriedOut W statements report board)
    (parts : AreParts (entries x.transcript) (W.taken board)) where
  is_report : IsReportOfTranscript x.transcript parts.moments report
  is_report = record {
    history_is = x.history_is;
    slots = x.slots;
    events_are = x.logs_are ∙ parts.logs_are;
    ends = subst (λ ls. All (IsEndOf (config_at x.transcript) ls) report.logs) (sym x.logs_are) x.ends;
    unfinished_is = x.unfinished_is ∙ ap (λ ls. unfinished_after report.history (first_undone (config_at x.transcript) ls)) (sym x.logs_are);
    status_is = x.status_is;
  }

  pub lawful_by : ((alone : Bool) (statements : List Statement) (t : List Item) (m : List Moment) (members : List Member) (report : Report)
      → IsTranscript alone statements t → AreJoined t m members → IsRecordOf (entries t) m → IsReportOfTranscript t m report → IsLawfulBy statements report members)
      → (members : List Member) × IsLawfulBy statements report members
  lawful_by law =
      let j = join x.transcript parts.moments parts.is_of in
      (j.0, law W.alone statements x.transcript parts.moments j.0 report x.is_transcript j.1 parts.is_of is_report)

-- and on one thread it is the report of rounds
pub serial_by : {B : Type 0} (W : BoardWords B) (statements : List Statement) (report : Report) (board : B) (x : HasCarriedOut W statements report board) → W.alone ≡ true
    → AreParts (entries x.transcript) (W.taken board) → AreOfRounds (entries x.transcript) (W.taken board)
    → ((statements : List Statement) (t : List Item) (m : List Moment) (report : Report) → IsTranscript true statements t → AreOfRounds (entries t) (taken_in report)
    → IsReportOfTranscript t m report → Serial statements report) → Serial statements report
serial_by W statements report board x alone parts rounds law =
    law statements x.transcript parts.moments report (subst (λ one. IsTranscript one statements x.transcript) alone x.is_transcript)
    (subst (AreOfRounds (entries x.transcript)) (sym x.logs_are) rounds) (is_report W statements report board x parts)
