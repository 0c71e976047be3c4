use Rattle.std.proofs.Common.{[], ◌≡◌, ◌∙◌, ℕ, ap, false, refl, subst, sym}
use Rattle.std.proofs.lemmas.List.{append-nil}
use Rattle.change_board.specs.Bearing.{Bears}
use Rattle.quiesce_core.specs.Runs.{done_by}
use Rattle.txn_records.specs.Records.{IsRecordOf, events}
use Rattle.txn_spec.specs.Views.{log_in}
use Rattle.txn_records.specs.declared.entry.Entry.TheVariants.{Looked}
use Rattle.live_board.proofs.CutLaws.{without_last}
use Rattle.live_board.proofs.ThreadReports.{is_report}
use Rattle.live_board.proofs.ended.reports_agree_with_their_seat.Goals as goal

pub returns : goal.returns
returns c = record {
  agrees = λ statements report r p w nodes h merged all.
      let cut = without_last r (Looked p w) merged.moments refl merged.is_record in
      let is_of = subst (λ q. IsRecordOf q cut.0) (sym h.record_is) cut.1 in
      let logs : (n : ℕ) → done_by n (events cut.0) ≡ log_in nodes n = λ n. ap (done_by n) cut.2 ∙ merged.logs n in
      let told = is_report statements report r nodes cut.0 h logs in
      let join = c.records_and_transcripts_join.ensures.join h.transcript cut.0 is_of in
      let so = c.joined_members_make_a_report_lawful.ensures in
      let at_rest = c.runs_and_finishes_end_at_rest.ensures in
      record {
        lawful = record {
          lawful = record {
            follows = so.follows false statements h.transcript cut.0 report h.is_transcript told;
            members = join.0;
            by_them = so.lawful false statements h.transcript cut.0 join.0 report h.is_transcript join.1 is_of told;
          };
          numbers = at_rest.numbers statements h.transcript cut.0 join.0 h.is_transcript join.1 is_of;
        };
        came = record {
          transcript = h.transcript;
          is_transcript = h.is_transcript;
          history_is = h.history_is;
          seen_behind = [];
          quiet = tt;
          record_is = sym h.record_is ∙ sym (append-nil _);
          moments = cut.0;
          is_record = is_of;
          logs = logs;
          joined = join.1;
        };
        at_once = at_rest.at_once statements h.transcript cut.0 join.0 h.is_transcript join.1 is_of;
        bears = subst (λ q. Bears q report.history) h.record_is (c.records_bear_their_reports.ensures.bears false statements h.transcript cut.0 report h.is_transcript is_of told);
        logs_are = h.logs_are;
        early = λ early. c.early_finishes_leave_nothing_undone.ensures.undone statements h.transcript cut.0 report h.is_transcript is_of told early;
        merged = record { moments = cut.0; is_record = cut.1; logs = logs };
        all = all;
      };
}
