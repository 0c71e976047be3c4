-- A report whose history and logs are right alone is consistent exactly where the simulation ends with nothing left.
use Rattle.std.proofs.Common.{◌≡◌, ◌∙◌, ℕ, true, false, List, [], ◌∷◌, ◌++◌, map, get_or, sym, subst}
use Rattle.std.specs.Prelude.{fold}
use Rattle.base.specs.Each.{Each}
use Rattle.base.proofs.EachLaws.{each_if}
use Rattle.quiesce_core.specs.declared.event.Event.{Event}
use Rattle.quiesce_core.specs.Runs.{IsRun}
use Rattle.report_types.specs.declared.report.HistoryLine.{HistoryLine}
use Rattle.report_types.specs.declared.report.HistoryLine.TheVariants as to
use Rattle.report_types.specs.declared.report.NodeLog.{NodeLog}
use Rattle.report_types.specs.declared.report.Report.{Report}
use Rattle.change_spec.specs.Consistent.{Consistent}
use Rattle.change_spec.specs.Endings.{moved_to}
use Rattle.change_spec.specs.Follows.{Follows}
use Rattle.change_spec.specs.Lawful.{EndsAs, IsDrainedAt, IsEndedOnce, IsGraphDescribed, IsLawfulBy, Merge, StoodOpenWhereSaid}
use Rattle.change_spec.specs.Members.{Member, of_history, events}
use Rattle.change_spec.specs.Statements.{Statement}
use Rattle.change_spec.proofs.RunningLaws.{quiet}
use Rattle.change_round_laws.specs.SoundStatements.{AreSound}
use Rattle.merge_laws.specs.Alone.{AreRightAlone}
use Rattle.merge_laws.specs.Guarded.{can_go, go, left, left_of, may_go}
use Rattle.merge_laws.specs.Merges.{HasLogs, IsMergeWith}
use Rattle.merge_laws.specs.Ways.{members_of}
use Rattle.merge_laws.proofs.AloneLemmas.{fold_is, graphs_of_list, shown_alone, unfinished_is}
use Rattle.merge_laws.proofs.LawfulLemmas.{lawful_reports_are_found}
use Rattle.merge_laws.proofs.LogLemmas.{are_logs}
use Rattle.merge_laws.proofs.MergeLemmas.{logs_are_done, ways_are_merges}
use Rattle.merge_laws.proofs.TellingLemmas.{histories_are_told}

-- what change_spec and change_round_laws say of such lists
abbrev pub EachEndsOnce : Type 0
EachEndsOnce = (statements : List Statement) (report : Report) (m : List Member) → Follows statements report.history → Merge m report → IsRun (events m) → Each IsDrainedAt m
    → (p k : ℕ) → IsEndedOnce (events m) p k

abbrev pub CommitsLeaveDescribed : Type 0
CommitsLeaveDescribed = (statements : List Statement) (report : Report) (m : List Member) → AreSound statements → Follows statements report.history → Merge m report → IsRun (events m)
    → (before after : List Member) → m ≡ before ++ of_history to.Commit ∷ after → IsGraphDescribed statements before

-- ---- a consistent report is right alone

pub right_alone : (statements : List Statement) (report : Report) → Consistent statements report → AreRightAlone statements report
right_alone statements report h =
    let m = h.lawful.members in
    let by = h.lawful.by_them in
    record {
      one_log_a_node = by.merge.one_log_a_node;
      folds = λ k d low.
          let l = get_or report.logs k d in
          subst (λ o. EndsAs o (moved_to report.history l.slot) l.last) (fold_is report m by.merge by.runs l.slot) (by.folds k d low);
      shows = shown_alone statements report m by.merge by.graphs;
      few_rounds = h.few_rounds;
      unfinished = by.unfinished ∙ unfinished_is report m by.merge by.runs statements;
      status = by.status;
    }

-- ---- and where it is right alone, a merge makes it consistent

module _ (once : EachEndsOnce) (described : CommitsLeaveDescribed) (statements : List Statement) (report : Report) (sound : AreSound statements) (follows : Follows statements report.history)
    (alone : AreRightAlone statements report) where
  abbrev logs : List (List Event)
  logs = map (λ (l : NodeLog). l.events) report.logs

  stood_open : (m : List Member) → IsMergeWith report.history m → Each (StoodOpenWhereSaid m) report.history
  stood_open m w = each_if (StoodOpenWhereSaid m) [] report.history by
    where
      by : (c r : List HistoryLine) (l : HistoryLine) → report.history ≡ c ++ l ∷ r → StoodOpenWhereSaid m c l
      by c r (to.Root p k) has = w.open_roots c r p k has
      by c r _ has = tt

  lawful_by : (m : List Member) → IsMergeWith report.history m → HasLogs logs m → IsLawfulBy statements report m
  lawful_by m w has =
      let merge : Merge m report = record {
        one_log_a_node = alone.one_log_a_node;
        logs = are_logs report m alone.one_log_a_node w.by_nodes w.lines_are w.runs has;
        by_nodes = w.by_nodes;
        history = w.lines_are;
      } in
      record {
        merge = merge;
        runs = w.runs;
        quiescent = quiet m w.runs;
        ended_once = once statements report m follows merge w.runs w.drained;
        folds = λ k d low.
            let l = get_or report.logs k d in
            subst (λ o. EndsAs o (moved_to report.history l.slot) l.last) (sym (fold_is report m merge w.runs l.slot)) (alone.folds k d low);
        drained = w.drained;
        stood_open = stood_open m w;
        graphs = graphs_of_list statements report m merge alone.shows (described statements report m sound follows merge w.runs);
        unfinished = alone.unfinished ∙ sym (unfinished_is report m merge w.runs statements);
        status = alone.status;
      }

  pub consistent : (cs : List ℕ) → can_go (left_of report) cs ≡ true → left (fold go (left_of report) cs) ≡ 0 → Consistent statements report
  consistent cs can ends =
      let told = histories_are_told statements report.history follows in
      let m = members_of (left_of report) cs in
      record {
        lawful = record {
          follows = follows;
          members = m;
          by_them = lawful_by m (ways_are_merges report.history logs cs can ends told) (logs_are_done report.history logs cs can ends);
        };
        few_rounds = alone.few_rounds;
      }

pub found : (statements : List Statement) (report : Report) (cs : List ℕ) → Consistent statements report → can_go (left_of report) cs ≡ true
    → ((c : ℕ) → may_go (fold go (left_of report) cs) c ≡ false) → left (fold go (left_of report) cs) ≡ 0
found statements report cs h = lawful_reports_are_found statements report h.lawful.members cs h.lawful.follows h.lawful.by_them
