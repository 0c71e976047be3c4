-- A consistent report is right by itself; and where one is, the simulation decides whether it is consistent.
use Rattle.std.proofs.Common.{◌≡◌, ◌∙◌, ◌↔◌, ℕ, true, false, List, [], ◌∷◌, ◌++◌, get_or, Some, None, sym, ap, subst}
use Rattle.std.specs.Prelude.{filter_map, fold}
use Rattle.std.specs.List.{list_all}
use Rattle.std.proofs.lemmas.Option.{same_Some}
use Rattle.base.specs.Each.{Each}
use Rattle.base.proofs.EachLaws.{each_at, each_if}
use Rattle.config_graph.specs.Graph.{Graph}
use Rattle.component_trait.specs.States.{NodeState, at_rest}
use Rattle.component_trait.proofs.FoldLaws.{fold_keeps_kind}
use Rattle.quiesce_core.specs.Live.{IsGraphOf}
use Rattle.quiesce_core.specs.Rules.{is_kind}
use Rattle.quiesce_core.specs.Runs.{IsRun, state_after}
use Rattle.quiesce_core.specs.Sources.{SourcesAreGone}
use Rattle.quiesce_core.specs.State.{Configuration, slot}
use Rattle.quiesce_core.specs.declared.state.Slot.{Slot}
use Rattle.quiesce_core.proofs.SourceLaws.{sources_are_gone}
use Rattle.report_types.specs.declared.report.HistoryLine.{HistoryLine}
use Rattle.report_types.specs.declared.report.HistoryLine.TheVariants as to
use Rattle.report_types.specs.declared.report.Report.{Report}
use Rattle.change_spec.specs.Consistent.{Consistent}
use Rattle.change_spec.specs.Follows.{Follows}
use Rattle.change_spec.specs.Lawful.{IsOfItsKind, Merge}
use Rattle.change_spec.specs.Members.{Member, event_of, events, lines, without_roots}
use Rattle.change_spec.specs.Opening.{fold_at}
use Rattle.change_spec.specs.Scene.{config_after}
use Rattle.change_spec.specs.Statements.{Statement}
use Rattle.change_spec.proofs.MemberLaws.{changes_are_lines, events_without_roots}
use Rattle.change_round_laws.specs.Described.{IsLeftAt}
use Rattle.change_round_laws.specs.SoundStatements.{AreSound}
use Rattle.change_round_laws.proofs.AloneLaws.{changes_run}
use Rattle.change_round_laws.proofs.LineLaws.{config_of}
use Rattle.std.specs.Prelude.{All}
use Rattle.merge_laws.specs.Alone.{AreRightAlone, IsShown, fold_told, log_told}
use Rattle.merge_laws.specs.Guarded.{can_go, go, left, left_of, may_go}
use Rattle.merge_laws.specs.Merges.{IsMergeWith}
use Rattle.merge_laws.specs.Telling.{IsTold}
use Rattle.merge_laws.specs.Ways.{members_of}
use Rattle.report_check.specs.RightAlone.{IsRightAlone}
use Rattle.report_check.specs.Showing.{IsStandingShown}
use Rattle.report_check.proofs.MakingLemmas.{has_value, makes_of_run, values_of_run}
use Rattle.report_check.proofs.ShownLemmas.{IsStanding, standing_at_shows}
use Rattle.base.proofs.OptionLaws.{made_of_one}

-- ---- what other crates say

abbrev pub SaysAlone : Type 0
SaysAlone = (statements : List Statement) (report : Report) → Consistent statements report → AreRightAlone statements report

abbrev pub Decides : Type 0
Decides = (statements : List Statement) (report : Report) (cs : List ℕ) → AreSound statements → Follows statements report.history → AreRightAlone statements report → can_go (left_of report) cs ≡ true
    → ((c : ℕ) → may_go (fold go (left_of report) cs) c ≡ false) → Consistent statements report ↔ (left (fold go (left_of report) cs) ≡ 0)

abbrev pub SourcesRest : Type 0
SourcesRest = (report : Report) (m : List Member) → Merge m report → IsRun (events m) → (n k : ℕ) (s : Slot) (z : NodeState) → slot (config_after report.history) n ≡ Some s → s.from ≡ Some k
    → fold_told report k ≡ Some z → z.service ≡ None

abbrev pub LeavesDescribedGraphs : Type 0
LeavesDescribedGraphs = (statements : List Statement) (history : List HistoryLine) → AreSound statements → Follows statements history → IsRun (filter_map event_of history) → Each (IsLeftAt statements) history

abbrev pub OneGraph : Type 0
OneGraph = (c : Configuration) (g h : Graph) → IsGraphOf c g → IsGraphOf c h → g ≡ h

abbrev pub WaysMerge : Type 0
WaysMerge = (report : Report) (cs : List ℕ) → can_go (left_of report) cs ≡ true → left (fold go (left_of report) cs) ≡ 0 → IsTold report.history → IsMergeWith report.history (members_of (left_of report) cs)

abbrev pub TellsCloses : Type 0
TellsCloses = (statements : List Statement) (history : List HistoryLine) → Follows statements history → IsTold history

-- ---- the lines of a run are a run

lines_run : (history : List HistoryLine) (m : List Member) → All IsOfItsKind m → lines m ≡ without_roots history → IsRun (events m) → IsRun (filter_map event_of history)
lines_run history m kinds are run = subst IsRun (changes_are_lines m kinds ∙ ap (filter_map event_of) are ∙ events_without_roots history) (changes_run (events m) run)

-- a node comes to a state of its kind
kind_told : (report : Report) (k : ℕ) (old : Slot) (z : NodeState) → slot (config_after report.history) k ≡ Some old → fold_told report k ≡ Some z → z.kind ≡ old.node.kind
kind_told report k old z at told =
    let m = made_of_one _ (slot (config_after report.history) k) z told in
    let kept = made_of_one (fold_at m.0 (log_told report k)) _ z m.2 in
    fold_keeps_kind m.0.first_port (at_rest m.0.node.kind _ kept.0) z (log_told report k) kept.2 ∙ ap (λ (s : Slot). s.node.kind) (same_Some m.0 old (sym m.1 ∙ at))

-- ---- shows, by the lines alone

module _ (leaves : LeavesDescribedGraphs) (one : OneGraph) (statements : List Statement) (history : List HistoryLine) (sound : AreSound statements) (follows : Follows statements history)
    (run : IsRun (filter_map event_of history)) where
  at_show : (ys zs : List HistoryLine) (g : Graph) → history ≡ ys ++ to.Show g ∷ zs → IsStanding statements ys
  at_show = standing_at_shows statements history sound follows run (leaves statements history sound follows run)

  pub standing : Each IsShown history → Each (IsStandingShown statements) history
  standing shows = each_if (IsStandingShown statements) [] history by
    where
      by : (ys zs : List HistoryLine) (l : HistoryLine) → history ≡ ys ++ l ∷ zs → IsStandingShown statements ys l
      by ys zs (to.Show g) here =
          let s = at_show ys zs g here in
          s.stands ∙ ap Some (one (config_after ys) s.graph g s.is_of (each_at IsShown ys zs (to.Show g) (subst (Each IsShown) here shows)))
      by ys zs _ here = tt

  pub shown : Each (IsStandingShown statements) history → Each IsShown history
  shown stands = each_if IsShown [] history by
    where
      by : (ys zs : List HistoryLine) (l : HistoryLine) → history ≡ ys ++ l ∷ zs → IsShown ys l
      by ys zs (to.Show g) here =
          let s = at_show ys zs g here in
          subst (IsGraphOf (config_after ys)) (same_Some s.graph g (sym s.stands ∙ each_at (IsStandingShown statements) ys zs (to.Show g) (subst (Each (IsStandingShown statements)) here stands))) s.is_of
      by ys zs _ here = tt

-- ---- a consistent report is right by itself

pub right_by_itself : SaysAlone → SourcesRest → LeavesDescribedGraphs → OneGraph → (statements : List Statement) (report : Report) → AreSound statements → Consistent statements report → IsRightAlone statements report
right_by_itself says rest leaves one statements report sound h =
    let right = says statements report h in
    let m = h.lawful.members in
    let by = h.lawful.by_them in
    let run = lines_run report.history m by.merge.by_nodes by.merge.history by.runs in
    record {
      logs = record {
        makes = makes_of_run [] report.history run;
        one_log_a_node = right.one_log_a_node;
        folds = right.folds;
        values = λ k d low. let l = get_or report.logs k d in subst (λ es. list_all has_value es ≡ true) (by.merge.logs k d low) (values_of_run (events m) l.slot by.runs);
        sources = λ n k s z at from told. record {
          rests = rest report m by.merge by.runs n k s z at from told;
          kind =
              let c : (state_after (filter_map event_of report.history)).config ≡ config_after report.history = config_of report.history in
              let gone = (subst SourcesAreGone c (sources_are_gone (filter_map event_of report.history) run)).gone n k s at from in
              ap (λ j. is_kind j s.node.kind) (kind_told report k gone.old z gone.there told) ∙ gone.kind;
        };
      };
      shows = standing leaves one statements report.history sound h.lawful.follows run right.shows;
      few_rounds = right.few_rounds;
      unfinished = right.unfinished;
      status = right.status;
    }

-- ---- and where a report is, the simulation decides

pub decided : SaysAlone → Decides → LeavesDescribedGraphs → OneGraph → WaysMerge → TellsCloses → (statements : List Statement) (report : Report) (cs : List ℕ) → AreSound statements
    → Follows statements report.history → IsRightAlone statements report → can_go (left_of report) cs ≡ true → ((c : ℕ) → may_go (fold go (left_of report) cs) c ≡ false)
    → Consistent statements report ↔ (left (fold go (left_of report) cs) ≡ 0)
decided says decides leaves one ways tells statements report cs sound follows r can stuck = (
  λ h. (decides statements report cs sound follows (says statements report h) can stuck).0 h,
  λ ends.
      let w = ways report cs can ends (tells statements report.history follows) in
      let run = lines_run report.history (members_of (left_of report) cs) w.by_nodes w.lines_are w.runs in
      let alone : AreRightAlone statements report = record {
        one_log_a_node = r.logs.one_log_a_node;
        folds = r.logs.folds;
        shows = shown leaves one statements report.history sound follows run r.shows;
        few_rounds = r.few_rounds;
        unfinished = r.unfinished;
        status = r.status;
      } in
      (decides statements report cs sound follows alone can stuck).1 ends,
)
