-- Where a finish made fewer rounds than were allowed and no change was committed behind it, no node is left undone.
use Rattle.std.proofs.Common.{◌≡◌, ◌∙◌, ◌++◌, ◌∷◌, List, [], false, length, map, append_assoc, filter_map, None, sym, ap, subst, ⊎_elim, arith}
use Rattle.std.specs.Prelude.{◌<◌, All, not}
use Rattle.std.specs.List.{list_any, range_with_len}
use Rattle.std.proofs.lemmas.Bool.{or_parts}
use Rattle.std.proofs.lemmas.List.{append_cancel_left}
use Rattle.std.proofs.lemmas.List.Elements.{All-tail, filter-append}
use Rattle.base.specs.Each.{Each}
use Rattle.base.proofs.EachLaws.{each_at}
use Rattle.base.proofs.PlaceLaws.{tails_are}
use Rattle.base.proofs.ListLaws.{all_parts}
use Rattle.quiesce_laws.specs.Steps.{is_shaping}
use Rattle.quiesce_laws.proofs.TurningLaws.{no_node_shapes}
use Rattle.quiesce_core.specs.Runs.{IsRun, state_after}
use Rattle.quiesce_core.specs.State.{Configuration}
use Rattle.quiesce_core.specs.declared.event.Event.{Event}
use Rattle.report_types.specs.declared.report.HistoryLine.{HistoryLine}
use Rattle.report_types.specs.declared.report.HistoryLine.TheVariants as to
use Rattle.report_types.specs.declared.report.Report.{Report}
use Rattle.txn_records.specs.Records.{IsRecordOf, Moment}
use Rattle.txn_records.proofs.RecordLaws.{config_is}
use Rattle.change_board.specs.Transcripts as transcripts
use Rattle.change_board.specs.Transcripts.{Item, entries}
use Rattle.change_spec.specs.Follows.{Follows}
use Rattle.change_spec.specs.Lawful.{IsOfItsKind, Merge, unfinished_of}
use Rattle.change_spec.specs.Members.{Member, by_node, event_of, events, is_commit, is_root, lines, of_history, without_roots}
use Rattle.change_spec.specs.Statements.{Statement}
use Rattle.change_spec.proofs.MemberLaws.{at_line, events_of_nodes, events_parts, events_without_roots, lines_parts, none_happens}
use Rattle.change_transcript_laws.specs.Pieces.{IsTranscript, config_at}
use Rattle.change_transcript_laws.specs.Reports.{IsReportOfTranscript}
use Rattle.change_spec.specs.Resting.{AreByNodes, FinishedEarly, RestedAtOnce, RestedIfShort}
use Rattle.change_transcript_laws.specs.Rests.{AreCalm, HaveFolds}
use Rattle.change_transcript_laws.proofs.EndFolds.{have_folds}
use Rattle.change_transcript_laws.proofs.EndLaws.{unfinished}
use Rattle.change_transcript_laws.proofs.FoldLaws.{folds}
use Rattle.change_transcript_laws.proofs.FollowLaws.{fair_transcript, follows}
use Rattle.change_transcript_laws.proofs.LawfulLaws.{events_are, join, runs}
use Rattle.change_transcript_laws.proofs.MergeLaws.{merge}
use Rattle.change_transcript_laws.proofs.RestLaws.{rested_at}
use Rattle.change_transcript_laws.proofs.StaysLaws.{none_unfinished}

calm_nodes : (es : List Event) → AreByNodes es → AreCalm es
calm_nodes [] h = tt
calm_nodes (e ∷ es) h = (no_node_shapes e h.0, calm_nodes es h.1)

calm_if : (es : List Event) → list_any is_shaping es ≡ false → AreCalm es
calm_if [] h = tt
calm_if (e ∷ es) h = let w = or_parts (is_shaping e) (list_any is_shaping es) h in (w.0, calm_if es w.1)

calm_both : (xs ys : List Event) → AreCalm xs → AreCalm ys → AreCalm (xs ++ ys)
calm_both [] ys h k = k
calm_both (x ∷ xs) ys h k = (h.0, calm_both xs ys h.1 k)

-- ---- behind the line of such a finish

module _ (ms : List Member) (report : Report) (merge_ : Merge ms report) (x : FinishedEarly report.history) (unshaped : list_any is_shaping (filter_map event_of x.later) ≡ false) where
  abbrev line : HistoryLine
  line = to.Finish x.n x.rounds

  lines_are : lines ms ≡ without_roots x.front ++ line ∷ without_roots x.later
  lines_are = merge_.history ∙ ap without_roots x.parts ∙ filter-append (λ l. not (is_root l)) x.front (line ∷ x.later)

  -- the members behind the line
  record Behind : Type 0 where
    before : List Member
    after : List Member
    parts : ms ≡ before ++ of_history line ∷ after
    calm : AreCalm (events after)

  behind : Behind
  behind =
      let w = at_line ms (without_roots x.front) line (without_roots x.later) lines_are in
      let cut : lines ms ≡ without_roots x.front ++ line ∷ lines w.after =
      ap lines w.parts ∙ lines_parts w.before (of_history line ∷ w.after) ∙ ap (λ ls. ls ++ line ∷ lines w.after) w.lines_before in
      let later : lines w.after ≡ without_roots x.later =
      tails_are line line (lines w.after) (without_roots x.later)
      (append_cancel_left (without_roots x.front) (line ∷ lines w.after) (line ∷ without_roots x.later) (sym cut ∙ lines_are)) in
      let kinds = all_parts IsOfItsKind w.before (of_history line ∷ w.after) (subst (All IsOfItsKind) w.parts merge_.by_nodes) in
      record {
        before = w.before;
        after = w.after;
        parts = w.parts;
        calm = calm_if (events w.after)
            (none_happens is_shaping no_node_shapes w.after (All-tail IsOfItsKind (of_history line) w.after kinds.1)
            (ap (λ ls. list_any is_shaping (filter_map event_of ls)) later ∙ ap (list_any is_shaping) (events_without_roots x.later) ∙ unshaped));
      }

  abbrev IsNoneUndone : List Statement → Type 0
  IsNoneUndone statements = unfinished_of statements (events ms) ≡ None

  undone_behind : (b : Behind) (statements : List Statement) → IsRun (events ms) → HaveFolds (events ms) → RestedAtOnce b.before → IsNoneUndone statements
  undone_behind b statements run folds_ r =
      let whole : events ms ≡ events r.front ++ (r.later ++ events b.after) =
      ap events b.parts ∙ events_parts b.before (of_history line ∷ b.after)
      ∙ ap (λ m. events m ++ events b.after) r.parts ∙ ap (λ es. es ++ events b.after) (events_parts r.front (map by_node r.later))
      ∙ ap (λ es. (events r.front ++ es) ++ events b.after) (events_of_nodes r.later)
      ∙ append_assoc (events r.front) r.later (events b.after) in
      ap (unfinished_of statements) whole
      ∙ none_unfinished (events r.front) (r.later ++ events b.after) (subst IsRun whole run)
      (calm_both r.later (events b.after) (calm_nodes r.later r.by_nodes) b.calm) r.rest (subst HaveFolds whole folds_) statements

-- behind the last commit no line shapes the configuration
abbrev pub AreUnshaped : List Statement → Type 0
AreUnshaped statements = (front later : List HistoryLine) → Follows statements (front ++ later) → list_any is_commit later ≡ false → list_any is_shaping (filter_map event_of later) ≡ false

pub none_undone : (statements : List Statement) → AreUnshaped statements → (t : List Item) (m : List Moment) (report : Report) → IsTranscript false statements t → IsRecordOf (entries t) m
    → IsReportOfTranscript t m report → FinishedEarly report.history → report.unfinished ≡ None
none_undone statements behind_commits t m report x is_of has early =
    let line = to.Finish early.n early.rounds in
    let w = join t m is_of in
    let ms = w.0 in
    let j = w.1 in
    let fair = fair_transcript false statements t x in
    let merged = merge t m ms fair j is_of report has in
    let told : (early.front ++ line ∷ []) ++ early.later ≡ transcripts.lines t = append_assoc early.front (line ∷ []) early.later ∙ sym early.parts ∙ has.history_is in
    let unshaped = behind_commits (early.front ++ line ∷ []) early.later (subst (Follows statements) (sym told) (follows false statements t x)) early.uncommitted in
    let b = behind ms report merged early unshaped in
    let same : config_at t ≡ (state_after (events ms)).config =
    config_is (entries t) m is_of ∙ sym (ap (λ es. (state_after es).config) (events_are t m ms fair j)) in
    let folded = have_folds ms report.history report.logs (folds t m ms fair j is_of report has)
    (has.slots ∙ ap (λ (c : Configuration). range_with_len 0 (length c.slots)) same) in
    let rested : RestedIfShort b.before (of_history line) =
    each_at RestedIfShort b.before b.after (of_history line) (subst (Each RestedIfShort) b.parts (rested_at statements t m ms x j is_of)) in
    unfinished false statements t m ms report x j is_of has
    ∙ ⊎_elim
    (λ (e : early.rounds ≡ early.n). let less = early.fewer in absurd (omega (arith, e, less)))
    (λ (r : (early.rounds < early.n) × RestedAtOnce b.before). undone_behind ms report merged early unshaped b statements (runs t m ms fair j is_of) folded r.1)
    rested
