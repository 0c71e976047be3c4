-- Which node is named as not done, and the status.
use Rattle.std.proofs.Common.{◌≡◌, ◌∙◌, ℕ, Bool, true, false, cond, List, [], ◌∷◌, ◌++◌, map, None, refl, sym, ap, ⊎_elim, length}
use Rattle.std.specs.Prelude.{◌||◌, ℤ, flat_map}
use Rattle.std.specs.List.{list_any}
use Rattle.std.proofs.lemmas.Bool.{both_ways, cases_Bool}
use Rattle.base.specs.Each.{EachAfter}
use Rattle.config_graph.specs.Graph.{Graph}
use Rattle.change_plan.specs.declared.plan_data.Move.{Move}
use Rattle.report_types.specs.declared.report.HistoryLine.{HistoryLine}
use Rattle.report_types.specs.declared.report.HistoryLine.TheVariants as to
use Rattle.report_types.specs.declared.report.Report.{Report}
use Rattle.change_spec.specs.Lawful.{unfinished_of}
use Rattle.change_spec.specs.Members as members
use Rattle.change_spec.specs.Members.{Member, is_pending}
use Rattle.change_spec.specs.Statements.{Statement, start, change, run, finish, show, is_finish}
use Rattle.change_board.specs.Collecting.{first_undone}
use Rattle.txn_records.specs.Records.{IsRecordOf, Moment}
use Rattle.change_board.specs.Scans.{look_entry}
use Rattle.change_board.specs.Transcripts.{Item, said, entries, lines}
use Rattle.change_engine.specs.Carrying.{deed_items, sight_item}
use Rattle.change_engine.specs.Finishing.{all_entries, rounds_in}
use Rattle.change_engine.specs.Passivating.{left_after}
use Rattle.change_engine.specs.Ending.{is_finish_line}
use Rattle.change_transcript_laws.specs.Joining.{AreJoined}
use Rattle.change_engine.specs.Draining.{pending_items}
use Rattle.change_transcript_laws.specs.Pieces.{AreCommitItems, IsDone, AreAbandonItems, IsTranscript, AreChangeItems, Piece, config_at, items_of, opening_items, IsDonePiece}
use Rattle.change_transcript_laws.specs.Reports.{IsReportOfTranscript, taken_in}
use Rattle.change_transcript_laws.proofs.FoldLaws.{undone}
use Rattle.change_transcript_laws.proofs.FollowLaws.{fair_transcript}
use Rattle.change_transcript_laws.proofs.ItemLemmas.{is_aside}
use Rattle.change_transcript_laws.proofs.LineLemmas.{any_line, both_lines, none_both, none_deeds, none_passivation, none_roots, silent_line}
use Rattle.change_engine.proofs.ItemLaws.{sight_lines}
use Rattle.change_engine.specs.Stopping.{stop_items}
use Rattle.std.proofs.Math.Bool.{or-false}

none_aside : (l : HistoryLine) → is_aside l ≡ false → is_finish_line l ≡ false
none_aside (to.Finish n r) h = absurd (both_ways true h refl)
none_aside _ h = refl

abbrev ends : List Item → Bool
ends t = any_line is_finish_line t

tried_none : (before : List Item) (name : List ℕ) (args : List ℤ) (new : Graph) (within : ℕ) (moves : List Move) (t : List Item) → AreChangeItems before name args new within moves t → ends t ≡ false
tried_none before name args new within moves t x =
    let opened = opening_items name args x.closed x.how in
    let left = left_after x.how.first x.how.rounds in
    let rest : ends x.rest ≡ false =
    ⊎_elim
    (λ (y : AreCommitItems (before ++ opened) x.old new x.plan left x.rest).
    ap ends y.are ∙ none_both is_finish_line (flat_map deed_items y.deeds) (said to.Commit ∷ []) (none_deeds is_finish_line none_aside y.deeds) refl)
    (λ (y : (length x.how.rounds ≡ within) × AreAbandonItems x.closed within left x.rest).
    ap ends y.1.are
    ∙ none_both is_finish_line (pending_items within left ++ flat_map deed_items y.1.deeds) (said to.Abandon ∷ [])
    (none_both is_finish_line (pending_items within left) (flat_map deed_items y.1.deeds) (none_roots is_finish_line (λ p k. refl) left) (none_deeds is_finish_line none_aside y.1.deeds)) refl)
    x.ends in
    ap ends x.are ∙ none_both is_finish_line opened x.rest (none_passivation is_finish_line none_aside x.closed x.how) rest

piece_ends : (alone : Bool) (before : List Item) (s : Statement) (t : List Item) → IsDone alone before s t → ends t ≡ is_finish s
piece_ends alone before (start name args g) t d =
    ap ends d.are ∙ none_both is_finish_line (said (to.Start name args) ∷ flat_map deed_items d.deeds) (said to.Commit ∷ []) (none_deeds is_finish_line none_aside d.deeds) refl
piece_ends alone before (change name args g within moves) t d = ⊎_elim
    (λ (skipped : list_any is_pending (lines before) ≡ true). ap ends (d.0 skipped))
    (λ (tried : list_any is_pending (lines before) ≡ false). tried_none before name args g within moves t (d.1 tried))
    (cases_Bool (list_any is_pending (lines before)))
piece_ends alone before (run k) t d = ap ends d.are ∙ silent_line is_finish_line (map look_entry d.looks ++ all_entries d.scans) (to.Run k d.ended)
piece_ends alone before (finish n) t d = ap ends d.are ∙ silent_line is_finish_line (all_entries d.scans) (to.Finish n (rounds_in d.scans))
piece_ends alone before show t d = ap ends d.are

pieces_end : (alone : Bool) (before ps : List Piece) → EachAfter (IsDonePiece alone) before ps
    → ends (items_of ps) ≡ list_any is_finish (map (λ (p : Piece). p.statement) ps)
pieces_end alone before [] each = refl
pieces_end alone before (p ∷ ps) each =
    both_lines is_finish_line p.items (items_of ps) ∙ ap (λ b. b || ends (items_of ps)) (piece_ends alone (items_of before) p.statement p.items each.0)
    ∙ ap (λ b. is_finish p.statement || b) (pieces_end alone (before ++ p ∷ []) ps each.1)

-- a line of a finish is there exactly where the script has one
transcript_ends : (alone : Bool) (statements : List Statement) (t : List Item) → IsTranscript alone statements t → ends t ≡ list_any is_finish statements
transcript_ends alone statements t x =
    let stopping = stop_items x.stops.closed x.stops.how in
    let none : ends x.stop ≡ false =
    ap ends x.stops.are ∙ none_both is_finish_line stopping (map sight_item x.stops.sights) (none_passivation is_finish_line none_aside x.stops.closed x.stops.how)
    (ap (list_any is_finish_line) (sight_lines x.stops.sights)) in
    sym (ap ends x.are) ∙ both_lines is_finish_line (items_of x.pieces) x.stop ∙ ap (λ b. ends (items_of x.pieces) || b) none ∙ or-false (ends (items_of x.pieces))
    ∙ pieces_end alone [] x.pieces x.done ∙ ap (list_any is_finish) x.statements_are

module _ (alone : Bool) (statements : List Statement) (t : List Item) (m : List Moment) (ms : List Member) (report : Report) (x : IsTranscript alone statements t) (j : AreJoined t m ms)
    (is_of : IsRecordOf (entries t) m) (has : IsReportOfTranscript t m report) where
  pub unfinished : report.unfinished ≡ unfinished_of statements (members.events ms)
  unfinished =
      has.unfinished_is ∙ ap (λ b. cond b (first_undone (config_at t) (taken_in report)) None) (ap (list_any is_finish_line) has.history_is ∙ transcript_ends alone statements t x)
      ∙ ap (λ o. cond (list_any is_finish statements) o None) (undone t m ms (fair_transcript alone statements t x) j is_of report has)
