-- A transcript's lines follow the script.
use Rattle.std.proofs.Common.{◌≡◌, ◌∙◌, ℕ, ◌<◌, Bool, true, false, List, [], ◌∷◌, ◌++◌, append_assoc, length, map, refl, sym, ap, subst, ⊎_elim, inl, inr}
use Rattle.std.specs.Prelude.{ℤ, ◌&&◌, filter_map, flat_map}
use Rattle.std.specs.List.{list_all, list_any}
use Rattle.std.specs.List.Sorted.{IsStrictlyIncreasing}
use Rattle.std.proofs.lemmas.Bool.{cases_Bool}
use Rattle.std.proofs.lemmas.Grind.{flat_map-append}
use Rattle.std.proofs.lemmas.List.{append-nil, length-map, map-append}
use Rattle.std.proofs.lemmas.List.Elements.{filter_map-append}
use Rattle.std.proofs.lemmas.List.Folds.{list_all-append}
use Rattle.base.specs.Each.{EachAfter}
use Rattle.config_graph.specs.Graph.{Graph}
use Rattle.change_plan.specs.declared.plan_data.Move.{Move}
use Rattle.change_plan.specs.declared.plan_data.Plan.{Plan}
use Rattle.quiesce_laws.specs.Steps.{change_all, live_ports}
use Rattle.quiesce_laws.specs.Work as work_
use Rattle.change_plan_laws.specs.Commit.{commit_events, commit_steps, new_links, ports_to_close, reopened_ports, work}
use Rattle.quiesce_laws.specs.Starts.{start_of}
use Rattle.quiesce_core.specs.Doers.{is_of_change}
use Rattle.quiesce_core.specs.Live.{IsGraphOf}
use Rattle.quiesce_core.specs.State.{Configuration}
use Rattle.quiesce_core.specs.declared.event.Event.{Event}
use Rattle.quiesce_core.specs.declared.event.Event.TheVariants.{Reopen, Unlink, Remove}
use Rattle.report_types.specs.declared.report.HistoryLine.{HistoryLine}
use Rattle.report_types.specs.declared.report.HistoryLine.TheVariants as to
use Rattle.change_spec.specs.Changes as law
use Rattle.change_spec.specs.Changes.{IsChange, drained_lines, opening_lines, seen_in_all}
use Rattle.change_spec.specs.Follows.{Follows, IsRight, IsStop, Part, lines_of, start_lines}
use Rattle.change_spec.specs.Members.{event_of, is_pending, lines_of_events}
use Rattle.change_spec.specs.Scene.{AreSeen, Seen, config_after, drained_line, root_line}
use Rattle.change_spec.specs.Statements.{Statement, start, change, run, finish, show}
use Rattle.txn_records.specs.declared.entry.Entry.{Entry}
use Rattle.change_board.specs.Steps.{Deed, events_of}
use Rattle.change_board.specs.Transcripts.{Item, said, lines}
use Rattle.change_board.specs.Scans.{look_entry}
use Rattle.change_engine.specs.Carrying.{deed_items, sight_item}
use Rattle.change_engine.specs.Finishing.{all_entries, rounds_in}
use Rattle.change_engine.specs.Passivating.{left_after, silent_items}
use Rattle.change_engine.specs.declared.passivating.LeftRoot.{LeftRoot}
use Rattle.change_engine.specs.Draining.{pending_items}
use Rattle.change_transcript_laws.specs.Pieces.{AreCommitItems, IsDone, AreAbandonItems, AreStartItems, AreStopItems, IsTranscript, AreChangeItems, Piece, config_at, items_of, opening_items, IsDonePiece}
use Rattle.change_transcript_laws.proofs.ItemLemmas.{AreFair, fair_both, fair_config, fair_deeds, fair_passivation, fair_run, fair_scans, fair_sights, fair_roots}
use Rattle.change_transcript_laws.proofs.LookLemmas.{all_are_seen, looks_are, none_left_seen}
use Rattle.change_spec.proofs.PortLaws.{closed_events, closing_rise, config_more, no_events_drained, still_to_close}
use Rattle.change_engine.proofs.ItemLaws.{lines_both, silent_lines, sight_lines, carried_lines, all_mapped, start_is_of_change}
use Rattle.change_engine.proofs.PassivationLaws.{looks_of, passivation_lines, seen_root, root_lines}
use Rattle.change_spec.proofs.ClosingLaws.{reopen_lines}
use Rattle.change_engine.specs.Stopping.{stop_items}

-- ---- the events of commits are all the change's

both_all : (xs ys : List Event) → list_all is_of_change xs ≡ true → list_all is_of_change ys ≡ true → list_all is_of_change (xs ++ ys) ≡ true
both_all xs ys h k = list_all-append is_of_change xs ys ∙ ap (λ b. b && list_all is_of_change ys) h ∙ k

commit_is_change : (old new : Graph) (plan : Plan) (c : Configuration) → list_all is_of_change (commit_events old new plan c) ≡ true
commit_is_change old new plan c =
    let w = work old new plan c in
    let unlinks = map Unlink w.unlinks in
    let removes = map Remove w.removes in
    let makes = map work_.make_new w.makes in
    let links = new_links new plan (change_all c (unlinks ++ (removes ++ makes))) in
    both_all (commit_steps old new plan c) (map Reopen (reopened_ports old new plan c))
    (both_all (unlinks ++ (removes ++ makes)) (map work_.link_new links)
    (both_all unlinks (removes ++ makes) (all_mapped is_of_change Unlink (λ x. refl) w.unlinks)
    (both_all removes makes (all_mapped is_of_change Remove (λ x. refl) w.removes) (all_mapped is_of_change work_.make_new (λ x. refl) w.makes)))
    (all_mapped is_of_change work_.link_new (λ x. refl) links))
    (all_mapped is_of_change Reopen (λ x. refl) (reopened_ports old new plan c))

fair_done : (deeds : List Deed) (es : List Event) → events_of deeds ≡ es → list_all is_of_change es ≡ true → AreFair (flat_map deed_items deeds)
fair_done deeds es are h = fair_deeds deeds (ap (list_all is_of_change) are ∙ h)

-- ---- starts

fair_start : (before : List Item) (name : List ℕ) (args : List ℤ) (g : Graph) (t : List Item) → AreStartItems before name args g t → AreFair t
fair_start before name args g t x =
    let did = flat_map deed_items x.deeds in
    subst AreFair (sym x.are) (fair_both (said (to.Start name args) ∷ did) (said to.Commit ∷ []) (refl, fair_done x.deeds (start_of g) x.events_are (start_is_of_change g)) (refl, tt))

start_right : (before : List Item) (name : List ℕ) (args : List ℤ) (g : Graph) (t : List Item) → AreStartItems before name args g t → lines t ≡ start_lines name args g
start_right before name args g t x =
    let did = flat_map deed_items x.deeds in
    ap lines x.are ∙ lines_both (said (to.Start name args) ∷ did) (said to.Commit ∷ [])
    ∙ ap (λ ls. to.Start name args ∷ ls ++ to.Commit ∷ []) (carried_lines x.deeds ∙ ap lines_of_events x.events_are)

-- ---- changes

-- the configuration behind the closes, by lines, and by items
module _ (before : List Item) (fair : AreFair before) (name : List ℕ) (args : List ℤ) (new : Graph) (within : ℕ) (moves : List Move) (t : List Item)
    (x : AreChangeItems before name args new within moves t) where
  abbrev c : Configuration
  c = config_at before

  abbrev looks : List (List Seen)
  looks = looks_of x.how

  abbrev left : List LeftRoot
  left = left_after x.how.first x.how.rounds

  abbrev opening : List HistoryLine
  opening = opening_lines name args x.old x.plan (config_after (lines before))

  abbrev opened : List Item
  opened = opening_items name args x.closed x.how

  same_config : c ≡ config_after (lines before)
  same_config = fair_config before fair

  closed_same : x.closed ≡ ports_to_close x.old x.plan (config_after (lines before))
  closed_same = x.closed_are ∙ ap (ports_to_close x.old x.plan) same_config

  closed_rise : IsStrictlyIncreasing x.closed
  closed_rise = subst IsStrictlyIncreasing (sym x.closed_are) (closing_rise x.old x.plan c)

  opening_here : lines opened ≡ opening ++ drained_lines looks
  opening_here =
      ap (λ ls. to.Change name args ∷ ls) (passivation_lines x.closed x.how)
      ∙ ap (λ ps. to.Change name args ∷ (map to.Close ps ++ drained_lines looks)) closed_same

  fair_opening : AreFair opened
  fair_opening = (refl, fair_passivation x.closed x.how)

  events_opened : filter_map event_of (opening ++ drained_lines looks) ≡ filter_map event_of opening
  events_opened =
      filter_map-append event_of opening (drained_lines looks) ∙ ap (λ es. filter_map event_of opening ++ es) (no_events_drained (seen_in_all looks))
      ∙ append-nil (filter_map event_of opening)

  -- when all is closed
  config_closed : config_at (before ++ opened) ≡ config_after (lines before ++ opening)
  config_closed =
      fair_config (before ++ opened) (fair_both before opened fair fair_opening)
      ∙ ap config_after (lines_both before opened) ∙ config_more (lines before) (lines opened)
      ∙ ap (λ ls. change_all (config_after (lines before)) (filter_map event_of ls)) opening_here
      ∙ ap (change_all (config_after (lines before))) events_opened ∙ sym (config_more (lines before) opening)

  still_closed : ports_to_close x.old x.plan (config_after (lines before ++ opening)) ≡ x.closed
  still_closed =
      ap (ports_to_close x.old x.plan) (config_more (lines before) opening
      ∙ ap (change_all (config_after (lines before))) (closed_events (ports_to_close x.old x.plan (config_after (lines before)))))
      ∙ still_to_close x.old x.plan (config_after (lines before)) ∙ sym closed_same

  fair_committed : AreCommitItems (before ++ opened) x.old new x.plan left x.rest → AreFair x.rest
  fair_committed y = subst AreFair (sym y.are) (fair_both (flat_map deed_items y.deeds) (said to.Commit ∷ [])
      (fair_done y.deeds _ y.events_are (commit_is_change x.old new x.plan (config_at (before ++ opened)))) (refl, tt))

  fair_given_up : AreAbandonItems x.closed within left x.rest → AreFair x.rest
  fair_given_up y =
      let did = flat_map deed_items y.deeds in
      let roots = pending_items within left in
      subst AreFair (sym y.are) (fair_both (roots ++ did) (said to.Abandon ∷ []) (fair_both roots did (refl, fair_roots left)
      (fair_done y.deeds _ y.events_are (all_mapped is_of_change Reopen (λ p. refl) x.closed))) (refl, tt))

  pub fair_change : AreFair t
  fair_change = subst AreFair (sym x.are) (fair_both opened x.rest fair_opening
      (⊎_elim (λ (y : AreCommitItems (before ++ opened) x.old new x.plan left x.rest). fair_committed y)
      (λ (y : (length x.how.rounds ≡ within) × AreAbandonItems x.closed within left x.rest). fair_given_up y.1) x.ends))

  -- its end
  committed : (y : AreCommitItems (before ++ opened) x.old new x.plan left x.rest)
      → law.IsCommitted x.old new x.plan within (config_after (lines before ++ opening)) (drained_lines looks ++ lines x.rest)
  committed y = record {
    looks = looks;
    are_looks = looks_are x.closed within x.how x.is_passivation closed_rise;
    all_seen = subst (λ ps. AreSeen ps (seen_in_all looks)) (sym still_closed) (none_left_seen x.closed within x.how x.is_passivation y.none_left);
    are = ap (λ ls. drained_lines looks ++ ls) (ap lines y.are ∙ lines_both (flat_map deed_items y.deeds) (said to.Commit ∷ [])
        ∙ ap (λ ls. ls ++ to.Commit ∷ []) (carried_lines y.deeds ∙ ap lines_of_events y.events_are ∙ ap (λ k. lines_of_events (commit_events x.old new x.plan k)) config_closed));
  }

  given_up : AreAbandonItems x.closed within left x.rest → law.IsGivenUp x.closed within (drained_lines looks ++ lines x.rest)
  given_up y =
      let did = flat_map deed_items y.deeds in
      let roots = pending_items within left in
      record {
        looks = looks;
        left = map seen_root left;
        are_looks = looks_are x.closed within x.how x.is_passivation closed_rise;
        some_left = subst (λ n. 0 < n) (sym (length-map left seen_root)) y.some_left;
        all_seen = all_are_seen x.closed within x.how x.is_passivation;
        are = ap (λ ls. drained_lines looks ++ ls) (ap lines y.are ∙ lines_both (roots ++ did) (said to.Abandon ∷ [])
            ∙ ap (λ ls. ls ++ to.Abandon ∷ []) (lines_both roots did
            ∙ ap (λ ls. to.Pending within ∷ ls ++ lines did) (root_lines left)
            ∙ ap (λ ls. to.Pending within ∷ map root_line (map seen_root left) ++ ls) (carried_lines y.deeds ∙ ap lines_of_events y.events_are ∙ reopen_lines x.closed)));
      }

  pub change_right : IsChange (lines before) name args new within moves (lines t)
  change_right = record {
    old = x.old;
    is_old = subst (λ k. IsGraphOf k x.old) same_config x.is_old;
    plan = x.plan;
    moves_lead = x.moves_lead;
    is_plan = x.is_plan;
    rest = drained_lines looks ++ lines x.rest;
    are = ap lines x.are ∙ lines_both opened x.rest ∙ ap (λ ls. ls ++ lines x.rest) opening_here ∙ append_assoc opening (drained_lines looks) (lines x.rest);
    ends = ⊎_elim
        (λ (y : AreCommitItems (before ++ opened) x.old new x.plan left x.rest). inl (committed y))
        (λ (y : (length x.how.rounds ≡ within) × AreAbandonItems x.closed within left x.rest).
        inr (subst (λ ps. law.IsGivenUp ps within (drained_lines looks ++ lines x.rest)) closed_same (given_up y.1)))
        x.ends;
  }

-- ---- runs, finishes and shows

quiet_line : (es : List Entry) (l : HistoryLine) → lines (silent_items es ++ said l ∷ []) ≡ l ∷ []
quiet_line es l = lines_both (silent_items es) (said l ∷ []) ∙ ap (λ ls. ls ++ l ∷ []) (silent_lines es)

-- ---- any statement

fair_piece : (alone : Bool) (before : List Item) → AreFair before → (s : Statement) (t : List Item) → IsDone alone before s t → AreFair t
fair_piece alone before fair (start name args g) t d = fair_start before name args g t d
fair_piece alone before fair (change name args g within moves) t d = ⊎_elim
    (λ (skipped : list_any is_pending (lines before) ≡ true). subst AreFair (sym (d.0 skipped)) (refl, (refl, tt)))
    (λ (tried : list_any is_pending (lines before) ≡ false). fair_change before fair name args g within moves t (d.1 tried))
    (cases_Bool (list_any is_pending (lines before)))
fair_piece alone before fair (run k) t d =
    subst AreFair (sym d.are) (fair_both (silent_items (map look_entry d.looks ++ all_entries d.scans)) (said (to.Run k d.ended) ∷ []) (fair_run d.looks d.scans) (refl, tt))
fair_piece alone before fair (finish n) t d =
    subst AreFair (sym d.are) (fair_both (silent_items (all_entries d.scans)) (said (to.Finish n (rounds_in d.scans)) ∷ []) (fair_scans d.scans) (refl, tt))
fair_piece alone before fair show t d = subst AreFair (sym d.are) (refl, tt)

piece_right : (alone : Bool) (before : List Item) → AreFair before → (s : Statement) (t : List Item) → IsDone alone before s t → IsRight (lines before) s (lines t)
piece_right alone before fair (start name args g) t d = start_right before name args g t d
piece_right alone before fair (change name args g within moves) t d = (
  λ skipped. ap lines (d.0 skipped),
  λ tried. change_right before fair name args g within moves t (d.1 tried),
)
piece_right alone before fair (run k) t d = record { ended = d.ended; are = ap lines d.are ∙ quiet_line (map look_entry d.looks ++ all_entries d.scans) (to.Run k d.ended) }
piece_right alone before fair (finish n) t d =
    record { rounds = rounds_in d.scans; are = ap lines d.are ∙ quiet_line (all_entries d.scans) (to.Finish n (rounds_in d.scans)) }
piece_right alone before fair show t d = record { graph = d.graph; are = ap lines d.are }

-- ---- all statements

abbrev part_of : Piece → Part
part_of p = record { statement = p.statement; lines = lines p.items }

abbrev IsRightPart : List Part → Part → Type 0
IsRightPart before p = IsRight (lines_of before) p.statement p.lines

lines_pieces : (ps : List Piece) → lines_of (map part_of ps) ≡ lines (items_of ps)
lines_pieces [] = refl
lines_pieces (p ∷ ps) = ap (λ ls. lines p.items ++ ls) (lines_pieces ps) ∙ sym (lines_both p.items (items_of ps))

statements_of : (ps : List Piece) → map (λ (p : Part). p.statement) (map part_of ps) ≡ map (λ (p : Piece). p.statement) ps
statements_of [] = refl
statements_of (p ∷ ps) = ap (λ ss. p.statement ∷ ss) (statements_of ps)

pub items_pushed : (before : List Piece) (p : Piece) → items_of (before ++ p ∷ []) ≡ items_of before ++ p.items
items_pushed before p = flat_map-append (λ (q : Piece). q.items) before (p ∷ []) ∙ ap (λ t. items_of before ++ t) (append-nil p.items)

module _ (alone : Bool) where
  fair_next : (before : List Piece) (p : Piece) → AreFair (items_of before) → IsDonePiece alone before p → AreFair (items_of (before ++ p ∷ []))
  fair_next before p fair d =
      subst AreFair (sym (items_pushed before p)) (fair_both (items_of before) p.items fair (fair_piece alone (items_of before) fair p.statement p.items d))

  pub fair_pieces : (before ps : List Piece) → AreFair (items_of before) → EachAfter (IsDonePiece alone) before ps → AreFair (items_of (before ++ ps))
  fair_pieces before [] fair each = subst (λ qs. AreFair (items_of qs)) (sym (append-nil before)) fair
  fair_pieces before (p ∷ ps) fair each =
      subst (λ qs. AreFair (items_of qs)) (append_assoc before (p ∷ []) ps) (fair_pieces (before ++ p ∷ []) ps (fair_next before p fair each.0) each.1)

  parts_right : (before ps : List Piece) → AreFair (items_of before) → EachAfter (IsDonePiece alone) before ps → EachAfter IsRightPart (map part_of before) (map part_of ps)
  parts_right before [] fair each = tt
  parts_right before (p ∷ ps) fair each = (
    subst (λ ls. IsRight ls p.statement (lines p.items)) (sym (lines_pieces before)) (piece_right alone (items_of before) fair p.statement p.items each.0),
    subst (λ qs. EachAfter IsRightPart qs (map part_of ps)) (map-append part_of before (p ∷ [])) (parts_right (before ++ p ∷ []) ps (fair_next before p fair each.0) each.1),
  )

-- ---- the stop

stop_right : (before t : List Item) → AreFair before → AreStopItems before t → IsStop (lines before) (lines t)
stop_right before t fair x =
    let seen = seen_in_all (looks_of x.how) in
    let closed_same : x.closed ≡ live_ports (config_after (lines before)) = x.closed_are ∙ ap live_ports (fair_config before fair) in
    record {
      seen = seen;
      are = ap lines x.are ∙ lines_both (stop_items x.closed x.how) (map sight_item x.sights)
          ∙ ap (λ ls. lines (stop_items x.closed x.how) ++ ls) (sight_lines x.sights) ∙ append-nil (lines (stop_items x.closed x.how))
          ∙ ap (λ ls. to.Stop ∷ ls) (passivation_lines x.closed x.how) ∙ ap (λ qs. to.Stop ∷ (map to.Close qs ++ map drained_line seen)) closed_same;
      all_seen = subst (λ qs. AreSeen qs seen) closed_same (none_left_seen x.closed x.within x.how x.is_passivation x.none_left);
    }

pub fair_stop : (before t : List Item) → AreStopItems before t → AreFair t
fair_stop before t x =
    subst AreFair (sym x.are) (fair_both (stop_items x.closed x.how) (map sight_item x.sights) (refl, fair_passivation x.closed x.how) (fair_sights x.sights))

pub fair_transcript : (alone : Bool) (statements : List Statement) (t : List Item) → IsTranscript alone statements t → AreFair t
fair_transcript alone statements t x =
    subst AreFair x.are (fair_both (items_of x.pieces) x.stop (fair_pieces alone [] x.pieces tt x.done) (fair_stop (items_of x.pieces) x.stop x.stops))

pub follows : (alone : Bool) (statements : List Statement) (t : List Item) → IsTranscript alone statements t → Follows statements (lines t)
follows alone statements t x = record {
  parts = map part_of x.pieces;
  stop = lines x.stop;
  statements_are = statements_of x.pieces ∙ x.statements_are;
  right = parts_right alone [] x.pieces tt x.done;
  stops = subst (λ ls. IsStop ls (lines x.stop)) (sym (lines_pieces x.pieces)) (stop_right (items_of x.pieces) x.stop (fair_pieces alone [] x.pieces tt x.done) x.stops);
  history_is = ap (λ ls. ls ++ lines x.stop) (lines_pieces x.pieces) ∙ sym (lines_both (items_of x.pieces) x.stop) ∙ ap lines x.are;
}
