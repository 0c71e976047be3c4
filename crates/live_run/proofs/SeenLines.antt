-- Each line of a run, of a finish or of an open root tells what the transcript has before it.
use Rattle.std.proofs.Common.{◌≡◌, ◌∙◌, ℕ, Bool, true, false, List, [], ◌∷◌, ◌++◌, append_assoc, length, map, refl, sym, ap, subst, ⊎_elim, inl, inr}
use Rattle.std.specs.Prelude.{◌||◌, ℤ, flat_map}
use Rattle.std.specs.List.{cons_option, list_any}
use Rattle.std.proofs.lemmas.List.Folds.{list_any-append}
use Rattle.std.specs.Option.{option_map_or}
use Rattle.std.proofs.lemmas.Bool.{both_ways, cases_Bool, or_parts}
use Rattle.std.proofs.lemmas.List.{map-append}
use Rattle.base.specs.Each.{Each, EachAfter}
use Rattle.base.proofs.EachLaws.{each_joined}
use Rattle.change_board.specs.Scans.{look_entry}
use Rattle.change_board.specs.Transcripts.{Item, silent, told, said, line_in, lines}
use Rattle.change_board.specs.Steps.{Deed, events_of}
use Rattle.change_engine.proofs.ItemLaws.{carried_lines, lines_both, sight_lines, silent_lines}
use Rattle.change_engine.proofs.PassivationLaws.{looks_of, passivation_lines}
use Rattle.change_engine.specs.Calls.{skip_items}
use Rattle.change_engine.specs.Carrying.{deed_items, sight_item}
use Rattle.change_engine.specs.Draining.{pending_items, root_item}
use Rattle.change_engine.specs.Finishing.{all_entries, rounds_in}
use Rattle.change_engine.specs.Passivating.{IsPassivation, Passivation, left_after, passivation_items, silent_items}
use Rattle.change_engine.specs.Stopping.{stop_items}
use Rattle.change_engine.specs.declared.passivating.LeftRoot.{LeftRoot}
use Rattle.change_plan.specs.declared.plan_data.Move.{Move}
use Rattle.change_spec.specs.Changes.{drained_lines, seen_in_all}
use Rattle.change_spec.specs.Members.{is_pending, line_of, lines_of_events}
use Rattle.change_spec.specs.Scene.{drained_line}
use Rattle.quiesce_core.specs.declared.event.Event.{Event}
use Rattle.quiesce_core.specs.declared.event.Event.TheVariants.{Close, Link, Make, Remove, Reopen, Unlink}
use Rattle.change_spec.specs.Statements.{Statement, start, change, run, finish, show}
use Rattle.change_transcript_laws.proofs.FollowLaws.{items_pushed}
use Rattle.change_transcript_laws.specs.Pieces.{AreAbandonItems, AreChangeItems, AreCommitItems, IsDone, IsTranscript, Piece, items_of, opening_items}
use Rattle.config_graph.specs.Graph.{Graph}
use Rattle.live_board.specs.Ended.{AgreesWith}
use Rattle.live_run.specs.Telling.{EndsWithLine, IsSeenItem, IsSeenSo, IsUpToLine}
use Rattle.report_types.specs.declared.report.HistoryLine.{HistoryLine}
use Rattle.report_types.specs.declared.report.HistoryLine.TheVariants as to
use Rattle.report_types.specs.declared.report.Report.{Report}
use Rattle.txn_records.specs.declared.entry.Entry.{Entry}
use Rattle.txn_spec.specs.declared.view.NodeView.{NodeView}

-- ---- other lines

abbrev is_of_looks : HistoryLine → Bool
is_of_looks (to.Run k n) = true
is_of_looks (to.Finish n k) = true
is_of_looks (to.Root p k) = true
is_of_looks _ = false

-- whether a line of these items is of looks
abbrev tells_looks : List Item → Bool
tells_looks t = list_any is_of_looks (lines t)

quiet_both : (t u : List Item) → tells_looks t ≡ false → tells_looks u ≡ false → tells_looks (t ++ u) ≡ false
quiet_both t u h k = ap (list_any is_of_looks) (lines_both t u) ∙ list_any-append is_of_looks (lines t) (lines u) ∙ ap (λ b. b || tells_looks u) h ∙ k

quiet_mapped : {A : Type 0} (f : A → HistoryLine) → ((x : A) → is_of_looks (f x) ≡ false) → (xs : List A) → list_any is_of_looks (map f xs) ≡ false
quiet_mapped f h [] = refl
quiet_mapped f h (x ∷ xs) = ap (λ b. b || list_any is_of_looks (map f xs)) (h x) ∙ quiet_mapped f h xs

quiet_event : (e : Event) (ls : List HistoryLine) → list_any is_of_looks (cons_option (line_of e) ls) ≡ list_any is_of_looks ls
quiet_event (Make n node from) ls = refl
quiet_event (Link p n x) ls = refl
quiet_event (Unlink p) ls = refl
quiet_event (Remove n) ls = refl
quiet_event (Close p) ls = refl
quiet_event (Reopen p) ls = refl
quiet_event _ ls = refl

events_untold : (es : List Event) → list_any is_of_looks (lines_of_events es) ≡ false
events_untold [] = refl
events_untold (e ∷ es) = quiet_event e (lines_of_events es) ∙ events_untold es

quiet_deeds : (deeds : List Deed) → tells_looks (flat_map deed_items deeds) ≡ false
quiet_deeds deeds = ap (list_any is_of_looks) (carried_lines deeds) ∙ events_untold (events_of deeds)

quiet_waiting : (ports : List ℕ) (how : Passivation) → tells_looks (passivation_items ports how) ≡ false
quiet_waiting ports how =
    ap (list_any is_of_looks) (passivation_lines ports how) ∙ list_any-append is_of_looks (map to.Close ports) (drained_lines (looks_of how))
    ∙ ap (λ b. b || list_any is_of_looks (drained_lines (looks_of how))) (quiet_mapped to.Close (λ p. refl) ports) ∙ quiet_mapped drained_line (λ d. refl) (seen_in_all (looks_of how))

quiet_entries : (es : List Entry) → tells_looks (silent_items es) ≡ false
quiet_entries es = ap (list_any is_of_looks) (silent_lines es)

unseen_line : (before : List Item) (l : HistoryLine) → is_of_looks l ≡ false → IsSeenSo before l
unseen_line before (to.Run k n) h = absurd (both_ways true h refl)
unseen_line before (to.Finish n k) h = absurd (both_ways true h refl)
unseen_line before (to.Root p k) h = absurd (both_ways true h refl)
unseen_line before _ h = tt

abbrev tells_here : Item → Bool
tells_here x = option_map_or is_of_looks (line_in x) false

unseen_item : (before : List Item) (x : Item) → tells_here x ≡ false → IsSeenItem before x
unseen_item before (silent y) h = tt
unseen_item before (told y l) h = unseen_line before l h
unseen_item before (said l) h = unseen_line before l h

front_tells : (x : Item) (u : List Item) → tells_looks (x ∷ u) ≡ (tells_here x || tells_looks u)
front_tells (silent y) u = refl
front_tells (told y l) u = refl
front_tells (said l) u = refl

unseen_items : (before u : List Item) → tells_looks u ≡ false → EachAfter IsSeenItem before u
unseen_items before [] h = tt
unseen_items before (x ∷ u) h =
    let w = or_parts (tells_here x) (tells_looks u) (sym (front_tells x u) ∙ h) in (unseen_item before x w.0, unseen_items (before ++ x ∷ []) u w.1)

-- ---- the roots that a change left

module _ (place : List Item) (name : List ℕ) (args : List ℤ) (closed : List ℕ) (within : ℕ) (how : Passivation) (is_passivation : IsPassivation closed within how) (all_rounds : length how.rounds ≡ within) where
  abbrev behind : List LeftRoot → List Item
  behind front = place ++ opening_items name args closed how ++ pending_items within front

  roots_in_order : (front back : List LeftRoot) → left_after how.first how.rounds ≡ front ++ back → EachAfter IsSeenItem (behind front) (map root_item back)
  roots_in_order front [] is = tt
  roots_in_order front (x ∷ back) is =
      let opened = place ++ opening_items name args closed how in
      let pending = said (to.Pending within) in
      let next : behind (front ++ x ∷ []) ≡ behind front ++ root_item x ∷ [] =
      ap (λ u. opened ++ pending ∷ u) (map-append root_item front (x ∷ [])) ∙ sym (append_assoc opened (pending ∷ map root_item front) (root_item x ∷ [])) in (
        record {
          front = place;
          name = name;
          args = args;
          closed = closed;
          within = within;
          how = how;
          is_passivation = is_passivation;
          all_rounds = all_rounds;
          earlier = front;
          later = back;
          parts = refl;
          roots = is;
        },
        subst (λ u. EachAfter IsSeenItem u (map root_item back)) next (roots_in_order (front ++ x ∷ []) back (is ∙ sym (append_assoc front (x ∷ []) back))),
      )

-- ---- the line that each piece ends with

ends_behind : (before u : List Item) → EndsWithLine u → EndsWithLine (before ++ u)
ends_behind before u h = record { front = before ++ h.front; line = h.line; parts = ap (λ v. before ++ v) h.parts ∙ sym (append_assoc before h.front (said h.line ∷ [])) }

change_ends : (before : List Item) (name : List ℕ) (args : List ℤ) (new : Graph) (within : ℕ) (moves : List Move) (u : List Item) → AreChangeItems before name args new within moves u → EndsWithLine u
change_ends before name args new within moves u x =
    let opened = opening_items name args x.closed x.how in
    let left = left_after x.how.first x.how.rounds in
    let last : EndsWithLine x.rest =
    ⊎_elim (λ (y : AreCommitItems (before ++ opened) x.old new x.plan left x.rest). record { front = flat_map deed_items y.deeds; line = to.Commit; parts = y.are })
    (λ (y : (length x.how.rounds ≡ within) × AreAbandonItems x.closed within left x.rest). record { front = pending_items within left ++ flat_map deed_items y.1.deeds; line = to.Abandon; parts = y.1.are })
    x.ends in
    subst EndsWithLine (sym x.are) (ends_behind opened x.rest last)

piece_ends : (before : List Item) (s : Statement) (u : List Item) → IsDone false before s u → EndsWithLine u
piece_ends before (start name args g) u d = record { front = said (to.Start name args) ∷ flat_map deed_items d.deeds; line = to.Commit; parts = d.are }
piece_ends before (change name args g within moves) u d = ⊎_elim
    (λ (skipped : list_any is_pending (lines before) ≡ true). record { front = said (to.Change name args) ∷ []; line = to.Skipped; parts = d.0 skipped })
    (λ (tried : list_any is_pending (lines before) ≡ false). change_ends before name args g within moves u (d.1 tried))
    (cases_Bool (list_any is_pending (lines before)))
piece_ends before (run k) u d = record { front = silent_items (map look_entry d.looks ++ all_entries d.scans); line = to.Run k d.ended; parts = d.are }
piece_ends before (finish n) u d = record { front = silent_items (all_entries d.scans); line = to.Finish n (rounds_in d.scans); parts = d.are }
piece_ends before show u d = record { front = []; line = to.Show d.graph; parts = d.are }

-- ---- each piece

module _ (before : List Item) (name : List ℕ) (args : List ℤ) (new : Graph) (within : ℕ) (moves : List Move) (u : List Item) (x : AreChangeItems before name args new within moves u) where
  abbrev opened : List Item
  opened = opening_items name args x.closed x.how

  abbrev left : List LeftRoot
  left = left_after x.how.first x.how.rounds

  opened_none : tells_looks opened ≡ false
  opened_none = quiet_waiting x.closed x.how

  joined : EachAfter IsSeenItem (before ++ opened) x.rest → EachAfter IsSeenItem before u
  joined h = subst (EachAfter IsSeenItem before) (sym x.are) (each_joined IsSeenItem before opened x.rest (unseen_items before opened opened_none) h)

  committed : AreCommitItems (before ++ opened) x.old new x.plan left x.rest → EachAfter IsSeenItem (before ++ opened) x.rest
  committed y =
      subst (EachAfter IsSeenItem (before ++ opened)) (sym y.are)
      (unseen_items (before ++ opened) (flat_map deed_items y.deeds ++ said to.Commit ∷ []) (quiet_both (flat_map deed_items y.deeds) (said to.Commit ∷ []) (quiet_deeds y.deeds) refl))

  given_up : length x.how.rounds ≡ within → AreAbandonItems x.closed within left x.rest → EachAfter IsSeenItem (before ++ opened) x.rest
  given_up all_rounds y =
      let did = flat_map deed_items y.deeds in
      let pending = said (to.Pending within) in
      let roots = map root_item left in
      let end = said to.Abandon ∷ [] in
      let told_ : EachAfter IsSeenItem ((before ++ opened) ++ pending ∷ []) roots = roots_in_order before name args x.closed within x.how x.is_passivation all_rounds [] left refl in
      let rest : EachAfter IsSeenItem ((before ++ opened) ++ pending ∷ roots) did = unseen_items ((before ++ opened) ++ pending ∷ roots) did (quiet_deeds y.deeds) in
      subst (EachAfter IsSeenItem (before ++ opened)) (sym y.are)
      (each_joined IsSeenItem (before ++ opened) (pending ∷ roots ++ did) end (each_joined IsSeenItem (before ++ opened) (pending ∷ roots) did (tt, told_) rest) (tt, tt))

  change_seen : EachAfter IsSeenItem before u
  change_seen = joined (⊎_elim committed (λ (y : (length x.how.rounds ≡ within) × AreAbandonItems x.closed within left x.rest). given_up y.0 y.1) x.ends)

piece_tells : (before : List Item) → IsUpToLine before → (s : Statement) (u : List Item) → IsDone false before s u → EachAfter IsSeenItem before u
piece_tells before at (start name args g) u d =
    let did = said (to.Start name args) ∷ flat_map deed_items d.deeds in
    subst (EachAfter IsSeenItem before) (sym d.are) (unseen_items before (did ++ said to.Commit ∷ []) (quiet_both did (said to.Commit ∷ []) (quiet_deeds d.deeds) refl))
piece_tells before at (change name args g within moves) u d = ⊎_elim
    (λ (skipped : list_any is_pending (lines before) ≡ true). subst (EachAfter IsSeenItem before) (sym (d.0 skipped)) (unseen_items before (skip_items name args) refl))
    (λ (tried : list_any is_pending (lines before) ≡ false). change_seen before name args g within moves u (d.1 tried))
    (cases_Bool (list_any is_pending (lines before)))
piece_tells before at (run k) u d =
    let es = map look_entry d.looks ++ all_entries d.scans in
    subst (EachAfter IsSeenItem before) (sym d.are) (each_joined IsSeenItem before (silent_items es) (said (to.Run k d.ended) ∷ []) (unseen_items before (silent_items es) (quiet_entries es)) (
      record { front = before; up_to_line = at; looks = d.looks; scans = d.scans; parts = refl; at_ports = d.at_ports; are_scans = d.are_scans; twice = d.twice refl; go_on = d.go_on; ends = d.ends; ended_is = d.ended_is },
      tt,
    ))
piece_tells before at (finish n) u d =
    let es = all_entries d.scans in
    subst (EachAfter IsSeenItem before) (sym d.are) (each_joined IsSeenItem before (silent_items es) (said (to.Finish n (rounds_in d.scans)) ∷ []) (unseen_items before (silent_items es) (quiet_entries es)) (
      record { front = before; up_to_line = at; scans = d.scans; parts = refl; few = d.few; are_scans = d.are_scans; twice = d.twice refl; ends = d.ends; rounds_are = refl },
      tt,
    ))
piece_tells before at show u d = subst (EachAfter IsSeenItem before) (sym d.are) (unseen_items before (said (to.Show d.graph) ∷ []) refl)

pieces_tell : (before ps : List Piece) → IsUpToLine (items_of before) → EachAfter (λ qs (p : Piece). IsDone false (items_of qs) p.statement p.items) before ps → EachAfter IsSeenItem (items_of before) (items_of ps)
pieces_tell before [] at each = tt
pieces_tell before (p ∷ ps) at each =
    let ends : EndsWithLine (items_of (before ++ p ∷ [])) =
    subst EndsWithLine (sym (items_pushed before p)) (ends_behind (items_of before) p.items (piece_ends (items_of before) p.statement p.items each.0)) in
    each_joined IsSeenItem (items_of before) p.items (items_of ps) (piece_tells (items_of before) at p.statement p.items each.0)
    (subst (λ v. EachAfter IsSeenItem v (items_of ps)) (items_pushed before p) (pieces_tell (before ++ p ∷ []) ps (inr ends) each.1))

transcript_tells : (statements : List Statement) (t : List Item) → IsTranscript false statements t → Each IsSeenItem t
transcript_tells statements t x =
    let stopping = stop_items x.stops.closed x.stops.how in
    let none : tells_looks x.stop ≡ false =
    ap tells_looks x.stops.are ∙ quiet_both stopping (map sight_item x.stops.sights) (quiet_waiting x.stops.closed x.stops.how)
    (ap (list_any is_of_looks) (sight_lines x.stops.sights)) in
    subst (Each IsSeenItem) x.are (each_joined IsSeenItem [] (items_of x.pieces) x.stop (pieces_tell [] x.pieces (inl refl) x.done) (unseen_items (items_of x.pieces) x.stop none))

pub told_as_seen : (statements : List Statement) (report : Report) (r : List Entry) (nodes : List NodeView) (h : AgreesWith statements report r nodes) → Each IsSeenItem h.came.transcript
told_as_seen statements report r nodes h = transcript_tells statements h.came.transcript h.came.is_transcript
