-- A change is told as given up behind as many scans, since its last close, as it says that it waited.
use Rattle.std.proofs.Common.{◌≡◌, ◌∙◌, ℕ, ◌≤◌, Bool, true, false, cond, List, [], ◌∷◌, ◌++◌, append_assoc, length, map, refl, sym, ap, subst, ⊎_elim, arith}
use Rattle.std.specs.Prelude.{⊤, ◌||◌, ℤ, flat_map}
use Rattle.std.specs.List.{count_by, list_any}
use Rattle.std.specs.Option.{option_map_or}
use Rattle.std.proofs.lemmas.Bool.{both_ways, cases_Bool, or_parts}
use Rattle.std.proofs.lemmas.List.Sums.{sum_by-cons}
use Rattle.base.specs.Each.{Each, EachAfter}
use Rattle.base.proofs.EachLaws.{each_joined}
use Rattle.base.proofs.MapLaws.{count_by-append}
use Rattle.change_plan.specs.declared.plan_data.Move.{Move}
use Rattle.config_graph.specs.Graph.{Graph}
use Rattle.report_types.specs.declared.report.HistoryLine.{HistoryLine}
use Rattle.report_types.specs.declared.report.HistoryLine.TheVariants as to
use Rattle.change_spec.specs.Changes.{seen_in_all}
use Rattle.change_spec.specs.Members.{is_close, is_pending}
use Rattle.change_spec.specs.Scene.{Seen, drained_line}
use Rattle.change_spec.specs.Statements.{Statement, start, change, run, finish, show}
use Rattle.txn_records.specs.declared.entry.Entry.{Entry}
use Rattle.txn_records.specs.declared.entry.Entry.TheVariants.{Scanned}
use Rattle.change_board.specs.Bearing.{HadRounds, is_waiting_scan}
use Rattle.change_board.specs.Scans.{look_entry, scan_entries}
use Rattle.change_board.specs.Sights.{sight_entry}
use Rattle.change_board.specs.Transcripts.{Item, silent, told, said, entries, line_in, lines}
use Rattle.change_engine.specs.Carrying.{deed_items, sight_item}
use Rattle.change_engine.specs.Draining.{root_item}
use Rattle.change_engine.specs.Finishing.{all_entries, rounds_in}
use Rattle.change_engine.specs.Passivating.{Passivation, WaitingRound, close_item, left_after, look_item, round_items, silent_items}
use Rattle.change_engine.specs.Stopping.{stop_items}
use Rattle.change_engine.specs.declared.passivating.LeftRoot.{LeftRoot}
use Rattle.change_engine.proofs.ItemLaws.{entries_both, sight_lines, silent_entries}
use Rattle.change_engine.proofs.PassivationLaws.{looks_of, passivation_lines}
use Rattle.change_transcript_laws.specs.Pieces.{AreAbandonItems, AreChangeItems, AreCommitItems, IsDone, IsTranscript, Piece, items_of, opening_items}
use Rattle.change_transcript_laws.proofs.FollowLaws.{items_pushed}
use Rattle.change_transcript_laws.proofs.ItemLemmas.{is_aside}
use Rattle.change_transcript_laws.proofs.LineLemmas.{any_line, none_both, none_deeds, none_passivation, none_roots}
use Rattle.change_transcript_laws.proofs.PendingLaws.{commit_none, none_in_both, opening_none, quiet_none, start_none}

-- ---- scans of rounds

abbrev scanned : List Entry → ℕ
scanned es = count_by is_waiting_scan es

scanned_round : (w : WaitingRound) → 1 ≤ scanned (entries (round_items w))
scanned_round w =
    let es = scan_entries false w.moved w.sights w.scan in
    omega (
      arith,
      ap scanned (entries_both (silent_items es) (map look_item w.found)),
      count_by-append is_waiting_scan (entries (silent_items es)) (entries (map look_item w.found)),
      ap scanned (silent_entries es),
      sum_by-cons (λ e. cond (is_waiting_scan e) 1 0) (Scanned false w.moved) (map sight_entry w.sights ++ map look_entry w.scan),
    )

scanned_rounds : (rounds : List WaitingRound) → length rounds ≤ scanned (entries (flat_map round_items rounds))
scanned_rounds [] = omega arith
scanned_rounds (w ∷ rounds) = omega (
  arith,
  ap scanned (entries_both (round_items w) (flat_map round_items rounds)),
  count_by-append is_waiting_scan (entries (round_items w)) (entries (flat_map round_items rounds)),
  scanned_round w,
  scanned_rounds rounds,
)

none_closes : (seen : List Seen) → list_any is_close (map drained_line seen) ≡ false
none_closes [] = refl
none_closes (d ∷ seen) = none_closes seen

had_rounds : (before : List Item) (name : List ℕ) (args : List ℤ) (closed : List ℕ) (how : Passivation) → HadRounds (before ++ opening_items name args closed how) (length how.rounds)
had_rounds before name args closed how =
    let shut = said (to.Change name args) ∷ map close_item closed in
    let looks = map look_item how.first in
    let rounds = flat_map round_items how.rounds in
    record {
      front = before ++ shut;
      since = looks ++ rounds;
      parts = ap (λ t. before ++ said (to.Change name args) ∷ t) (append_assoc (map close_item closed) looks rounds) ∙ sym (append_assoc before shut (looks ++ rounds));
      behind_closes = ap (list_any is_close) (passivation_lines [] how) ∙ none_closes (seen_in_all (looks_of how));
      enough = omega (arith, ap scanned (entries_both looks rounds), count_by-append is_waiting_scan (entries looks) (entries rounds), scanned_rounds how.rounds);
    }

-- ---- each line of a transcript

abbrev pub IsWaited : List Item → Item → Type 0
IsWaited before (said (to.Pending rounds)) = HadRounds before rounds
IsWaited before _ = ⊤

abbrev line_test : Item → Bool
line_test x = option_map_or is_pending (line_in x) false

none_here : (before : List Item) (x : Item) → line_test x ≡ false → IsWaited before x
none_here before (said (to.Pending rounds)) h = absurd (both_ways true h refl)
none_here before _ h = tt

first_line : (x : Item) (u : List Item) → any_line is_pending (x ∷ u) ≡ (line_test x || any_line is_pending u)
first_line (silent y) u = refl
first_line (told y l) u = refl
first_line (said l) u = refl

all_none : (before u : List Item) → any_line is_pending u ≡ false → EachAfter IsWaited before u
all_none before [] h = tt
all_none before (x ∷ u) h =
    let w = or_parts (line_test x) (any_line is_pending u) (sym (first_line x u) ∙ h) in (none_here before x w.0, all_none (before ++ x ∷ []) u w.1)

none_aside : (l : HistoryLine) → is_aside l ≡ false → is_pending l ≡ false
none_aside (to.Pending n) h = absurd (both_ways true h refl)
none_aside _ h = refl

module _ (before : List Item) (name : List ℕ) (args : List ℤ) (new : Graph) (within : ℕ) (moves : List Move) (u : List Item) (x : AreChangeItems before name args new within moves u) where
  abbrev opened : List Item
  opened = opening_items name args x.closed x.how

  abbrev left : List LeftRoot
  left = left_after x.how.first x.how.rounds

  joined : EachAfter IsWaited (before ++ opened) x.rest → EachAfter IsWaited before u
  joined h = subst (EachAfter IsWaited before) (sym x.are) (each_joined IsWaited before opened x.rest (all_none before opened (opening_none name args x.closed x.how)) h)

  committed : AreCommitItems (before ++ opened) x.old new x.plan left x.rest → EachAfter IsWaited (before ++ opened) x.rest
  committed y = subst (EachAfter IsWaited (before ++ opened)) (sym y.are) (all_none (before ++ opened) (flat_map deed_items y.deeds ++ said to.Commit ∷ []) (commit_none y.deeds))

  given_up : length x.how.rounds ≡ within → AreAbandonItems x.closed within left x.rest → EachAfter IsWaited (before ++ opened) x.rest
  given_up made y =
      let did = flat_map deed_items y.deeds in
      let tail_ = map root_item left ++ did ++ said to.Abandon ∷ [] in
      let none : any_line is_pending tail_ ≡ false =
      none_in_both (map root_item left ++ did) (said to.Abandon ∷ [])
      (none_in_both (map root_item left) did (none_roots is_pending (λ p k. refl) left) (none_deeds is_pending none_aside y.deeds)) refl in
      subst (EachAfter IsWaited (before ++ opened)) (sym y.are) (
        subst (HadRounds (before ++ opened)) made (had_rounds before name args x.closed x.how),
        all_none ((before ++ opened) ++ said (to.Pending within) ∷ []) tail_ none,
      )

  change_told : EachAfter IsWaited before u
  change_told = joined (⊎_elim committed (λ (y : (length x.how.rounds ≡ within) × AreAbandonItems x.closed within left x.rest). given_up y.0 y.1) x.ends)

piece_told : (alone : Bool) (before : List Item) (s : Statement) (u : List Item) → IsDone alone before s u → EachAfter IsWaited before u
piece_told alone before (start name args g) u d =
    subst (EachAfter IsWaited before) (sym d.are) (all_none before (said (to.Start name args) ∷ flat_map deed_items d.deeds ++ said to.Commit ∷ []) (start_none name args d.deeds))
piece_told alone before (change name args g within moves) u d = ⊎_elim
    (λ (skipped : list_any is_pending (lines before) ≡ true). subst (EachAfter IsWaited before) (sym (d.0 skipped)) (tt, (tt, tt)))
    (λ (tried : list_any is_pending (lines before) ≡ false). change_told before name args g within moves u (d.1 tried))
    (cases_Bool (list_any is_pending (lines before)))
piece_told alone before (run k) u d =
    let es = map look_entry d.looks ++ all_entries d.scans in
    subst (EachAfter IsWaited before) (sym d.are) (all_none before (silent_items es ++ said (to.Run k d.ended) ∷ []) (quiet_none es (to.Run k d.ended) refl))
piece_told alone before (finish n) u d =
    let es = all_entries d.scans in
    subst (EachAfter IsWaited before) (sym d.are) (all_none before (silent_items es ++ said (to.Finish n (rounds_in d.scans)) ∷ []) (quiet_none es (to.Finish n (rounds_in d.scans)) refl))
piece_told alone before show u d = subst (EachAfter IsWaited before) (sym d.are) (tt, tt)

pieces_told : (alone : Bool) (before ps : List Piece) → EachAfter (λ qs (p : Piece). IsDone alone (items_of qs) p.statement p.items) before ps → EachAfter IsWaited (items_of before) (items_of ps)
pieces_told alone before [] each = tt
pieces_told alone before (p ∷ ps) each =
    each_joined IsWaited (items_of before) p.items (items_of ps) (piece_told alone (items_of before) p.statement p.items each.0)
    (subst (λ v. EachAfter IsWaited v (items_of ps)) (items_pushed before p) (pieces_told alone (before ++ p ∷ []) ps each.1))

pub waits_told : (alone : Bool) (statements : List Statement) (t : List Item) → IsTranscript alone statements t → Each IsWaited t
waits_told alone statements t x =
    let stopping = stop_items x.stops.closed x.stops.how in
    let none : any_line is_pending x.stop ≡ false =
    ap (any_line is_pending) x.stops.are ∙ none_both is_pending stopping (map sight_item x.stops.sights) (none_passivation is_pending none_aside x.stops.closed x.stops.how)
    (ap (list_any is_pending) (sight_lines x.stops.sights)) in
    subst (Each IsWaited) x.are (each_joined IsWaited [] (items_of x.pieces) x.stop (pieces_told alone [] x.pieces x.done) (all_none (items_of x.pieces) x.stop none))
