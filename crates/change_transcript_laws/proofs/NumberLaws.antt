-- A run ended with at least as many transactions as its line tells, and behind a finish each live port was looked at at
-- least as often as it tells rounds.
use Rattle.std.proofs.Common.{◌≡◌, ◌∙◌, ℕ, zero, suc, ◌+◌, ◌≤◌, Bool, true, false, cond, List, [], ◌∷◌, ◌++◌, append_assoc, length, map, Some, None, refl, sym, ap, subst, ⊎_elim, arith}
use Rattle.std.specs.Prelude.{⊤, ◌||◌, ℤ, flat_map}
use Rattle.std.specs.List.{AllByRecursion, cons_option, count_by, list_any, range_with_len, sum_by}
use Rattle.std.specs.Option.{option_map_or}
use Rattle.std.proofs.lemmas.Bool.{both_ways, cases_Bool, or_parts}
use Rattle.std.proofs.lemmas.List.Elements.{filter_map-append}
use Rattle.std.proofs.lemmas.List.Sums.{sum_by-cons}
use Rattle.std.proofs.lemmas.Option.{none-some, same_Some}
use Rattle.base.specs.Each.{Each, EachAfter}
use Rattle.base.proofs.EachLaws.{each_at, each_carried, each_joined}
use Rattle.base.proofs.MapLaws.{count_by-append}
use Rattle.base.proofs.PlaceLaws.{heads_are, tails_are}
use Rattle.change_plan.specs.declared.plan_data.Move.{Move}
use Rattle.config_graph.specs.Graph.{Graph}
use Rattle.quiesce_core.specs.Doers.{is_end_at}
use Rattle.quiesce_core.specs.Rules.{is_live_port}
use Rattle.quiesce_core.specs.Runs.{IsRun}
use Rattle.quiesce_core.specs.State.{Configuration}
use Rattle.quiesce_core.specs.declared.event.Event.{Event}
use Rattle.quiesce_core.specs.declared.event.Event.TheVariants as event
use Rattle.quiesce_core.proofs.RunLaws.{fronts_are_runs}
use Rattle.report_types.specs.declared.report.HistoryLine.{HistoryLine}
use Rattle.report_types.specs.declared.report.HistoryLine.TheVariants as to
use Rattle.change_spec.specs.Lawful.{EndedSince, IsEndedAt}
use Rattle.change_spec.specs.Members.{Member, by_node, of_history, is_pending, line_of}
use Rattle.change_spec.specs.Statements.{Statement, start, change, run, finish, show}
use Rattle.txn_records.specs.declared.entry.Entry.{Entry}
use Rattle.txn_records.specs.declared.entry.Entry.TheVariants.{Did, Looked, Sighted, Scanned}
use Rattle.txn_records.specs.Looks.{ended_in_word, is_drained_word, serial_of}
use Rattle.txn_records.specs.Records as records
use Rattle.txn_records.specs.Records.{IsRecordOf, IsSo, Moment}
use Rattle.change_board.specs.Bearing.{WereLookedAt, looks_at}
use Rattle.change_board.specs.Scans.{Found, all_ports, ended_in, look_entry, ports_of}
use Rattle.change_board.specs.Transcripts.{Item, silent, told, said, entries, line_in, lines, tells}
use Rattle.change_engine.specs.Carrying.{deed_items, sight_item}
use Rattle.change_engine.specs.Finishing.{IsScanIn, ScanSeen, all_entries, rounds_in}
use Rattle.change_engine.specs.Passivating.{left_after, silent_items}
use Rattle.change_engine.specs.Running.{ended_since}
use Rattle.change_transcript_laws.specs.Joining.{AreJoined, Joint, of_node, of_line, of_entry, item_of, items_in, member_of, members_in, moment_of, moments_in}
use Rattle.change_engine.specs.Draining.{pending_items}
use Rattle.change_transcript_laws.specs.Pieces.{AreCommitItems, IsDone, AreAbandonItems, IsTranscript, AreChangeItems, Piece, config_at, items_of, opening_items}
use Rattle.change_transcript_laws.proofs.ConfigLaws.{scans_config}
use Rattle.change_transcript_laws.proofs.CountLemmas.{IsBetween, ended_at, ends_of_ports, run_shows}
use Rattle.change_transcript_laws.proofs.FollowLaws.{fair_transcript, items_pushed}
use Rattle.change_transcript_laws.proofs.ItemLemmas.{AreFair, is_aside}
use Rattle.change_transcript_laws.proofs.JoiningLemmas.{IsKnown, Lifted, each_both, fair_back, lifted}
use Rattle.change_transcript_laws.proofs.LawfulLaws.{all_known, line_there}
use Rattle.change_transcript_laws.proofs.LineLemmas.{any_line, none_both, none_deeds, none_passivation, none_roots, none_silent}
use Rattle.change_transcript_laws.proofs.LookingLemmas.{few_rounds, looked_scans}
use Rattle.change_engine.proofs.ItemLaws.{sight_lines, silent_entries, silent_lines}
use Rattle.change_engine.specs.Stopping.{stop_items}

-- ---- joints by their items

pub record SplitItems (js : List Joint) (xs ys : List Item) : Type 0 where
  pub front : List Joint
  pub back : List Joint
  pub parts : js ≡ front ++ back
  pub front_items : items_in front ≡ xs
  pub back_items : items_in back ≡ ys

split_more : (j : Joint) (js : List Joint) (y x : Item) (xs ys : List Item) → item_of j ≡ Some y → y ∷ items_in js ≡ x ∷ xs ++ ys → (items_in js ≡ xs ++ ys → SplitItems js xs ys) → SplitItems (j ∷ js) (x ∷ xs) ys
split_more j js y x xs ys is h later =
    let w = later (tails_are y x (items_in js) (xs ++ ys) h) in
    record {
      front = j ∷ w.front;
      back = w.back;
      parts = ap (λ k. j ∷ k) w.parts;
      front_items = ap (λ o. cons_option o (items_in w.front)) is ∙ ap (λ k. y ∷ k) w.front_items ∙ ap (λ v. v ∷ xs) (heads_are y x (items_in js) (xs ++ ys) h);
      back_items = w.back_items;
    }

pub split_items : (js : List Joint) (xs ys : List Item) → items_in js ≡ xs ++ ys → SplitItems js xs ys
split_items js [] ys h = record { front = []; back = js; parts = refl; front_items = refl; back_items = h }
split_items [] (x ∷ xs) ys h = absurd (cc h)
split_items (of_node e ∷ js) (x ∷ xs) ys h =
    let w = split_items js (x ∷ xs) ys h in
    record { front = of_node e ∷ w.front; back = w.back; parts = ap (λ k. of_node e ∷ k) w.parts; front_items = w.front_items; back_items = w.back_items }
split_items (of_line l ∷ js) (x ∷ xs) ys h = split_more (of_line l) js (said l) x xs ys refl h (λ e. split_items js xs ys e)
split_items (of_entry y None ∷ js) (x ∷ xs) ys h = split_more (of_entry y None) js (silent y) x xs ys refl h (λ e. split_items js xs ys e)
split_items (of_entry y (Some l) ∷ js) (x ∷ xs) ys h = split_more (of_entry y (Some l)) js (told y l) x xs ys refl h (λ e. split_items js xs ys e)

abbrev is_silent : Item → Bool
is_silent (silent y) = true
is_silent _ = false

abbrev entry_there : Item → Entry → Entry
entry_there (silent y) z = y
entry_there _ z = z

-- ---- between two places of which the items between are silent

module _ (front back : List Joint) (es : List Entry) (are : items_in back ≡ silent_items es) (so : Each IsSo (moments_in (front ++ back))) (runs : IsRun (records.events (moments_in (front ++ back))))
    (fair : AreFair (items_in back)) where
  abbrev low : ℕ → ℕ
  low p = count_by (is_end_at p) (records.events (moments_in front))

  abbrev high : ℕ → ℕ
  high p = count_by (is_end_at p) (records.events (moments_in (front ++ back)))

  events_both : (a b : List Joint) → records.events (moments_in (a ++ b)) ≡ records.events (moments_in a) ++ records.events (moments_in b)
  events_both a b = ap records.events (filter_map-append moment_of a b) ∙ filter_map-append records.event_at (moments_in a) (moments_in b)

  look_between : (x rest : List Joint) (p w : ℕ) → back ≡ x ++ of_entry (Looked p w) None ∷ rest → (low p ≤ ended_in_word w) × (ended_in_word w ≤ high p)
  look_between x rest p w parts =
      let place = front ++ x in
      let whole : front ++ back ≡ place ++ of_entry (Looked p w) None ∷ rest = ap (λ k. front ++ k) parts ∙ sym (append_assoc front x (of_entry (Looked p w) None ∷ rest)) in
      let ms : moments_in (front ++ back) ≡ moments_in place ++ records.entry (Looked p w) ∷ moments_in rest = ap moments_in whole ∙ filter_map-append moment_of place (of_entry (Looked p w) None ∷ rest) in
      let here : w ≡ _ = each_at IsSo (moments_in place) (moments_in rest) (records.entry (Looked p w)) (subst (λ k. Each IsSo k) ms so) in
      let tail_ = of_entry (Looked p w) None ∷ rest in
      let split = ap (λ k. records.events (moments_in k)) whole ∙ events_both place tail_ in
      let run_here = fronts_are_runs (records.events (moments_in place)) (records.events (moments_in tail_)) (subst IsRun split runs) in
      let shown = ended_at (records.events (moments_in place)) p w run_here here in
      let up = ap (count_by (is_end_at p)) split ∙ count_by-append (is_end_at p) (records.events (moments_in place)) (records.events (moments_in tail_)) in
      let down = ap (count_by (is_end_at p)) (events_both front x) ∙ count_by-append (is_end_at p) (records.events (moments_in front)) (records.events (moments_in x)) in
      (omega (arith, shown, down), omega (arith, shown, up))

  between : (x rest : List Joint) (fs : List Entry) → back ≡ x ++ rest → items_in rest ≡ silent_items fs → AllByRecursion (IsBetween low high) fs
  between x [] [] parts h = tt
  between x [] (f ∷ fs) parts h = absurd (cc h)
  between x (of_node e ∷ rest) fs parts h = between (x ++ of_node e ∷ []) rest fs (parts ∙ sym (append_assoc x (of_node e ∷ []) rest)) h
  between x (of_line l ∷ rest) [] parts h = absurd (cc h)
  between x (of_line l ∷ rest) (f ∷ fs) parts h = absurd (both_ways false refl (ap is_silent (heads_are (said l) (silent f) (items_in rest) (silent_items fs) h)))
  between x (of_entry y (Some l) ∷ rest) [] parts h = absurd (cc h)
  between x (of_entry y (Some l) ∷ rest) (f ∷ fs) parts h = absurd (both_ways false refl (ap is_silent (heads_are (told y l) (silent f) (items_in rest) (silent_items fs) h)))
  between x (of_entry y None ∷ rest) [] parts h = absurd (cc h)
  between x (of_entry y None ∷ rest) (f ∷ fs) parts h =
      let same : y ≡ f = ap (λ i. entry_there i f) (heads_are (silent y) (silent f) (items_in rest) (silent_items fs) h) in (
        here f (parts ∙ ap (λ z. x ++ of_entry z None ∷ rest) same),
        between (x ++ of_entry y None ∷ []) rest fs (parts ∙ sym (append_assoc x (of_entry y None ∷ []) rest)) (tails_are (silent y) (silent f) (items_in rest) (silent_items fs) h),
      )
    where
      here : (f : Entry) → back ≡ x ++ of_entry f None ∷ rest → IsBetween low high f
      here (Looked p w) parts = look_between x rest p w parts
      here (Did e) parts = tt
      here (Sighted n es) parts = tt
      here (Scanned b m) parts = tt

  -- the members there are events of nodes
  pub nodes_alone : (rest : List Joint) (fs : List Entry) → items_in rest ≡ silent_items fs → AreFair (items_in rest) → members_in rest ≡ map by_node (records.events (moments_in rest))
  nodes_alone [] fs h f = refl
  nodes_alone (of_node e ∷ rest) fs h f = ap (λ k. by_node e ∷ k) (nodes_alone rest fs h f)
  nodes_alone (of_line l ∷ rest) [] h f = absurd (cc h)
  nodes_alone (of_line l ∷ rest) (g ∷ fs) h f = absurd (both_ways false refl (ap is_silent (heads_are (said l) (silent g) (items_in rest) (silent_items fs) h)))
  nodes_alone (of_entry y (Some l) ∷ rest) [] h f = absurd (cc h)
  nodes_alone (of_entry y (Some l) ∷ rest) (g ∷ fs) h f = absurd (both_ways false refl (ap is_silent (heads_are (told y l) (silent g) (items_in rest) (silent_items fs) h)))
  nodes_alone (of_entry y None ∷ rest) [] h f = absurd (cc h)
  nodes_alone (of_entry y None ∷ rest) (g ∷ fs) h f =
      nodes_alone rest fs (tails_are (silent y) (silent g) (items_in rest) (silent_items fs) h) f.1
      ∙ ap (map by_node) (sym (ap (λ o. cons_option o (records.events (moments_in rest))) f.0))

  ended_between : (alone : Bool) (looks : List Found) (scans : List ScanSeen) (c : Configuration) → es ≡ map look_entry looks ++ all_entries scans → ports_of looks ≡ all_ports c → AllByRecursion (IsScanIn alone c) scans
      → EndedSince (members_in (front ++ back)) (ended_since (ended_in looks) scans)
  ended_between alone looks scans c es_are at_ports scans_are =
      let later = records.events (moments_in back) in
      let all = between [] back es refl are in
      let shows = run_shows low high alone looks scans c at_ports scans_are (subst (λ fs. AllByRecursion (IsBetween low high) fs) es_are all) in
      let more_ : (p : ℕ) → high p ≡ low p + count_by (is_end_at p) later = λ p.
      ap (count_by (is_end_at p)) (events_both front back) ∙ count_by-append (is_end_at p) (records.events (moments_in front)) later in
      record {
        front = members_in front;
        later = later;
        parts = filter_map-append member_of front back ∙ ap (λ k. members_in front ++ k) (nodes_alone back es are fair);
        enough = omega (arith, shows, sums (length c.gates) 0 more_, ends_of_ports later 0 (length c.gates));
      }
    where
      sums : (n a : ℕ) → ((p : ℕ) → high p ≡ low p + count_by (is_end_at p) (records.events (moments_in back)))
          → sum_by high (range_with_len a n) ≡ sum_by low (range_with_len a n) + sum_by (λ p. count_by (is_end_at p) (records.events (moments_in back))) (range_with_len a n)
      sums zero a h = refl
      sums (suc n) a h = omega (
        arith,
        sum_by-cons high a (range_with_len (a + 1) n),
        sum_by-cons low a (range_with_len (a + 1) n),
        sum_by-cons (λ p. count_by (is_end_at p) (records.events (moments_in back))) a (range_with_len (a + 1) n),
        h a,
        sums n (a + 1) h,
      )

-- ---- what each line of a run or a finish tells, by items

pub record RunTold (before : List Item) (n : ℕ) : Type 0 where
  alone : Bool
  pre : List Item
  config : Configuration
  looks : List Found
  scans : List ScanSeen
  parts : before ≡ pre ++ silent_items (map look_entry looks ++ all_entries scans)
  at_ports : ports_of looks ≡ all_ports config
  are_scans : AllByRecursion (IsScanIn alone config) scans
  ended_is : n ≡ ended_since (ended_in looks) scans

-- a line of a run or a finish
abbrev pub is_number_line : HistoryLine → Bool
is_number_line (to.Run k n) = true
is_number_line (to.Finish n k) = true
is_number_line _ = false

abbrev pub IsNumberTold : List Item → Item → Type 0
IsNumberTold before (said (to.Run k n)) = RunTold before n
IsNumberTold before (said (to.Finish n k)) = WereLookedAt before k
IsNumberTold before _ = ⊤

pub none_aside : (l : HistoryLine) → is_aside l ≡ false → is_number_line l ≡ false
none_aside (to.Run k n) h = absurd (both_ways true h refl)
none_aside (to.Finish n k) h = absurd (both_ways true h refl)
none_aside _ h = refl

abbrev pub line_test : Item → Bool
line_test x = option_map_or is_number_line (line_in x) false

none_here : (before : List Item) (x : Item) → line_test x ≡ false → IsNumberTold before x
none_here before (said (to.Run k n)) h = absurd (both_ways true h refl)
none_here before (said (to.Finish n k)) h = absurd (both_ways true h refl)
none_here before _ h = tt

pub first_line : (x : Item) (u : List Item) → any_line is_number_line (x ∷ u) ≡ (line_test x || any_line is_number_line u)
first_line (silent y) u = refl
first_line (told y l) u = refl
first_line (said l) u = refl

all_none : (before u : List Item) → any_line is_number_line u ≡ false → EachAfter IsNumberTold before u
all_none before [] h = tt
all_none before (x ∷ u) h =
    let w = or_parts (line_test x) (any_line is_number_line u) (sym (first_line x u) ∙ h) in (none_here before x w.0, all_none (before ++ x ∷ []) u w.1)

looked_since : (alone : Bool) (before : List Item) (scans : List ScanSeen) → AllByRecursion (IsScanIn alone (config_at before)) scans
    → WereLookedAt (before ++ silent_items (all_entries scans)) (rounds_in scans)
looked_since alone before scans are =
    let es = all_entries scans in
    record {
      front = before;
      since = silent_items es;
      parts = refl;
      no_line = silent_lines es;
      enough = λ p live.
          let often = looked_scans p alone (config_at before) (sym (ap (λ c. is_live_port c p) (scans_config before scans)) ∙ live) scans are in
          omega (arith, few_rounds scans, often, ap (count_by (looks_at p)) (silent_entries es));
    }

pub tried_none : (before : List Item) (name : List ℕ) (args : List ℤ) (new : Graph) (within : ℕ) (moves : List Move) (u : List Item) → AreChangeItems before name args new within moves u → any_line is_number_line u ≡ false
tried_none before name args new within moves u x =
    let opened = opening_items name args x.closed x.how in
    let left = left_after x.how.first x.how.rounds in
    let rest : any_line is_number_line x.rest ≡ false =
    ⊎_elim
    (λ (y : AreCommitItems (before ++ opened) x.old new x.plan left x.rest).
    ap (any_line is_number_line) y.are ∙ none_both is_number_line (flat_map deed_items y.deeds) (said to.Commit ∷ []) (none_deeds is_number_line none_aside y.deeds) refl)
    (λ (y : (length x.how.rounds ≡ within) × AreAbandonItems x.closed within left x.rest).
    ap (any_line is_number_line) y.1.are
    ∙ none_both is_number_line (pending_items within left ++ flat_map deed_items y.1.deeds) (said to.Abandon ∷ [])
    (none_both is_number_line (pending_items within left) (flat_map deed_items y.1.deeds) (none_roots is_number_line (λ p k. refl) left) (none_deeds is_number_line none_aside y.1.deeds)) refl)
    x.ends in
    ap (any_line is_number_line) x.are ∙ none_both is_number_line opened x.rest (none_passivation is_number_line none_aside x.closed x.how) rest

piece_told : (alone : Bool) (before : List Item) (s : Statement) (u : List Item) → IsDone alone before s u → EachAfter IsNumberTold before u
piece_told alone before (start name args g) u d =
    subst (EachAfter IsNumberTold before) (sym d.are) (all_none before (said (to.Start name args) ∷ flat_map deed_items d.deeds ++ said to.Commit ∷ [])
    (none_both is_number_line (said (to.Start name args) ∷ flat_map deed_items d.deeds) (said to.Commit ∷ []) (none_deeds is_number_line none_aside d.deeds) refl))
piece_told alone before (change name args g within moves) u d = ⊎_elim
    (λ (skipped : list_any is_pending (lines before) ≡ true). subst (EachAfter IsNumberTold before) (sym (d.0 skipped)) (tt, (tt, tt)))
    (λ (tried : list_any is_pending (lines before) ≡ false). all_none before u (tried_none before name args g within moves u (d.1 tried)))
    (cases_Bool (list_any is_pending (lines before)))
piece_told alone before (run k) u d =
    let es = map look_entry d.looks ++ all_entries d.scans in
    subst (EachAfter IsNumberTold before) (sym d.are)
    (each_joined IsNumberTold before (silent_items es) (said (to.Run k d.ended) ∷ []) (all_none before (silent_items es) (none_silent is_number_line es))
    (record { alone = alone; pre = before; config = config_at before; looks = d.looks; scans = d.scans; parts = refl; at_ports = d.at_ports; are_scans = d.are_scans; ended_is = d.ended_is }, tt))
piece_told alone before (finish n) u d =
    let es = all_entries d.scans in
    subst (EachAfter IsNumberTold before) (sym d.are)
    (each_joined IsNumberTold before (silent_items es) (said (to.Finish n (rounds_in d.scans)) ∷ []) (all_none before (silent_items es) (none_silent is_number_line es))
    (looked_since alone before d.scans d.are_scans, tt))
piece_told alone before show u d = subst (EachAfter IsNumberTold before) (sym d.are) (tt, tt)

pieces_told : (alone : Bool) (before ps : List Piece) → EachAfter (λ qs (p : Piece). IsDone alone (items_of qs) p.statement p.items) before ps → EachAfter IsNumberTold (items_of before) (items_of ps)
pieces_told alone before [] each = tt
pieces_told alone before (p ∷ ps) each =
    each_joined IsNumberTold (items_of before) p.items (items_of ps) (piece_told alone (items_of before) p.statement p.items each.0)
    (subst (λ v. EachAfter IsNumberTold v (items_of ps)) (items_pushed before p) (pieces_told alone (before ++ p ∷ []) ps each.1))

pub transcript_told : (alone : Bool) (statements : List Statement) (t : List Item) → IsTranscript alone statements t → Each IsNumberTold t
transcript_told alone statements t x =
    let stopping = stop_items x.stops.closed x.stops.how in
    let none : any_line is_number_line x.stop ≡ false =
    ap (any_line is_number_line) x.stops.are ∙ none_both is_number_line stopping (map sight_item x.stops.sights) (none_passivation is_number_line none_aside x.stops.closed x.stops.how)
    (ap (list_any is_number_line) (sight_lines x.stops.sights)) in
    subst (Each IsNumberTold) x.are (each_joined IsNumberTold [] (items_of x.pieces) x.stop (pieces_told alone [] x.pieces x.done) (all_none (items_of x.pieces) x.stop none))

-- ---- the members

no_number_event : (e : Event) (l : HistoryLine) → line_of e ≡ Some l → is_number_line l ≡ false
no_number_event (event.Make n node from) l h = sym (ap is_number_line (same_Some (to.Make n node from) l h))
no_number_event (event.Link p n y) l h = sym (ap is_number_line (same_Some (to.Link p n y) l h))
no_number_event (event.Unlink p) l h = sym (ap is_number_line (same_Some (to.Unlink p) l h))
no_number_event (event.Remove n) l h = sym (ap is_number_line (same_Some (to.Remove n) l h))
no_number_event (event.Close p) l h = sym (ap is_number_line (same_Some (to.Close p) l h))
no_number_event (event.Reopen p) l h = sym (ap is_number_line (same_Some (to.Reopen p) l h))
no_number_event _ l h = absurd (none-some l h)

no_number_look : (p w : ℕ) (l : HistoryLine) (b : Bool) → cond b (Some (to.Drained p (serial_of w))) None ≡ Some l → is_number_line l ≡ false
no_number_look p w l true h = sym (ap is_number_line (same_Some (to.Drained p (serial_of w)) l h))
no_number_look p w l false h = absurd (none-some l h)

pub no_number_entry : (y : Entry) (l : HistoryLine) → tells y ≡ Some l → is_number_line l ≡ false
no_number_entry (Did e) l h = no_number_event e l h
no_number_entry (Looked p w) l h = no_number_look p w l (is_drained_word w) h
no_number_entry (Sighted n es) l h = absurd (none-some l h)
no_number_entry (Scanned b v) l h = absurd (none-some l h)

no_number_member : (before : List Member) (l : HistoryLine) → is_number_line l ≡ false → IsEndedAt before (of_history l)
no_number_member before (to.Run k n) h = absurd (both_ways true h refl)
no_number_member before _ h = tt

run_at : (before : List Joint) (j : Joint) (n : ℕ) → IsKnown before j → RunTold (items_in before) n → EndedSince (members_in before) n
run_at before j n k x =
    let es = map look_entry x.looks ++ all_entries x.scans in
    let w = split_items before x.pre (silent_items es) x.parts in
    let so = subst (λ b. Each IsSo (moments_in b)) w.parts k.is_of.so in
    let runs_ = subst (λ b. IsRun (records.events (moments_in b))) w.parts k.is_of.runs in
    let fair = fair_back (items_in w.front) (items_in w.back) (subst AreFair (ap items_in w.parts ∙ filter_map-append item_of w.front w.back) k.fair) in
    subst (λ b. EndedSince (members_in b) n) (sym w.parts)
    (subst (EndedSince (members_in (w.front ++ w.back))) (sym x.ended_is)
    (ended_between w.front w.back es w.back_items so runs_ fair x.alone x.looks x.scans x.config refl x.at_ports x.are_scans))

line_at : (before : List Joint) (j : Joint) (l : HistoryLine) → IsKnown before j → IsNumberTold (items_in before) (said l) → IsEndedAt (members_in before) (of_history l)
line_at before j (to.Run k n) known_ h = run_at before j n known_ h
line_at before j _ known_ h = tt

member_at : (before : List Joint) (j : Joint) (x : Member) → member_of j ≡ Some x → Lifted item_of IsNumberTold before j × IsKnown before j → IsEndedAt (members_in before) x
member_at before (of_node e) x h k = subst (IsEndedAt (members_in before)) (same_Some (by_node e) x h) tt
member_at before (of_line l) x h k = subst (IsEndedAt (members_in before)) (sym (line_there l x h)) (line_at before (of_line l) l k.1 (k.0 (said l) refl))
member_at before (of_entry y None) x h k = absurd (none-some x h)
member_at before (of_entry y (Some l)) x h k =
    subst (IsEndedAt (members_in before)) (sym (line_there l x h)) (no_number_member (members_in before) l (no_number_entry y l k.1.fair_here.0.1))

pub runs_ended : (alone : Bool) (statements : List Statement) (t : List Item) (m : List Moment) (ms : List Member) → IsTranscript alone statements t → AreJoined t m ms → IsRecordOf (entries t) m → Each IsEndedAt ms
runs_ended alone statements t m ms x j is_of =
    let js = j.joint in
    let told_ = lifted item_of IsNumberTold [] js (subst (Each IsNumberTold) (sym j.items_are) (transcript_told alone statements t x)) in
    subst (Each IsEndedAt) j.members_are
    (each_carried member_of (λ before y. Lifted item_of IsNumberTold before y × IsKnown before y) IsEndedAt (λ before y z e k. member_at before y z e k) [] js
    (each_both (Lifted item_of IsNumberTold) IsKnown [] js told_ (all_known t m ms (fair_transcript alone statements t x) j is_of)))
