-- At each commit the graph is that of the description, and at each show the one that is shown.
use Rattle.std.proofs.Common.{◌≡◌, ◌∙◌, ℕ, ◌+◌, ◌-◌, Bool, true, false, not, cond, List, [], ◌∷◌, ◌++◌, append_assoc, length, length-append, map, Option, Some, None, refl, sym, ap, subst, ⊎_elim, arith}
use Rattle.std.specs.Prelude.{⊤, ℤ, ◌||◌, filter_map, flat_map, slice_get}
use Rattle.std.specs.List.{cons_option, count_by, list_any}
use Rattle.std.specs.Option.{option_map_or}
use Rattle.std.proofs.lemmas.Bool.{both_ways, cases_Bool, or_parts}
use Rattle.std.proofs.lemmas.List.{map-append}
use Rattle.std.proofs.lemmas.List.Elements.{filter_map-append}
use Rattle.std.proofs.lemmas.List.Folds.{list_any-append}
use Rattle.std.proofs.lemmas.List.Sums.{sum_by-cons}
use Rattle.std.proofs.lemmas.Option.{none-some, same_Some}
use Rattle.base.specs.Each.{Each, EachAfter}
use Rattle.base.proofs.EachLaws.{each_carried, each_joined}
use Rattle.base.proofs.MapLaws.{count_by-append}
use Rattle.base.proofs.PlaceLaws.{slice_get-behind}
use Rattle.change_plan.specs.declared.plan_data.Move.{Move}
use Rattle.config_graph.specs.Graph.{Graph}
use Rattle.quiesce_core.specs.Live.{IsGraphOf}
use Rattle.quiesce_core.specs.Runs.{state_after}
use Rattle.quiesce_core.specs.declared.event.Event.{Event}
use Rattle.quiesce_core.specs.declared.event.Event.TheVariants as event
use Rattle.report_types.specs.declared.report.HistoryLine.{HistoryLine}
use Rattle.report_types.specs.declared.report.HistoryLine.TheVariants as to
use Rattle.change_spec.specs.Changes.{drained_lines, seen_in_all}
use Rattle.change_spec.specs.Lawful.{IsGraphAt, described, is_head}
use Rattle.change_spec.specs.Members as members
use Rattle.change_spec.specs.Members.{Member, by_node, of_history, is_pending, is_root, line_of, lines_of_events, without_roots}
use Rattle.change_spec.specs.Scene.{drained_line}
use Rattle.change_spec.specs.Statements.{Statement, start, change, run, finish, show, graph_of}
use Rattle.txn_records.specs.declared.entry.Entry.{Entry}
use Rattle.txn_records.specs.declared.entry.Entry.TheVariants.{Did, Looked, Sighted, Scanned}
use Rattle.txn_records.specs.Looks.{is_drained_word, serial_of}
use Rattle.txn_records.specs.Records.{IsRecordOf, Moment}
use Rattle.change_board.specs.Sights.{Sight}
use Rattle.change_board.specs.Steps.{Deed, events_of}
use Rattle.change_board.specs.Transcripts.{Item, silent, told, said, entries, lines, tells}
use Rattle.txn_records.proofs.RecordLaws.{config_is}
use Rattle.change_engine.specs.Carrying.{deed_items, sight_item}
use Rattle.change_engine.specs.Finishing.{all_entries, rounds_in}
use Rattle.change_board.specs.Scans.{Found, look_entry, scan_entries}
use Rattle.change_engine.specs.Passivating.{Passivation, WaitingRound, close_item, left_after, look_item, passivation_items, round_items, silent_items}
use Rattle.change_engine.specs.declared.passivating.LeftRoot.{LeftRoot}
use Rattle.change_transcript_laws.specs.Joining.{AreJoined, Joint, of_node, of_line, of_entry, item_of, items_in, member_of, members_in, moments_in}
use Rattle.change_engine.specs.Draining.{pending_items, root_item}
use Rattle.change_transcript_laws.specs.Pieces.{AreCommitItems, IsDone, AreAbandonItems, AreStartItems, IsTranscript, AreChangeItems, Piece, config_at, items_of, opening_items, IsDonePiece}
use Rattle.change_transcript_laws.proofs.FollowLaws.{fair_transcript, items_pushed}
use Rattle.change_transcript_laws.proofs.JoiningLemmas.{IsKnown, Lifted, each_both, lifted, member_events, member_lines}
use Rattle.change_transcript_laws.proofs.LawfulLaws.{all_known, line_there}
use Rattle.change_engine.proofs.ItemLaws.{lines_both, silent_lines, carried_lines}
use Rattle.change_engine.proofs.PassivationLaws.{looks_of, passivation_lines}
use Rattle.change_transcript_laws.proofs.ConfigLaws.{said_config}
use Rattle.change_engine.specs.Stopping.{stop_items}

-- ---- how many statements with a graph begin

abbrev heads_in : List Item → ℕ
heads_in t = count_by is_head (lines t)

heads_both : (t u : List Item) → heads_in (t ++ u) ≡ heads_in t + heads_in u
heads_both t u = ap (count_by is_head) (lines_both t u) ∙ count_by-append is_head (lines t) (lines u)

counted : (l : HistoryLine) (ls : List HistoryLine) → count_by is_head (l ∷ ls) ≡ cond (is_head l) 1 0 + count_by is_head ls
counted l ls = sum_by-cons (λ k. cond (is_head k) 1 0) l ls

no_heads : {A : Type 0} (f : A → HistoryLine) → ((x : A) → is_head (f x) ≡ false) → (xs : List A) → count_by is_head (map f xs) ≡ 0
no_heads f h [] = refl
no_heads f h (x ∷ xs) = let here = ap {B = ℕ} (λ b. cond b 1 0) (h x) in omega (arith, counted (f x) (map f xs), here, no_heads f h xs)

no_head : (e : Event) (ls : List HistoryLine) → count_by is_head (cons_option (line_of e) ls) ≡ count_by is_head ls
no_head (event.Make n node from) ls = omega (arith, counted (to.Make n node from) ls)
no_head (event.Link p n x) ls = omega (arith, counted (to.Link p n x) ls)
no_head (event.Unlink p) ls = omega (arith, counted (to.Unlink p) ls)
no_head (event.Remove n) ls = omega (arith, counted (to.Remove n) ls)
no_head (event.Close p) ls = omega (arith, counted (to.Close p) ls)
no_head (event.Reopen p) ls = omega (arith, counted (to.Reopen p) ls)
no_head _ ls = refl

no_heads_of_events : (es : List Event) → count_by is_head (lines_of_events es) ≡ 0
no_heads_of_events [] = refl
no_heads_of_events (e ∷ es) = no_head e (lines_of_events es) ∙ no_heads_of_events es

no_heads_of_deeds : (deeds : List Deed) → heads_in (flat_map deed_items deeds) ≡ 0
no_heads_of_deeds deeds = ap (count_by is_head) (carried_lines deeds) ∙ no_heads_of_events (events_of deeds)

no_heads_of_passivation : (ports : List ℕ) (how : Passivation) → heads_in (passivation_items ports how) ≡ 0
no_heads_of_passivation ports how = omega (
  arith,
  ap (count_by is_head) (passivation_lines ports how),
  count_by-append is_head (map to.Close ports) (drained_lines (looks_of how)),
  no_heads to.Close (λ p. refl) ports,
  no_heads drained_line (λ d. refl) (seen_in_all (looks_of how)),
)

no_heads_of_roots : (xs : List LeftRoot) → heads_in (map root_item xs) ≡ 0
no_heads_of_roots [] = refl
no_heads_of_roots (x ∷ xs) = omega (arith, counted (to.Root x.port x.serial) (lines (map root_item xs)), no_heads_of_roots xs)

one_line : (l : HistoryLine) (t : List Item) → heads_in (said l ∷ t) ≡ cond (is_head l) 1 0 + heads_in t
one_line l t = counted l (lines t)

-- a statement with a graph has one line that begins it, another none
abbrev begins : Statement → ℕ
begins s = length (cons_option (graph_of s) [])

heads_of_quiet : (es : List Entry) (l : HistoryLine) → is_head l ≡ false → heads_in (silent_items es ++ said l ∷ []) ≡ 0
heads_of_quiet es l h =
    let here = ap {B = ℕ} (λ b. cond b 1 0) h in
    omega (arith, heads_both (silent_items es) (said l ∷ []), ap (count_by is_head) (silent_lines es), one_line l [], here)

start_heads : (before : List Item) (name : List ℕ) (args : List ℤ) (g : Graph) (t : List Item) → AreStartItems before name args g t → heads_in t ≡ 1
start_heads before name args g t x =
    let did = flat_map deed_items x.deeds in
    omega (
      arith,
      ap heads_in x.are,
      heads_both (said (to.Start name args) ∷ did) (said to.Commit ∷ []),
      one_line (to.Start name args) did,
      one_line to.Commit [],
      no_heads_of_deeds x.deeds,
    )

opening_heads : (name : List ℕ) (args : List ℤ) (closed : List ℕ) (how : Passivation) → heads_in (opening_items name args closed how) ≡ 1
opening_heads name args closed how = omega (arith, one_line (to.Change name args) (passivation_items closed how), no_heads_of_passivation closed how)

rest_heads : (before : List Item) (name : List ℕ) (args : List ℤ) (new : Graph) (within : ℕ) (moves : List Move) (t : List Item) (x : AreChangeItems before name args new within moves t) → heads_in x.rest ≡ 0
rest_heads before name args new within moves t x = ⊎_elim
    (λ (y : AreCommitItems (before ++ opening_items name args x.closed x.how) x.old new x.plan (left_after x.how.first x.how.rounds) x.rest).
    omega (arith, ap heads_in y.are, heads_both (flat_map deed_items y.deeds) (said to.Commit ∷ []), no_heads_of_deeds y.deeds, one_line to.Commit []))
    (λ (y : (length x.how.rounds ≡ within) × AreAbandonItems x.closed within (left_after x.how.first x.how.rounds) x.rest).
    given_up y.1)
    x.ends
  where
    given_up : AreAbandonItems x.closed within (left_after x.how.first x.how.rounds) x.rest → heads_in x.rest ≡ 0
    given_up y =
        let did = flat_map deed_items y.deeds in
        let left = left_after x.how.first x.how.rounds in
        omega (
          arith,
          ap heads_in y.are,
          heads_both (pending_items within left ++ did) (said to.Abandon ∷ []),
          heads_both (pending_items within left) did,
          one_line (to.Pending within) (map root_item left),
          no_heads_of_roots left,
          no_heads_of_deeds y.deeds,
          one_line to.Abandon [],
        )

piece_heads : (alone : Bool) (before : List Item) (s : Statement) (t : List Item) → IsDone alone before s t → heads_in t ≡ begins s
piece_heads alone before (start name args g) t d = start_heads before name args g t d
piece_heads alone before (change name args g within moves) t d = ⊎_elim
    (λ (skipped : list_any is_pending (lines before) ≡ true).
    omega (arith, ap heads_in (d.0 skipped), one_line (to.Change name args) (said to.Skipped ∷ []), one_line to.Skipped []))
    (λ (tried : list_any is_pending (lines before) ≡ false).
    let x = d.1 tried in
    omega (
      arith,
      ap heads_in x.are,
      heads_both (opening_items name args x.closed x.how) x.rest,
      opening_heads name args x.closed x.how,
      rest_heads before name args g within moves t x,
    ))
    (cases_Bool (list_any is_pending (lines before)))
piece_heads alone before (run k) t d = ap heads_in d.are ∙ heads_of_quiet (map look_entry d.looks ++ all_entries d.scans) (to.Run k d.ended) refl
piece_heads alone before (finish n) t d = ap heads_in d.are ∙ heads_of_quiet (all_entries d.scans) (to.Finish n (rounds_in d.scans)) refl
piece_heads alone before show t d = ap heads_in d.are ∙ one_line (to.Show d.graph) []

-- ---- lines that tell of a graph

abbrev is_graph_item : Item → Bool
is_graph_item (said to.Commit) = true
is_graph_item (said (to.Show g)) = true
is_graph_item _ = false

-- a graph that is told, by items
pub record IsDescribedAt (statements : List Statement) (before : List Item) : Type 0 where
  pub graph : Graph
  pub described_so : described statements (lines before) ≡ Some graph
  pub stands : IsGraphOf (config_at before) graph

abbrev pub IsGraphTold : List Statement → List Item → Item → Type 0
IsGraphTold statements before (said to.Commit) = IsDescribedAt statements before
IsGraphTold statements before (said (to.Show g)) = IsGraphOf (config_at before) g
IsGraphTold statements before _ = ⊤

none_told : (statements : List Statement) (before : List Item) (x : Item) → is_graph_item x ≡ false → IsGraphTold statements before x
none_told statements before (said to.Commit) h = absurd (both_ways true h refl)
none_told statements before (said (to.Show g)) h = absurd (both_ways true h refl)
none_told statements before _ h = tt

all_none : (statements : List Statement) (before t : List Item) → list_any is_graph_item t ≡ false → EachAfter (IsGraphTold statements) before t
all_none statements before [] h = tt
all_none statements before (x ∷ t) h =
    let w = or_parts (is_graph_item x) (list_any is_graph_item t) h in (none_told statements before x w.0, all_none statements (before ++ x ∷ []) t w.1)

none_both : (t u : List Item) → list_any is_graph_item t ≡ false → list_any is_graph_item u ≡ false → list_any is_graph_item (t ++ u) ≡ false
none_both t u h k = list_any-append is_graph_item t u ∙ ap (λ b. b || list_any is_graph_item u) h ∙ k

none_silent : (es : List Entry) → list_any is_graph_item (silent_items es) ≡ false
none_silent [] = refl
none_silent (e ∷ es) = none_silent es

none_sights : (ss : List Sight) → list_any is_graph_item (map sight_item ss) ≡ false
none_sights [] = refl
none_sights (s ∷ ss) = none_sights ss

none_event : (e : Event) (o : Option HistoryLine) → is_graph_item (option_map_or (told (Did e)) o (silent (Did e))) ≡ false
none_event e None = refl
none_event e (Some l) = refl

none_deeds : (deeds : List Deed) → list_any is_graph_item (flat_map deed_items deeds) ≡ false
none_deeds [] = refl
none_deeds (d ∷ deeds) =
    none_both (deed_items d) (flat_map deed_items deeds) (ap (λ b. b || list_any is_graph_item (map sight_item d.sights)) (none_event d.event (line_of d.event)) ∙ none_sights d.sights)
    (none_deeds deeds)

none_look : (p w : ℕ) (b : Bool) → is_graph_item (cond b (told (Looked p w) (to.Drained p (serial_of w))) (silent (Looked p w))) ≡ false
none_look p w true = refl
none_look p w false = refl

none_looks : (found : List Found) → list_any is_graph_item (map look_item found) ≡ false
none_looks [] = refl
none_looks (f ∷ found) = ap (λ b. b || list_any is_graph_item (map look_item found)) (none_look f.port f.word (is_drained_word f.word)) ∙ none_looks found

none_closes : (ps : List ℕ) → list_any is_graph_item (map close_item ps) ≡ false
none_closes [] = refl
none_closes (p ∷ ps) = none_closes ps

none_rounds : (rounds : List WaitingRound) → list_any is_graph_item (flat_map round_items rounds) ≡ false
none_rounds [] = refl
none_rounds (w ∷ rounds) =
    none_both (round_items w) (flat_map round_items rounds)
    (none_both (silent_items (scan_entries false w.moved w.sights w.scan)) (map look_item w.found) (none_silent (scan_entries false w.moved w.sights w.scan)) (none_looks w.found))
    (none_rounds rounds)

none_passivation : (ports : List ℕ) (how : Passivation) → list_any is_graph_item (passivation_items ports how) ≡ false
none_passivation ports how =
    none_both (map close_item ports ++ map look_item how.first) (flat_map round_items how.rounds)
    (none_both (map close_item ports) (map look_item how.first) (none_closes ports) (none_looks how.first)) (none_rounds how.rounds)

none_roots : (xs : List LeftRoot) → list_any is_graph_item (map root_item xs) ≡ false
none_roots [] = refl
none_roots (x ∷ xs) = none_roots xs

-- ---- each statement

-- a line behind items that tell of no graph
last_told : (statements : List Statement) (before front : List Item) (x : Item) → list_any is_graph_item front ≡ false → IsGraphTold statements (before ++ front) x
    → EachAfter (IsGraphTold statements) before (front ++ x ∷ [])
last_told statements before front x none here = each_joined (IsGraphTold statements) before front (x ∷ []) (all_none statements before front none) (here, tt)

module _ (statements : List Statement) (before : List Item) (g : Graph) (there : slice_get (filter_map graph_of statements) (heads_in before) ≡ Some g) where
  -- behind the line that begins a statement the graph that is described is its own
  described_here : (front : List Item) → heads_in front ≡ 1 → described statements (lines (before ++ front)) ≡ Some g
  described_here front one =
      let k : heads_in (before ++ front) - 1 ≡ heads_in before = omega (arith, heads_both before front, one) in
      ap (slice_get (filter_map graph_of statements)) k ∙ there

  told_at : (front : List Item) → heads_in front ≡ 1 → IsGraphOf (config_at (before ++ (front ++ said to.Commit ∷ []))) g → IsDescribedAt statements (before ++ front)
  told_at front one stands = record {
    graph = g;
    described_so = described_here front one;
    stands = subst (λ c. IsGraphOf c g) (ap config_at (sym (append_assoc before front (said to.Commit ∷ []))) ∙ said_config (before ++ front) to.Commit) stands;
  }

  start_told : (name : List ℕ) (args : List ℤ) (t : List Item) → AreStartItems before name args g t → EachAfter (IsGraphTold statements) before t
  start_told name args t x =
      let front = said (to.Start name args) ∷ flat_map deed_items x.deeds in
      subst (EachAfter (IsGraphTold statements) before) (sym x.are)
      (last_told statements before front (said to.Commit) (none_deeds x.deeds)
      (told_at front (omega (arith, one_line (to.Start name args) (flat_map deed_items x.deeds), no_heads_of_deeds x.deeds)) (subst (λ u. IsGraphOf (config_at (before ++ u)) g) x.are x.stands)))

  change_told : (name : List ℕ) (args : List ℤ) (within : ℕ) (moves : List Move) (t : List Item) → AreChangeItems before name args g within moves t → EachAfter (IsGraphTold statements) before t
  change_told name args within moves t x = ⊎_elim
      (λ (y : AreCommitItems (before ++ opened) x.old g x.plan left x.rest). committed y)
      (λ (y : (length x.how.rounds ≡ within) × AreAbandonItems x.closed within left x.rest). given_up y.1)
      x.ends
    where
      opened : List Item
      opened = opening_items name args x.closed x.how

      left : List LeftRoot
      left = left_after x.how.first x.how.rounds

      committed : AreCommitItems (before ++ opened) x.old g x.plan left x.rest → EachAfter (IsGraphTold statements) before t
      committed y =
          let did = flat_map deed_items y.deeds in
          let front = opened ++ did in
          let whole : t ≡ front ++ said to.Commit ∷ [] = x.are ∙ ap (λ u. opened ++ u) y.are ∙ sym (append_assoc opened did (said to.Commit ∷ [])) in
          let here : config_at ((before ++ opened) ++ x.rest) ≡ config_at (before ++ (front ++ said to.Commit ∷ [])) =
          ap config_at (append_assoc before opened x.rest ∙ ap (λ u. before ++ u) (sym x.are ∙ whole)) in
          subst (EachAfter (IsGraphTold statements) before) (sym whole)
          (last_told statements before front (said to.Commit) (none_both opened did (none_passivation x.closed x.how) (none_deeds y.deeds))
          (told_at front (omega (arith, heads_both opened did, opening_heads name args x.closed x.how, no_heads_of_deeds y.deeds)) (subst (λ c. IsGraphOf c g) here y.stands)))

      given_up : AreAbandonItems x.closed within left x.rest → EachAfter (IsGraphTold statements) before t
      given_up y =
          let did = flat_map deed_items y.deeds in
          let none = none_both (pending_items within left ++ did) (said to.Abandon ∷ []) (none_both (pending_items within left) did (none_roots left) (none_deeds y.deeds)) refl in
          subst (EachAfter (IsGraphTold statements) before) (sym (x.are ∙ ap (λ u. opened ++ u) y.are))
          (all_none statements before (opened ++ (pending_items within left ++ did ++ said to.Abandon ∷ [])) (none_both opened (pending_items within left ++ did ++ said to.Abandon ∷ []) (none_passivation x.closed x.how) none))

quiet_told : (statements : List Statement) (before : List Item) (es : List Entry) (l : HistoryLine) → is_graph_item (said l) ≡ false
    → EachAfter (IsGraphTold statements) before (silent_items es ++ said l ∷ [])
quiet_told statements before es l h = last_told statements before (silent_items es) (said l) (none_silent es) (none_told statements (before ++ silent_items es) (said l) h)

-- the graph of a statement stands among those of all, behind those before it
abbrev IsPlaced : List Statement → List Item → Statement → Type 0
IsPlaced statements before s = (g : Graph) → graph_of s ≡ Some g → slice_get (filter_map graph_of statements) (heads_in before) ≡ Some g

piece_told : (alone : Bool) (statements : List Statement) (before : List Item) (s : Statement) (t : List Item) → IsPlaced statements before s → IsDone alone before s t
    → EachAfter (IsGraphTold statements) before t
piece_told alone statements before (start name args g) t placed d = start_told statements before g (placed g refl) name args t d
piece_told alone statements before (change name args g within moves) t placed d = ⊎_elim
    (λ (skipped : list_any is_pending (lines before) ≡ true). subst (EachAfter (IsGraphTold statements) before) (sym (d.0 skipped)) (tt, (tt, tt)))
    (λ (tried : list_any is_pending (lines before) ≡ false). change_told statements before g (placed g refl) name args within moves t (d.1 tried))
    (cases_Bool (list_any is_pending (lines before)))
piece_told alone statements before (run k) t placed d =
    subst (EachAfter (IsGraphTold statements) before) (sym d.are) (quiet_told statements before (map look_entry d.looks ++ all_entries d.scans) (to.Run k d.ended) refl)
piece_told alone statements before (finish n) t placed d =
    subst (EachAfter (IsGraphTold statements) before) (sym d.are) (quiet_told statements before (all_entries d.scans) (to.Finish n (rounds_in d.scans)) refl)
piece_told alone statements before show t placed d = subst (EachAfter (IsGraphTold statements) before) (sym d.are) (d.stands, tt)

-- ---- all statements

abbrev statements_in : List Piece → List Statement
statements_in ps = map (λ (p : Piece). p.statement) ps

module _ (alone : Bool) where
  -- as many begin as there are statements with a graph
  heads_next : (before : List Piece) (p : Piece) → heads_in (items_of before) ≡ length (filter_map graph_of (statements_in before)) → IsDonePiece alone before p
      → heads_in (items_of (before ++ p ∷ [])) ≡ length (filter_map graph_of (statements_in (before ++ p ∷ [])))
  heads_next before p h d = omega (
    arith,
    ap heads_in (items_pushed before p),
    heads_both (items_of before) p.items,
    piece_heads alone (items_of before) p.statement p.items d,
    h,
    ap (λ ss. length (filter_map graph_of ss)) (map-append (λ (q : Piece). q.statement) before (p ∷ [])),
    ap length (filter_map-append graph_of (statements_in before) (p.statement ∷ [])),
    length-append (filter_map graph_of (statements_in before)) (cons_option (graph_of p.statement) []),
  )

  placed_at : (before ps : List Piece) (p : Piece) → heads_in (items_of before) ≡ length (filter_map graph_of (statements_in before))
      → IsPlaced (statements_in (before ++ p ∷ ps)) (items_of before) p.statement
  placed_at before ps p h g is =
      let all : filter_map graph_of (statements_in (before ++ p ∷ ps)) ≡ filter_map graph_of (statements_in before) ++ cons_option (graph_of p.statement) (filter_map graph_of (statements_in ps)) =
      ap (filter_map graph_of) (map-append (λ (q : Piece). q.statement) before (p ∷ ps)) ∙ filter_map-append graph_of (statements_in before) (statements_in (p ∷ ps)) in
      let first : slice_get (cons_option (graph_of p.statement) (filter_map graph_of (statements_in ps))) 0 ≡ Some g =
      ap (λ o. slice_get (cons_option o (filter_map graph_of (statements_in ps))) 0) is in
      let at : heads_in (items_of before) ≡ length (filter_map graph_of (statements_in before)) + 0 = omega (arith, h) in
      ap (λ xs. slice_get xs (heads_in (items_of before))) all
      ∙ ap (slice_get (filter_map graph_of (statements_in before) ++ cons_option (graph_of p.statement) (filter_map graph_of (statements_in ps)))) at
      ∙ slice_get-behind (filter_map graph_of (statements_in before)) (cons_option (graph_of p.statement) (filter_map graph_of (statements_in ps))) 0 g first

  pieces_told : (statements : List Statement) (before ps : List Piece) → statements_in (before ++ ps) ≡ statements
      → heads_in (items_of before) ≡ length (filter_map graph_of (statements_in before)) → EachAfter (IsDonePiece alone) before ps → EachAfter (IsGraphTold statements) (items_of before) (items_of ps)
  pieces_told statements before [] are h each = tt
  pieces_told statements before (p ∷ ps) are h each =
      let placed = subst (λ ss. IsPlaced ss (items_of before) p.statement) are (placed_at before ps p h) in
      let rest = pieces_told statements (before ++ p ∷ []) ps (ap statements_in (append_assoc before (p ∷ []) ps) ∙ are) (heads_next before p h each.0) each.1 in
      each_joined (IsGraphTold statements) (items_of before) p.items (items_of ps) (piece_told alone statements (items_of before) p.statement p.items placed each.0)
      (subst (λ t. EachAfter (IsGraphTold statements) t (items_of ps)) (items_pushed before p) rest)

pub transcript_told : (alone : Bool) (statements : List Statement) (t : List Item) → IsTranscript alone statements t → Each (IsGraphTold statements) t
transcript_told alone statements t x =
    subst (Each (IsGraphTold statements)) x.are
    (each_joined (IsGraphTold statements) [] (items_of x.pieces) x.stop (pieces_told alone statements [] x.pieces x.statements_are refl x.done)
    (subst (EachAfter (IsGraphTold statements) (items_of x.pieces)) (sym x.stops.are)
    (all_none statements (items_of x.pieces) (stop_items x.stops.closed x.stops.how ++ map sight_item x.stops.sights)
    (none_both (stop_items x.stops.closed x.stops.how) (map sight_item x.stops.sights) (none_passivation x.stops.closed x.stops.how) (none_sights x.stops.sights)))))

-- ---- the members

heads_kept : (l : HistoryLine) (kept ls : List HistoryLine) (b : Bool) → is_root l ≡ b → count_by is_head kept ≡ count_by is_head ls → count_by is_head (cond (not b) (l ∷ kept) kept) ≡ count_by is_head (l ∷ ls)
heads_kept l kept ls false h rest = omega (arith, counted l kept, counted l ls, rest)
heads_kept l kept ls true h rest = omega (arith, counted l ls, rest, by l h)
  where
    by : (l : HistoryLine) → is_root l ≡ true → ◌≡◌ {A = ℕ} (cond (is_head l) 1 0) 0
    by (to.Root p k) h = refl
    by _ h = absurd (both_ways false refl h)

heads_without_roots : (ls : List HistoryLine) → count_by is_head (without_roots ls) ≡ count_by is_head ls
heads_without_roots [] = refl
heads_without_roots (l ∷ ls) = heads_kept l (without_roots ls) ls (is_root l) refl (heads_without_roots ls)

abbrev is_graph_line : HistoryLine → Bool
is_graph_line to.Commit = true
is_graph_line (to.Show g) = true
is_graph_line _ = false

-- what an entry's line tells is no graph
no_graph_event : (e : Event) (l : HistoryLine) → line_of e ≡ Some l → is_graph_line l ≡ false
no_graph_event (event.Make n node from) l h = sym (ap is_graph_line (same_Some (to.Make n node from) l h))
no_graph_event (event.Link p n x) l h = sym (ap is_graph_line (same_Some (to.Link p n x) l h))
no_graph_event (event.Unlink p) l h = sym (ap is_graph_line (same_Some (to.Unlink p) l h))
no_graph_event (event.Remove n) l h = sym (ap is_graph_line (same_Some (to.Remove n) l h))
no_graph_event (event.Close p) l h = sym (ap is_graph_line (same_Some (to.Close p) l h))
no_graph_event (event.Reopen p) l h = sym (ap is_graph_line (same_Some (to.Reopen p) l h))
no_graph_event _ l h = absurd (none-some l h)

no_graph_look : (p w : ℕ) (l : HistoryLine) (b : Bool) → cond b (Some (to.Drained p (serial_of w))) None ≡ Some l → is_graph_line l ≡ false
no_graph_look p w l true h = sym (ap is_graph_line (same_Some (to.Drained p (serial_of w)) l h))
no_graph_look p w l false h = absurd (none-some l h)

no_graph_entry : (x : Entry) (l : HistoryLine) → tells x ≡ Some l → is_graph_line l ≡ false
no_graph_entry (Did e) l h = no_graph_event e l h
no_graph_entry (Looked p w) l h = no_graph_look p w l (is_drained_word w) h
no_graph_entry (Sighted n es) l h = absurd (none-some l h)
no_graph_entry (Scanned b m) l h = absurd (none-some l h)

no_graph_member : (statements : List Statement) (before : List Member) (l : HistoryLine) → is_graph_line l ≡ false → IsGraphAt statements before (of_history l)
no_graph_member statements before to.Commit h = absurd (both_ways true h refl)
no_graph_member statements before (to.Show g) h = absurd (both_ways true h refl)
no_graph_member statements before _ h = tt

module _ (statements : List Statement) where
  -- the same configuration, and as many heads, by items and by members
  same_config : (before : List Joint) (j : Joint) → IsKnown before j → config_at (items_in before) ≡ (members.state_at (members_in before)).config
  same_config before j k = config_is (entries (items_in before)) (moments_in before) k.is_of ∙ sym (ap (λ es. (state_after es).config) (member_events before k.fair))

  line_at : (before : List Joint) (j : Joint) (l : HistoryLine) → IsKnown before j → IsGraphTold statements (items_in before) (said l) → IsGraphAt statements (members_in before) (of_history l)
  line_at before j to.Commit k h = record {
    graph = h.graph;
    described_so = ap (λ n. slice_get (filter_map graph_of statements) (n - 1))
        (ap (count_by is_head) (member_lines before) ∙ heads_without_roots (lines (items_in before))) ∙ h.described_so;
    stands = subst (λ c. IsGraphOf c h.graph) (same_config before j k) h.stands;
  }
  line_at before j (to.Show g) k h = subst (λ c. IsGraphOf c g) (same_config before j k) h
  line_at before j _ k h = tt

  member_at : (before : List Joint) (j : Joint) (x : Member) → member_of j ≡ Some x → Lifted item_of (IsGraphTold statements) before j × IsKnown before j → IsGraphAt statements (members_in before) x
  member_at before (of_node e) x h k = subst (IsGraphAt statements (members_in before)) (same_Some (by_node e) x h) tt
  member_at before (of_line l) x h k = subst (IsGraphAt statements (members_in before)) (sym (line_there l x h)) (line_at before (of_line l) l k.1 (k.0 (said l) refl))
  member_at before (of_entry y None) x h k = absurd (none-some x h)
  member_at before (of_entry y (Some l)) x h k =
      subst (IsGraphAt statements (members_in before)) (sym (line_there l x h)) (no_graph_member statements (members_in before) l (no_graph_entry y l k.1.fair_here.0.1))

  pub graphs : (alone : Bool) (t : List Item) (m : List Moment) (ms : List Member) → IsTranscript alone statements t → AreJoined t m ms → IsRecordOf (entries t) m → Each (IsGraphAt statements) ms
  graphs alone t m ms x j is_of =
      let js = j.joint in
      let told_ = lifted item_of (IsGraphTold statements) [] js (subst (Each (IsGraphTold statements)) (sym j.items_are) (transcript_told alone statements t x)) in
      subst (Each (IsGraphAt statements)) j.members_are
      (each_carried member_of (λ before y. Lifted item_of (IsGraphTold statements) before y × IsKnown before y) (IsGraphAt statements) (λ before y z e k. member_at before y z e k) [] js
      (each_both (Lifted item_of (IsGraphTold statements)) IsKnown [] js told_ (all_known t m ms (fair_transcript alone statements t x) j is_of)))
