-- Each line on what was open tells of a root that stood open where it says.
use Rattle.std.proofs.Common.{◌≡◌, ◌∙◌, ℕ, ◌+◌, ◌≤◌, Bool, true, false, cond, List, [], ◌∷◌, ◌++◌, append_assoc, length, map, Option, Some, None, refl, sym, ap, subst, ⊎_elim, arith}
use Rattle.std.specs.Prelude.{⊤, ◌||◌, ◌==◌, ℤ, filter, filter_map, flat_map}
use Rattle.std.specs.List.{cons_option, count_by, list_all, list_any}
use Rattle.std.specs.Option.{option_map_or}
use Rattle.std.proofs.lemmas.Bool.{both_ways, cases_Bool, eq-eqb, eqb-true, not-true, or_left, or_parts, or_right}
use Rattle.std.proofs.lemmas.Grind.{flat_map-append}
use Rattle.std.proofs.lemmas.List.{append-nil, map-append}
use Rattle.std.proofs.lemmas.List.Folds.{list_any-append}
use Rattle.std.proofs.lemmas.List.Sums.{sum_by-cons}
use Rattle.std.proofs.lemmas.Option.{none-some, same_Some}
use Rattle.base.specs.Each.{Each, EachAfter}
use Rattle.base.proofs.EachLaws.{each_carried, each_joined, each_weaker}
use Rattle.base.proofs.MapLaws.{count_by-append}
use Rattle.base.proofs.PlaceLaws.{heads_are, tails_are}
use Rattle.change_plan.specs.declared.plan_data.Move.{Move}
use Rattle.config_graph.specs.Graph.{Graph}
use Rattle.quiesce_core.specs.declared.event.Event.{Event}
use Rattle.quiesce_core.specs.declared.event.Event.TheVariants as event
use Rattle.quiesce_laws.specs.Events.{reopens}
use Rattle.report_types.specs.declared.report.HistoryLine.{HistoryLine}
use Rattle.report_types.specs.declared.report.HistoryLine.TheVariants as to
use Rattle.change_spec.specs.Changes.{seen_in_all}
use Rattle.change_spec.specs.Lawful.{StoodOpen, StoodOpenWhereSaid}
use Rattle.change_spec.specs.Members.{Member, event_of, is_close, is_pending, is_root, line_of}
use Rattle.change_spec.specs.Scene.{Seen}
use Rattle.change_spec.specs.Statements.{Statement, start, change, run, finish, show}
use Rattle.base.proofs.ListLaws.{count_by-some}
use Rattle.base.proofs.CountLaws.{counted_some}
use Rattle.txn_records.specs.declared.entry.Entry.{Entry}
use Rattle.txn_records.specs.declared.entry.Entry.TheVariants.{Did, Looked, Sighted, Scanned}
use Rattle.txn_records.specs.Looks.{is_drained_word, serial_of}
use Rattle.txn_records.specs.Records.{IsRecordOf, Moment}
use Rattle.change_board.specs.Bearing.{SawRoot, is_scan, loads_root, looks_at}
use Rattle.change_board.specs.Scans.{Found, look_entry, scan_entries}
use Rattle.change_board.specs.Transcripts.{Item, silent, told, said, entries, line_in, lines, tells}
use Rattle.change_engine.specs.Carrying.{deed_items, sight_item}
use Rattle.change_engine.specs.Finishing.{all_entries, rounds_in}
use Rattle.change_engine.specs.Passivating.{IsPassivation, IsRound, Passivation, WaitingRound, close_item, is_busy, left_after, look_item, passivation_items, root_of, root_ports, roots_of, round_items, silent_items}
use Rattle.change_engine.specs.declared.passivating.LeftRoot.{LeftRoot}
use Rattle.change_transcript_laws.specs.Joining.{AreJoined}
use Rattle.change_engine.specs.Draining.{root_item}
use Rattle.change_transcript_laws.specs.Pieces.{AreCommitItems, IsDone, AreAbandonItems, IsTranscript, AreChangeItems, Piece, items_of, opening_items}
use Rattle.change_transcript_laws.proofs.ItemLemmas.{AreFair, IsFair, is_aside}
use Rattle.change_transcript_laws.proofs.LineLemmas.{any_line, both_lines, none_both, none_deeds, none_passivation, none_roots, none_silent, silent_line}
use Rattle.change_transcript_laws.proofs.LookLemmas.{all_are_seen}
use Rattle.change_transcript_laws.proofs.LookingLemmas.{left_was_looked_at}
use Rattle.change_transcript_laws.proofs.OpenLaws.{loaded_last, loaded_often, stood}
use Rattle.change_engine.proofs.ItemLaws.{entries_both, sight_lines}
use Rattle.change_engine.proofs.PassivationLaws.{left_more, looks_of, seen_root}
use Rattle.change_transcript_laws.proofs.FollowLaws.{items_pushed}
use Rattle.change_engine.specs.Stopping.{stop_items}
use Rattle.change_engine.specs.Calls.{skip_items}

-- ---- parts of lists

record SplitAt {A : Type 0} (test : A → Bool) (xs : List A) : Type 0 where
  front : List A
  here : A
  back : List A
  are : xs ≡ front ++ here ∷ back
  passes : test here ≡ true

split_at : {A : Type 0} (test : A → Bool) (xs : List A) → list_any test xs ≡ true → SplitAt test xs
split_at test [] h = absurd (both_ways false refl h)
split_at {A} test (x ∷ xs) h = by (test x) refl (split_at test xs)
  where
    by : (b : Bool) → test x ≡ b → (list_any test xs ≡ true → SplitAt test xs) → SplitAt test (x ∷ xs)
    by true e later = record { front = []; here = x; back = xs; are = refl; passes = e }
    by false e later =
        let w = later (sym (ap (λ b. b || list_any test xs) e) ∙ h) in
        record { front = x ∷ w.front; here = w.here; back = w.back; are = ap (λ ys. x ∷ ys) w.are; passes = w.passes }

-- the look that found a root
record FoundAt (found : List Found) (x : LeftRoot) : Type 0 where
  front : List Found
  here : Found
  back : List Found
  are : found ≡ front ++ here ∷ back
  busy : is_busy here ≡ true
  is_root : root_of here ≡ x

found_root : (found : List Found) (xs : List LeftRoot) (x : LeftRoot) (ys : List LeftRoot) → roots_of found ≡ xs ++ x ∷ ys → FoundAt found x
found_root [] [] x ys h = absurd (cc h)
found_root [] (y ∷ xs) x ys h = absurd (cc h)
found_root (f ∷ found) xs x ys h = by (is_busy f) refl xs h (λ zs e. found_root found zs x ys e)
  where
    later : FoundAt found x → FoundAt (f ∷ found) x
    later w = record { front = f ∷ w.front; here = w.here; back = w.back; are = ap (λ fs. f ∷ fs) w.are; busy = w.busy; is_root = w.is_root }

    by : (b : Bool) → is_busy f ≡ b → (xs : List LeftRoot) → map root_of (cond b (f ∷ filter is_busy found) (filter is_busy found)) ≡ xs ++ x ∷ ys
        → ((zs : List LeftRoot) → roots_of found ≡ zs ++ x ∷ ys → FoundAt found x) → FoundAt (f ∷ found) x
    by true e [] h rest = record { front = []; here = f; back = found; are = refl; busy = e; is_root = heads_are (root_of f) x (roots_of found) ys h }
    by true e (z ∷ zs) h rest = later (rest zs (tails_are (root_of f) z (roots_of found) (zs ++ x ∷ ys) h))
    by false e xs h rest = later (rest xs h)

-- the last of some rounds
record LastOf (rounds : List WaitingRound) : Type 0 where
  front : List WaitingRound
  round : WaitingRound
  are : rounds ≡ front ++ round ∷ []
  one_more : length rounds ≡ length front + 1

last_of : (w : WaitingRound) (rounds : List WaitingRound) → LastOf (w ∷ rounds)
last_of w [] = record { front = []; round = w; are = refl; one_more = refl }
last_of w (v ∷ rounds) =
    let x = last_of v rounds in record { front = w ∷ x.front; round = x.round; are = ap (λ ws. w ∷ ws) x.are; one_more = omega (arith, x.one_more) }

-- ---- the last look at a port at which a root is left

abbrev looks_region : Passivation → List Item
looks_region how = map look_item how.first ++ flat_map round_items how.rounds

-- before it, at least n looks at the port
record SeenAt (items : List Item) (p k n : ℕ) : Type 0 where
  word : ℕ
  front : List Item
  back : List Item
  are : items ≡ front ++ silent (Looked p word) ∷ back
  busy : is_drained_word word ≡ false
  serial : serial_of word ≡ k
  often : n ≤ count_by (looks_at p) (entries front)
  unscanned : list_any is_scan (entries back) ≡ false

-- a pass has no mark of a scan
no_scans : (found : List Found) → list_any is_scan (entries (map look_item found)) ≡ false
no_scans [] = refl
no_scans (f ∷ found) = by (is_drained_word f.word) (no_scans found)
  where
    by : (b : Bool) → list_any is_scan (entries (map look_item found)) ≡ false
        → list_any is_scan (entries (cond b (told (Looked f.port f.word) (to.Drained f.port (serial_of f.word))) (silent (Looked f.port f.word)) ∷ map look_item found)) ≡ false
    by true rest = rest
    by false rest = rest

busy_look : (p w : ℕ) (b : Bool) → b ≡ false → cond b (told (Looked p w) (to.Drained p (serial_of w))) (silent (Looked p w)) ≡ silent (Looked p w)
busy_look p w b e = ap (λ c. cond c (told (Looked p w) (to.Drained p (serial_of w))) (silent (Looked p w))) e

seen_in_pass : (found : List Found) (xs : List LeftRoot) (x : LeftRoot) (ys : List LeftRoot) → roots_of found ≡ xs ++ x ∷ ys → SeenAt (map look_item found) x.port x.serial 0
seen_in_pass found xs x ys h =
    let w = found_root found xs x ys h in
    let busy : is_drained_word w.here.word ≡ false = not-true (is_drained_word w.here.word) w.busy in
    let same : look_item w.here ≡ silent (Looked w.here.port w.here.word) = busy_look w.here.port w.here.word (is_drained_word w.here.word) busy in
    let port : w.here.port ≡ x.port = ap (λ (r : LeftRoot). r.port) w.is_root in
    record {
      word = w.here.word;
      front = map look_item w.front;
      back = map look_item w.back;
      are = ap (map look_item) w.are ∙ map-append look_item w.front (w.here ∷ w.back)
          ∙ ap (λ y. map look_item w.front ++ y ∷ map look_item w.back) (same ∙ ap (λ q. silent (Looked q w.here.word)) port);
      busy = busy;
      serial = ap (λ (r : LeftRoot). r.serial) w.is_root;
      often = omega arith;
      unscanned = no_scans w.back;
    }

behind : (more_ items : List Item) (p k n m : ℕ) → SeenAt items p k n → m ≤ count_by (looks_at p) (entries more_) + n → SeenAt (more_ ++ items) p k m
behind more_ items p k n m w few = record {
  word = w.word;
  front = more_ ++ w.front;
  back = w.back;
  are = ap (λ t. more_ ++ t) w.are ∙ sym (append_assoc more_ w.front (silent (Looked p w.word) ∷ w.back));
  busy = w.busy;
  serial = w.serial;
  often =
      let both = ap (count_by (looks_at p)) (entries_both more_ w.front) ∙ count_by-append (looks_at p) (entries more_) (entries w.front) in
      omega (arith, few, w.often, both);
  unscanned = w.unscanned;
}

root_listed : (xs : List LeftRoot) (x : LeftRoot) (ys : List LeftRoot) → 1 ≤ count_by (λ q. q == x.port) (root_ports (xs ++ x ∷ ys))
root_listed [] x ys =
    let here = sum_by-cons (λ q. cond (q == x.port) 1 0) x.port (root_ports ys) ∙ ap (λ b. cond b 1 0 + count_by (λ q. q == x.port) (root_ports ys)) (eq-eqb x.port x.port refl) in omega (arith, here)
root_listed (y ∷ xs) x ys = omega (arith, sum_by-cons (λ q. cond (q == x.port) 1 0) y.port (root_ports (xs ++ x ∷ ys)), root_listed xs x ys)

seen_last : (first : List Found) (rounds : List WaitingRound) (xs : List LeftRoot) (x : LeftRoot) (ys : List LeftRoot) → Each (IsRound first) rounds → left_after first rounds ≡ xs ++ x ∷ ys
    → SeenAt (map look_item first ++ flat_map round_items rounds) x.port x.serial (length rounds)
seen_last first [] xs x ys each h = subst (λ t. SeenAt t x.port x.serial 0) (sym (append-nil (map look_item first))) (seen_in_pass first xs x ys h)
seen_last first (v ∷ rounds) xs x ys each h =
    let last = last_of v rounds in
    let w = last.round in
    let here : roots_of w.found ≡ xs ++ x ∷ ys = sym (left_more first last.front w) ∙ ap (left_after first) (sym last.are) ∙ h in
    let scan = silent_items (scan_entries false w.moved w.sights w.scan) in
    let listed = subst (λ left. 1 ≤ count_by (λ q. q == x.port) (root_ports left)) (sym here) (root_listed xs x ys) in
    let often = left_was_looked_at x.port first last.front w (subst (Each (IsRound first)) last.are each) listed in
    let pass = behind scan (map look_item w.found) x.port x.serial 0 0 (seen_in_pass w.found xs x ys here) (omega arith) in
    let round_ = behind (flat_map round_items last.front) (round_items w) x.port x.serial 0 (length last.front) pass (omega (arith, often.1)) in
    let all : flat_map round_items (v ∷ rounds) ≡ flat_map round_items last.front ++ round_items w =
    ap (flat_map round_items) last.are ∙ flat_map-append round_items last.front (w ∷ []) ∙ ap (λ t. flat_map round_items last.front ++ t) (append-nil (round_items w)) in
    subst (λ t. SeenAt (map look_item first ++ t) x.port x.serial (length (v ∷ rounds))) (sym all)
    (behind (map look_item first) (flat_map round_items last.front ++ round_items w) x.port x.serial (length last.front) (length (v ∷ rounds)) round_ (omega (arith, often.0, last.one_more)))

-- ---- and the close of that port before it

record ClosedAt (ports : List ℕ) (how : Passivation) (p k : ℕ) : Type 0 where
  word : ℕ
  xs : List Item
  ys : List Item
  zs : List Item
  are : passivation_items ports how ≡ xs ++ close_item p ∷ (ys ++ silent (Looked p word) ∷ zs)
  busy : is_drained_word word ≡ false
  serial : serial_of word ≡ k
  none_reopened : list_any (reopens p) (filter_map event_of (lines ys)) ≡ false
  behind_closes : list_any is_close (lines zs) ≡ false
  closes : List Item
  looks : List Item
  ys_are : ys ≡ closes ++ looks
  looks_are : looks_region how ≡ looks ++ silent (Looked p word) ∷ zs
  often : length how.rounds ≤ count_by (looks_at p) (entries looks)
  unscanned : list_any is_scan (entries zs) ≡ false

-- a test of lines by their events
abbrev reopens_line : ℕ → HistoryLine → Bool
reopens_line p l = option_map_or (reopens p) (event_of l) false

by_lines : (p : ℕ) (ls : List HistoryLine) → list_any (reopens p) (filter_map event_of ls) ≡ list_any (reopens_line p) ls
by_lines p [] = refl
by_lines p (l ∷ ls) = by (event_of l) (by_lines p ls)
  where
    by : (o : Option Event) → list_any (reopens p) (filter_map event_of ls) ≡ list_any (reopens_line p) ls
        → list_any (reopens p) (cons_option o (filter_map event_of ls)) ≡ (option_map_or (reopens p) o false || list_any (reopens_line p) ls)
    by None rest = rest
    by (Some e) rest = ap (λ b. reopens p e || b) rest

none_looks : (test : HistoryLine → Bool) → ((p k : ℕ) → test (to.Drained p k) ≡ false) → (found : List Found) → any_line test (map look_item found) ≡ false
none_looks test h [] = refl
none_looks test h (f ∷ found) = by (is_drained_word f.word) (none_looks test h found)
  where
    by : (b : Bool) → any_line test (map look_item found) ≡ false
        → any_line test (cond b (told (Looked f.port f.word) (to.Drained f.port (serial_of f.word))) (silent (Looked f.port f.word)) ∷ map look_item found) ≡ false
    by true rest = ap (λ b. b || any_line test (map look_item found)) (h f.port (serial_of f.word)) ∙ rest
    by false rest = rest

none_rounds : (test : HistoryLine → Bool) → ((p k : ℕ) → test (to.Drained p k) ≡ false) → (rounds : List WaitingRound) → any_line test (flat_map round_items rounds) ≡ false
none_rounds test h [] = refl
none_rounds test h (w ∷ rounds) =
    let scan = scan_entries false w.moved w.sights w.scan in
    none_both test (round_items w) (flat_map round_items rounds) (none_both test (silent_items scan) (map look_item w.found) (none_silent test scan) (none_looks test h w.found)) (none_rounds test h rounds)

none_region : (test : HistoryLine → Bool) → ((p k : ℕ) → test (to.Drained p k) ≡ false) → (how : Passivation) → any_line test (looks_region how) ≡ false
none_region test h how = none_both test (map look_item how.first) (flat_map round_items how.rounds) (none_looks test h how.first) (none_rounds test h how.rounds)

none_closes : (test : HistoryLine → Bool) → ((p : ℕ) → test (to.Close p) ≡ false) → (ps : List ℕ) → any_line test (map close_item ps) ≡ false
none_closes test h [] = refl
none_closes test h (p ∷ ps) = ap (λ b. b || any_line test (map close_item ps)) (h p) ∙ none_closes test h ps

-- parts of items without such a line
none_parts : (test : HistoryLine → Bool) (t u : List Item) → any_line test (t ++ u) ≡ false → (any_line test t ≡ false) × (any_line test u ≡ false)
none_parts test t u h = or_parts (any_line test t) (any_line test u) (sym (both_lines test t u) ∙ h)

-- a port with a root left was closed
port_closed : (ports : List ℕ) (within : ℕ) (how : Passivation) (xs : List LeftRoot) (x : LeftRoot) (ys : List LeftRoot) → IsPassivation ports within how
    → left_after how.first how.rounds ≡ xs ++ x ∷ ys → SplitAt (λ q. q == x.port) ports
port_closed ports within how xs x ys is h =
    let seen = seen_in_all (looks_of how) in
    let at : Seen → Bool = λ d. d.port == x.port in
    let here : list_any at (map seen_root (xs ++ x ∷ ys)) ≡ true =
    ap (list_any at) (map-append seen_root xs (x ∷ ys)) ∙ list_any-append at (map seen_root xs) (seen_root x ∷ map seen_root ys)
    ∙ or_right (list_any at (map seen_root xs)) (list_any at (seen_root x ∷ map seen_root ys)) (or_left (at (seen_root x)) (list_any at (map seen_root ys)) (eq-eqb x.port x.port refl)) in
    let there : list_any at (seen ++ map seen_root (left_after how.first how.rounds)) ≡ true =
    list_any-append at seen (map seen_root (left_after how.first how.rounds))
    ∙ or_right (list_any at seen) (list_any at (map seen_root (left_after how.first how.rounds))) (ap (λ l. list_any at (map seen_root l)) h ∙ here) in
    let count = count_by-some at (seen ++ map seen_root (left_after how.first how.rounds)) there in
    split_at (λ q. q == x.port) ports
    (counted_some (λ q. q == x.port) ports (subst (λ n. 1 ≤ n) (all_are_seen ports within how is x.port) count))

closed_at : (ports : List ℕ) (within : ℕ) (how : Passivation) (xs : List LeftRoot) (x : LeftRoot) (ys : List LeftRoot) → IsPassivation ports within how
    → left_after how.first how.rounds ≡ xs ++ x ∷ ys → ClosedAt ports how x.port x.serial
closed_at ports within how xs x ys is h =
    let p = x.port in
    let c = port_closed ports within how xs x ys is h in
    let same : c.here ≡ p = eqb-true c.here p c.passes in
    let s = seen_last how.first how.rounds xs x ys is.each_round h in
    let shut = map close_item c.front in
    let more_ = map close_item c.back in
    let closes : map close_item ports ≡ shut ++ close_item p ∷ more_ =
    ap (map close_item) c.are ∙ map-append close_item c.front (c.here ∷ c.back) ∙ ap (λ q. shut ++ close_item q ∷ more_) same in
    let region : map close_item ports ++ looks_region how ≡ shut ++ close_item p ∷ ((more_ ++ s.front) ++ silent (Looked p s.word) ∷ s.back) =
    ap (λ t. t ++ looks_region how) closes ∙ append_assoc shut (close_item p ∷ more_) (looks_region how)
    ∙ ap (λ t. shut ++ close_item p ∷ t) (ap (λ t. more_ ++ t) s.are ∙ sym (append_assoc more_ s.front (silent (Looked p s.word) ∷ s.back))) in
    let looks = λ (test : HistoryLine → Bool) (f : (q k : ℕ) → test (to.Drained q k) ≡ false). none_parts test s.front (silent (Looked p s.word) ∷ s.back) (sym (ap (any_line test) s.are) ∙ none_region test f how) in
    record {
      word = s.word;
      xs = shut;
      ys = more_ ++ s.front;
      zs = s.back;
      are = append_assoc (map close_item ports) (map look_item how.first) (flat_map round_items how.rounds) ∙ region;
      busy = s.busy;
      serial = s.serial;
      none_reopened = by_lines p (lines (more_ ++ s.front))
          ∙ none_both (reopens_line p) more_ s.front (none_closes (reopens_line p) (λ q. refl) c.back) (looks (reopens_line p) (λ q k. refl)).0;
      behind_closes = (looks is_close (λ q k. refl)).1;
      closes = more_;
      looks = s.front;
      ys_are = refl;
      looks_are = s.are;
      often = s.often;
      unscanned = s.unscanned;
    }

-- ---- each line of a transcript

-- what is told as open was seen at the port's last looks
abbrev pub IsRootSeen : List Item → Item → Type 0
IsRootSeen before (said (to.Root p k)) = SawRoot before p k
IsRootSeen before _ = ⊤

only_roots : (xs : List LeftRoot) → list_all is_root (lines (map root_item xs)) ≡ true
only_roots [] = refl
only_roots (x ∷ xs) = only_roots xs

module _ (t : List Item) (m : List Moment) (ms : List Member) (fair : AreFair t) (j : AreJoined t m ms) (is_of : IsRecordOf (entries t) m) where
  abbrev IsRootAt : List Item → ℕ → ℕ → Type 0
  IsRootAt before p k = StoodOpen ms (lines before) p k × SawRoot before p k

  abbrev IsStoodAt : List Item → Item → Type 0
  IsStoodAt before x = (p k : ℕ) → x ≡ said (to.Root p k) → IsRootAt before p k

  abbrev line_test : Item → Bool
  line_test x = option_map_or is_root (line_in x) false

  no_root : (before : List Item) (x : Item) → line_test x ≡ false → IsStoodAt before x
  no_root before x h p k e = absurd (both_ways (line_test x) h (ap line_test e))

  first_line : (x : Item) (u : List Item) → any_line is_root (x ∷ u) ≡ (line_test x || any_line is_root u)
  first_line (silent y) u = refl
  first_line (told y l) u = refl
  first_line (said l) u = refl

  all_none : (before u : List Item) → any_line is_root u ≡ false → EachAfter IsStoodAt before u
  all_none before [] h = tt
  all_none before (x ∷ u) h =
      let w = or_parts (line_test x) (any_line is_root u) (sym (first_line x u) ∙ h) in (no_root before x w.0, all_none (before ++ x ∷ []) u w.1)

  none_aside : (l : HistoryLine) → is_aside l ≡ false → is_root l ≡ false
  none_aside (to.Root p k) h = absurd (both_ways true h refl)
  none_aside _ h = refl

  -- a root of a change that is given up
  module _ (before : List Item) (name : List ℕ) (args : List ℤ) (ports : List ℕ) (within : ℕ) (how : Passivation) (is : IsPassivation ports within how)
      (made : length how.rounds ≡ within) where
    abbrev opened : List Item
    opened = opening_items name args ports how

    abbrev left : List LeftRoot
    left = left_after how.first how.rounds

    regroup : (p k : ℕ) (c : ClosedAt ports how p k) (v : List Item)
        → before ++ (opened ++ v) ≡ (before ++ said (to.Change name args) ∷ c.xs) ++ close_item p ∷ (c.ys ++ silent (Looked p c.word) ∷ (c.zs ++ v))
    regroup p k c v =
        let look = silent (Looked p c.word) in
        let inner : passivation_items ports how ++ v ≡ c.xs ++ close_item p ∷ (c.ys ++ look ∷ (c.zs ++ v)) =
        ap (λ u. u ++ v) c.are ∙ append_assoc c.xs (close_item p ∷ (c.ys ++ look ∷ c.zs)) v
        ∙ ap (λ u. c.xs ++ close_item p ∷ u) (append_assoc c.ys (look ∷ c.zs) v) in
        ap (λ u. before ++ said (to.Change name args) ∷ u) inner
        ∙ sym (append_assoc before (said (to.Change name args) ∷ c.xs) (close_item p ∷ (c.ys ++ look ∷ (c.zs ++ v))))

    regions : (v : List Item) → before ++ (opened ++ v) ≡ (before ++ said (to.Change name args) ∷ map close_item ports) ++ looks_region how ++ v
    regions v =
        let shut = said (to.Change name args) ∷ map close_item ports in
        ap (λ u. before ++ (said (to.Change name args) ∷ u ++ v)) (append_assoc (map close_item ports) (map look_item how.first) (flat_map round_items how.rounds))
        ∙ sym (append_assoc before (shut ++ looks_region how) v) ∙ ap (λ u. u ++ v) (sym (append_assoc before shut (looks_region how)))

    root_stands : (front us : List LeftRoot) (x : LeftRoot) (after : List Item) → left ≡ front ++ x ∷ us
        → t ≡ before ++ (opened ++ (said (to.Pending within) ∷ map root_item front ++ after))
        → IsRootAt (before ++ (opened ++ said (to.Pending within) ∷ map root_item front)) x.port x.serial
    root_stands front us x after h whole =
        let p = x.port in
        let k = x.serial in
        let c = closed_at ports within how front x us is h in
        let v = said (to.Pending within) ∷ map root_item front in
        let look = silent (Looked p c.word) in
        let xs = before ++ said (to.Change name args) ∷ c.xs in
        let parts : t ≡ xs ++ close_item p ∷ (c.ys ++ look ∷ ((c.zs ++ v) ++ after)) =
        whole ∙ regroup p k c (v ++ after) ∙ ap (λ u. xs ++ close_item p ∷ (c.ys ++ look ∷ u)) (sym (append_assoc c.zs v after)) in
        let none_closed = none_both is_close c.zs v c.behind_closes (none_roots is_close (λ q i. refl) front) in
        let here = stood t m ms fair j is_of p c.word xs c.ys (c.zs ++ v) after parts c.busy c.none_reopened none_closed in
        let often = loaded_often t m ms fair j is_of p c.word xs c.ys (c.zs ++ v) after parts c.busy c.none_reopened none_closed c.closes c.looks c.zs c.ys_are in
        subst (λ i. IsRootAt (before ++ (opened ++ v)) p i) c.serial (
          subst (λ u. StoodOpen ms (lines u) p (serial_of c.word)) (sym (regroup p k c v)) here,
          record {
            front = before ++ said (to.Change name args) ∷ map close_item ports;
            since = looks_region how;
            roots = map root_item front;
            rounds = within;
            parts = regions v;
            only_roots = only_roots front;
            behind_closes = none_region is_close (λ q i. refl) how;
            enough = omega (arith, made, c.often, often, ap (λ u. count_by (loads_root p (serial_of c.word)) (entries u)) c.looks_are);
            earlier = c.looks;
            word = c.word;
            later = c.zs;
            last = c.looks_are;
            loads = loaded_last t m ms fair j is_of p c.word xs c.ys (c.zs ++ v) after parts c.busy c.none_reopened none_closed;
            no_scan_behind = c.unscanned;
          },
        )

    abbrev root_port : Item → ℕ
    root_port (said (to.Root p k)) = p
    root_port _ = 0

    abbrev root_serial : Item → ℕ
    root_serial (said (to.Root p k)) = k
    root_serial _ = 0

    roots_stand : (front back : List LeftRoot) (after : List Item) → left ≡ front ++ back
        → t ≡ before ++ (opened ++ (said (to.Pending within) ∷ map root_item front ++ (map root_item back ++ after)))
        → EachAfter IsStoodAt (before ++ (opened ++ said (to.Pending within) ∷ map root_item front)) (map root_item back)
    roots_stand front [] after h whole = tt
    roots_stand front (x ∷ back) after h whole =
        let v = said (to.Pending within) ∷ map root_item front in
        let next : map root_item (front ++ x ∷ []) ≡ map root_item front ++ root_item x ∷ [] = map-append root_item front (x ∷ []) in
        let place : before ++ (opened ++ said (to.Pending within) ∷ map root_item (front ++ x ∷ [])) ≡ (before ++ (opened ++ v)) ++ root_item x ∷ [] =
        ap (λ u. before ++ (opened ++ said (to.Pending within) ∷ u)) next
        ∙ ap (λ u. before ++ u) (sym (append_assoc opened v (root_item x ∷ []))) ∙ sym (append_assoc before (opened ++ v) (root_item x ∷ [])) in
        let more_ : t ≡ before ++ (opened ++ (said (to.Pending within) ∷ map root_item (front ++ x ∷ []) ++ (map root_item back ++ after))) =
        whole ∙ ap (λ u. before ++ (opened ++ said (to.Pending within) ∷ u)) (sym (append_assoc (map root_item front) (root_item x ∷ []) (map root_item back ++ after))
        ∙ ap (λ u. u ++ (map root_item back ++ after)) (sym next)) in (
          λ p k e. subst (λ i. IsRootAt (before ++ (opened ++ v)) i k) (ap root_port e)
              (subst (λ i. IsRootAt (before ++ (opened ++ v)) x.port i) (ap root_serial e) (root_stands front back x (map root_item (x ∷ back) ++ after) h whole)),
          subst (λ u. EachAfter IsStoodAt u (map root_item back)) place (roots_stand (front ++ x ∷ []) back after (h ∙ sym (append_assoc front (x ∷ []) back)) more_),
        )

  tried_stands : (before : List Item) (name : List ℕ) (args : List ℤ) (new : Graph) (within : ℕ) (moves : List Move) (u after : List Item) → AreChangeItems before name args new within moves u
      → t ≡ before ++ (u ++ after) → EachAfter IsStoodAt before u
  tried_stands before name args new within moves u after x whole = ⊎_elim
      (λ (y : AreCommitItems (before ++ opened_) x.old new x.plan left_ x.rest).
      subst (EachAfter IsStoodAt before) (sym x.are)
      (all_none before (opened_ ++ x.rest) (none_both is_root opened_ x.rest none_opened
      (ap (any_line is_root) y.are ∙ none_both is_root (flat_map deed_items y.deeds) (said to.Commit ∷ []) (none_deeds is_root none_aside y.deeds) refl))))
      (λ (y : (length x.how.rounds ≡ within) × AreAbandonItems x.closed within left_ x.rest). given_up y.0 y.1)
      x.ends
    where
      opened_ : List Item
      opened_ = opening_items name args x.closed x.how

      left_ : List LeftRoot
      left_ = left_after x.how.first x.how.rounds

      none_opened : any_line is_root opened_ ≡ false
      none_opened = none_passivation is_root none_aside x.closed x.how

      given_up : length x.how.rounds ≡ within → AreAbandonItems x.closed within left_ x.rest → EachAfter IsStoodAt before u
      given_up made y =
          let did_ = flat_map deed_items y.deeds in
          let pend = said (to.Pending within) ∷ [] in
          let roots = map root_item left_ in
          let tail_ = did_ ++ said to.Abandon ∷ [] in
          let rest_is : x.rest ≡ pend ++ (roots ++ tail_) = y.are ∙ append_assoc (pend ++ roots) did_ (said to.Abandon ∷ []) ∙ append_assoc pend roots tail_ in
          let u_is : u ≡ opened_ ++ (pend ++ (roots ++ tail_)) = x.are ∙ ap (λ v. opened_ ++ v) rest_is in
          let whole_ : t ≡ before ++ (opened_ ++ (pend ++ (roots ++ (tail_ ++ after)))) =
          whole ∙ ap (λ v. before ++ (v ++ after)) u_is
          ∙ ap (λ v. before ++ v) (append_assoc opened_ (pend ++ (roots ++ tail_)) after ∙ ap (λ v. opened_ ++ v) (ap (λ v. pend ++ v) (append_assoc roots tail_ after))) in
          let first = all_none before opened_ none_opened in
          let second = all_none (before ++ opened_) pend refl in
          let third = subst (λ v. EachAfter IsStoodAt v roots) (sym (append_assoc before opened_ pend))
          (roots_stand before name args x.closed within x.how x.is_passivation made [] left_ (tail_ ++ after) refl whole_) in
          let fourth = all_none (((before ++ opened_) ++ pend) ++ roots) tail_ (none_both is_root did_ (said to.Abandon ∷ []) (none_deeds is_root none_aside y.deeds) refl) in
          subst (EachAfter IsStoodAt before) (sym u_is)
          (each_joined IsStoodAt before opened_ (pend ++ (roots ++ tail_)) first
          (each_joined IsStoodAt (before ++ opened_) pend (roots ++ tail_) second (each_joined IsStoodAt ((before ++ opened_) ++ pend) roots tail_ third fourth)))

  piece_stands : (alone : Bool) (before : List Item) (s : Statement) (u after : List Item) → IsDone alone before s u → t ≡ before ++ (u ++ after) → EachAfter IsStoodAt before u
  piece_stands alone before (start name args g) u after d whole =
      let did_ = flat_map deed_items d.deeds in
      subst (EachAfter IsStoodAt before) (sym d.are)
      (all_none before (said (to.Start name args) ∷ did_ ++ said to.Commit ∷ []) (none_both is_root (said (to.Start name args) ∷ did_) (said to.Commit ∷ []) (none_deeds is_root none_aside d.deeds) refl))
  piece_stands alone before (change name args g within moves) u after d whole = ⊎_elim
      (λ (skipped : list_any is_pending (lines before) ≡ true). subst (EachAfter IsStoodAt before) (sym (d.0 skipped)) (all_none before (skip_items name args) refl))
      (λ (tried : list_any is_pending (lines before) ≡ false). tried_stands before name args g within moves u after (d.1 tried) whole)
      (cases_Bool (list_any is_pending (lines before)))
  piece_stands alone before (run k) u after d whole =
      let es = map look_entry d.looks ++ all_entries d.scans in
      subst (EachAfter IsStoodAt before) (sym d.are) (all_none before (silent_items es ++ said (to.Run k d.ended) ∷ []) (silent_line is_root es (to.Run k d.ended)))
  piece_stands alone before (finish n) u after d whole =
      let es = all_entries d.scans in
      subst (EachAfter IsStoodAt before) (sym d.are) (all_none before (silent_items es ++ said (to.Finish n (rounds_in d.scans)) ∷ []) (silent_line is_root es (to.Finish n (rounds_in d.scans))))
  piece_stands alone before show u after d whole = subst (EachAfter IsStoodAt before) (sym d.are) (all_none before (said (to.Show d.graph) ∷ []) refl)

  pieces_stand : (alone : Bool) (before ps : List Piece) (stop : List Item) → EachAfter (λ qs (p : Piece). IsDone alone (items_of qs) p.statement p.items) before ps
      → t ≡ items_of before ++ (items_of ps ++ stop) → EachAfter IsStoodAt (items_of before) (items_of ps)
  pieces_stand alone before [] stop each whole = tt
  pieces_stand alone before (p ∷ ps) stop each whole =
      let here : t ≡ items_of before ++ (p.items ++ (items_of ps ++ stop)) = whole ∙ ap (λ v. items_of before ++ v) (append_assoc p.items (items_of ps) stop) in
      let next : t ≡ items_of (before ++ p ∷ []) ++ (items_of ps ++ stop) =
      here ∙ sym (append_assoc (items_of before) p.items (items_of ps ++ stop)) ∙ ap (λ v. v ++ (items_of ps ++ stop)) (sym (items_pushed before p)) in
      each_joined IsStoodAt (items_of before) p.items (items_of ps) (piece_stands alone (items_of before) p.statement p.items (items_of ps ++ stop) each.0 here)
      (subst (λ v. EachAfter IsStoodAt v (items_of ps)) (items_pushed before p) (pieces_stand alone (before ++ p ∷ []) ps stop each.1 next))

  all_stand : (alone : Bool) (statements : List Statement) → IsTranscript alone statements t → Each IsStoodAt t
  all_stand alone statements x =
      let stopping = stop_items x.stops.closed x.stops.how in
      let none : any_line is_root x.stop ≡ false =
      ap (any_line is_root) x.stops.are ∙ none_both is_root stopping (map sight_item x.stops.sights) (none_passivation is_root none_aside x.stops.closed x.stops.how)
      (ap (list_any is_root) (sight_lines x.stops.sights)) in
      subst (Each IsStoodAt) x.are
      (each_joined IsStoodAt [] (items_of x.pieces) x.stop (pieces_stand alone [] x.pieces x.stop x.done (sym x.are)) (all_none (items_of x.pieces) x.stop none))

  -- ---- and each line of the history

  no_root_event : (e : Event) (l : HistoryLine) → line_of e ≡ Some l → is_root l ≡ false
  no_root_event (event.Make n node from) l h = sym (ap is_root (same_Some (to.Make n node from) l h))
  no_root_event (event.Link p n y) l h = sym (ap is_root (same_Some (to.Link p n y) l h))
  no_root_event (event.Unlink p) l h = sym (ap is_root (same_Some (to.Unlink p) l h))
  no_root_event (event.Remove n) l h = sym (ap is_root (same_Some (to.Remove n) l h))
  no_root_event (event.Close p) l h = sym (ap is_root (same_Some (to.Close p) l h))
  no_root_event (event.Reopen p) l h = sym (ap is_root (same_Some (to.Reopen p) l h))
  no_root_event _ l h = absurd (none-some l h)

  no_root_look : (p w : ℕ) (l : HistoryLine) (b : Bool) → cond b (Some (to.Drained p (serial_of w))) None ≡ Some l → is_root l ≡ false
  no_root_look p w l true h = sym (ap is_root (same_Some (to.Drained p (serial_of w)) l h))
  no_root_look p w l false h = absurd (none-some l h)

  no_root_entry : (y : Entry) (l : HistoryLine) → tells y ≡ Some l → is_root l ≡ false
  no_root_entry (Did e) l h = no_root_event e l h
  no_root_entry (Looked p w) l h = no_root_look p w l (is_drained_word w) h
  no_root_entry (Sighted n es) l h = absurd (none-some l h)
  no_root_entry (Scanned b v) l h = absurd (none-some l h)

  both_so : (before u : List Item) → AreFair u → EachAfter IsStoodAt before u → EachAfter (λ ys y. IsFair y × IsStoodAt ys y) before u
  both_so before [] f each = tt
  both_so before (y ∷ u) f each = ((f.0, each.0), both_so (before ++ y ∷ []) u f.1 each.1)

  line_stands : (before : List Item) (y : Item) (l : HistoryLine) → line_in y ≡ Some l → IsFair y × IsStoodAt before y → StoodOpenWhereSaid ms (lines before) l
  line_stands before (silent e) l h w = absurd (none-some l h)
  line_stands before (told e k) l h w = quiet l (ap is_root (sym (same_Some k l h)) ∙ no_root_entry e k w.0.1)
    where
      quiet : (l : HistoryLine) → is_root l ≡ false → StoodOpenWhereSaid ms (lines before) l
      quiet (to.Root p i) h = absurd (both_ways true h refl)
      quiet _ h = tt
  line_stands before (said k) l h w = subst (StoodOpenWhereSaid ms (lines before)) (same_Some k l h) (by k w.1)
    where
      by : (k : HistoryLine) → IsStoodAt before (said k) → StoodOpenWhereSaid ms (lines before) k
      by (to.Root p i) s = (s p i refl).0
      by _ s = tt

  root_seen : (before : List Item) (y : Item) → IsStoodAt before y → IsRootSeen before y
  root_seen before (said (to.Root p i)) s = (s p i refl).1
  root_seen before _ s = tt

  pub roots_seen : (alone : Bool) (statements : List Statement) → IsTranscript alone statements t → Each IsRootSeen t
  roots_seen alone statements x = each_weaker IsStoodAt IsRootSeen [] t root_seen (all_stand alone statements x)

  pub stood_open : (alone : Bool) (statements : List Statement) → IsTranscript alone statements t → Each (StoodOpenWhereSaid ms) (lines t)
  stood_open alone statements x =
      each_carried line_in (λ ys y. IsFair y × IsStoodAt ys y) (StoodOpenWhereSaid ms) (λ ys y l e k. line_stands ys y l e k) [] t (both_so [] t fair (all_stand alone statements x))
