-- Finishes on a board of one thread are those that rounds make: a world at rest stays as it is, so a scan that moves nothing there is no
-- round.
use Rattle.std.proofs.Common.{◌≡◌, ◌∙◌, ℕ, zero, suc, ◌+◌, ◌<◌, ◌≤◌, Bool, true, false, cond, not, List, [], ◌∷◌, ◌++◌, append_assoc, length, map, refl, sym, ap, subst, ⊎_elim, arith}
use Rattle.std.specs.Prelude.{◌==◌, ◌&&◌, ◌||◌, IsTrue, fold}
use Rattle.std.specs.List.{AllByRecursion}
use Rattle.std.proofs.lemmas.Bool.{both_ways, cases_eq, eq-eqb, ne_eqb, or_left, or_right}
use Rattle.std.proofs.lemmas.List.{append-nil, length-append}
use Rattle.std.proofs.lemmas.List.Concat.{flat_map-append}
use Rattle.std.proofs.lemmas.List.Elements.{filter_map-append}
use Rattle.std.proofs.lemmas.List.Sums.{fold-append, sum_by-append, sum_by-cons}
use Rattle.txn_records.specs.declared.entry.Entry.{Entry}
use Rattle.change_board.specs.Scans.{look_entry}
use Rattle.change_board.specs.Sights.{sight_entry}
use Rattle.change_board.specs.Transcripts.{Item, said, entries, entry_in, lines}
use Rattle.change_engine.specs.Finishing.{EndsAfter, EndsWith, ScansGoOn, IsScanIn, ScanSeen, all_entries, count_of, rounds_in, seen_entries}
use Rattle.change_engine.specs.Passivating.{silent_items}
use Rattle.change_spec.specs.Opening.{fold_of_node}
use Rattle.change_spec.specs.Serial.{finish_ends}
use Rattle.change_spec.specs.Statements.{finish}
use Rattle.report_types.specs.declared.report.HistoryLine.TheVariants as to
use Rattle.change_transcript_laws.specs.Pieces.{AreFinishItems, config_at}
use Rattle.quiesce_core.specs.State.{Configuration}
use Rattle.step_board.specs.Playing.{play}
use Rattle.step_board.specs.RunFacts.{round_goes_on}
use Rattle.node_turn_laws.specs.Reached.{IsReached}
use Rattle.node_turn_laws.proofs.TurnLaws.{still_rounds_stand}
use Rattle.node_turn_laws.specs.Round.{FirstAt, Round, after_rounds, is_at_rest, round, stands_still}
use Rattle.node_turn_laws.specs.World.{World, state_of}
use Rattle.step_runner.specs.Behind.{AreByRounds, IsPlayedBehind, world_behind}
use Rattle.step_runner.proofs.RestedLaws.{seen_at_rest}
use Rattle.step_runner.proofs.RunLaws.{scan_leads, true_scan}
use Rattle.step_runner.proofs.WorldLaws.{AreSo, behind_both, config_behind, front_of_rounds, reached_behind, so_behind, so_parts}
use Rattle.change_engine.proofs.ItemLaws.{lines_both, silent_entries, silent_lines}

-- what node_turn_laws says of worlds at rest, and change_round_laws of what nodes have come to
abbrev pub RestStays : Type 0
RestStays = (w : World) (allowed : Bool) → IsReached w → IsTrue (is_at_rest w) → round allowed w ≡ record { world = w; moved = false }

abbrev pub AreFolds : Type 0
AreFolds = (w : World) → IsReached w → (n : ℕ) → state_of w n ≡ fold_of_node w.events n

neither : (a b : Bool) → (a || (true && not b)) ≡ false → (a ≡ false) × (b ≡ true)
neither false true h = (refl, refl)
neither true b h = absurd (both_ways true h refl)
neither false false h = absurd (both_ways true h refl)

module _ (stays : RestStays) (folds : AreFolds) (w : World) (n : ℕ) (c : Configuration) (same : c ≡ w.machine.config) where
  abbrev world : ℕ → World
  world j = after_rounds true w j

  -- what a scan behind so many rounds says
  record Scanned (j : ℕ) (s : ScanSeen) : Type 0 where
    reached : IsReached (world (suc j))
    config : (world (suc j)).machine.config ≡ w.machine.config
    moved : s.answer.moved ≡ (round true (world j)).moved
    done : s.answer.done ≡ is_at_rest (world (suc j))

  scanned : (j : ℕ) (s : ScanSeen) → IsReached (world j) → (world j).machine.config ≡ w.machine.config → IsScanIn true c s → AreSo (world j) (seen_entries s) → Scanned j s
  scanned j s r config is so =
      let next = round_goes_on (world j) true r in
      let v = world (suc j) in
      let there = next.config ∙ config in
      let sights = (so_parts v (map sight_entry s.sights) (map look_entry s.found) so.1).0 in
      record {
        reached = next.reached;
        config = there;
        moved = so.0;
        done = is.done refl ∙ seen_at_rest v next.reached (folds v next.reached) c (same ∙ sym there) s.sights s.found sights (true_scan (world j) s so) (is.all_sighted refl) is.at_ports;
      }

  -- where it is at rest before a round, it is so behind it, and nothing moved
  at_rest_on : (j : ℕ) → IsReached (world j) → is_at_rest (world j) ≡ true → (world (suc j) ≡ world j) × ((round true (world j)).moved ≡ false)
  at_rest_on j r rest = (ap (λ (x : Round). x.world) (stays (world j) true r rest), ap (λ (x : Round). x.moved) (stays (world j) true r rest))

  not_at_rest : (j : ℕ) → IsReached (world j) → (round true (world j)).moved ≡ true → is_at_rest (world j) ≡ false
  not_at_rest j r moved = by (is_at_rest (world j)) refl
    where
      by : (b : Bool) → is_at_rest (world j) ≡ b → is_at_rest (world j) ≡ false
      by false e = e
      by true e = absurd (both_ways (round true (world j)).moved (at_rest_on j r e).1 moved)

  -- ---- scans behind which more follow

  record GoneOn (b : List ScanSeen) (j : ℕ) : Type 0 where
    long : length b ≡ j
    reached : IsReached (world j)
    config : (world j).machine.config ≡ w.machine.config
    -- each round moved, so it wasn't at rest before it
    moved : (i : ℕ) → i < j → (round true (world i)).moved ≡ true
    resting : (i : ℕ) → i < j → is_at_rest (world i) ≡ false
    rounds : rounds_in b ≡ j

  rounds_pushed : (b : List ScanSeen) (s : ScanSeen) → rounds_in (b ++ s ∷ []) ≡ rounds_in b + count_of s.answer
  rounds_pushed b s =
      let one = sum_by-cons (λ (x : ScanSeen). count_of x.answer) s [] in
      let both = sum_by-append (λ (x : ScanSeen). count_of x.answer) b (s ∷ []) in
      omega (arith, one, both)

  before_or_last : {P : ℕ → Type 0} (j : ℕ) → ((i : ℕ) → i < j → P i) → P j → (i : ℕ) → i < suc j → P i
  before_or_last {P} j h here i low = ⊎_elim
      (λ (e : i ≡ j). subst P (sym e) here)
      (λ (other : i ≡ j → ⊥). h i (omega (arith, low, other)))
      (cases_eq i j)

  counted : (s : ScanSeen) → s.answer.moved ≡ true → count_of s.answer ≡ 1
  counted s moved = ap (λ m. cond (not m && s.answer.done) 0 1) moved

  gone_next : (b : List ScanSeen) (j : ℕ) (s : ScanSeen) → GoneOn b j → ScansGoOn true s → IsScanIn true c s → AreSo (world j) (seen_entries s) → GoneOn (b ++ s ∷ []) (suc j)
  gone_next b j s h on is so =
      let x = scanned j s h.reached h.config is so in
      let answer = neither s.answer.done s.answer.moved on in
      let moved = sym x.moved ∙ answer.1 in
      let one = counted s answer.1 in
      let rounds = h.rounds in
      let long = h.long in
      record {
        long = (let all = length-append b (s ∷ []) in omega (arith, all, long));
        reached = x.reached;
        config = x.config;
        moved = before_or_last {P = λ i. (round true (world i)).moved ≡ true} j h.moved moved;
        resting = before_or_last {P = λ i. is_at_rest (world i) ≡ false} j h.resting (not_at_rest j h.reached moved);
        rounds = (let all = rounds_pushed b s in omega (arith, all, one, rounds));
      }

  -- so many more of them
  record GoneAll (b ss : List ScanSeen) (rest : List Entry) (j : ℕ) : Type 0 where
    number : ℕ
    gone : GoneOn (b ++ ss) number
    leads : fold play (world j) (all_entries ss) ≡ world number
    later : AreSo (world number) rest

  entries_with : (s : ScanSeen) (ss : List ScanSeen) → all_entries (s ∷ ss) ≡ seen_entries s ++ all_entries ss
  entries_with s ss = Rattle.std.proofs.lemmas.List.Concat.flat_map-cons seen_entries s ss

  gone_all : (b ss : List ScanSeen) (rest : List Entry) (j : ℕ) → GoneOn b j → AllByRecursion (ScansGoOn true) ss → AllByRecursion (IsScanIn true c) ss → AreSo (world j) (all_entries ss ++ rest) → GoneAll b ss rest j
  gone_all b [] rest j h on is so = record { number = j; gone = subst (λ bs. GoneOn bs j) (sym (append-nil b)) h; leads = refl; later = so }
  gone_all b (s ∷ ss) rest j h on is so =
      let split = so_parts (world j) (seen_entries s) (all_entries ss ++ rest) (subst (AreSo (world j)) (ap (λ es. es ++ rest) (entries_with s ss) ∙ append_assoc (seen_entries s) (all_entries ss) rest) so) in
      let there = scan_leads (world j) s in
      let next = gone_all (b ++ s ∷ []) ss rest (suc j) (gone_next b j s h on.0 is.0 split.0) on.1 is.1 (subst (λ u. AreSo u (all_entries ss ++ rest)) there split.1) in
      record {
        number = next.number;
        gone = subst (λ bs. GoneOn bs next.number) (append_assoc b (s ∷ []) ss) next.gone;
        leads = ap (fold play (world j)) (entries_with s ss) ∙ fold-append play (world j) (seen_entries s) (all_entries ss) ∙ ap (λ u. fold play u (all_entries ss)) there ∙ next.leads;
        later = next.later;
      }

  -- ---- where it ends

  still_before : (j : ℕ) → ((i : ℕ) → i < j → (round true (world i)).moved ≡ true) → stands_still true w j ≡ false
  still_before zero moved = refl
  still_before (suc j) moved = ap not (moved j (omega arith))

  not_yet : (j : ℕ) → j < n → is_at_rest (world j) ≡ false → stands_still true w j ≡ false → finish_ends w n j ≡ false
  not_yet j low rest still =
      let other : (j == n) ≡ false = ne_eqb j n (λ e. absurd (omega (arith, low, e))) in
      λ i. (rest i || other i) || still i

  gone_before : (b : List ScanSeen) (j : ℕ) → GoneOn b j → j ≤ n → (i : ℕ) → i < j → finish_ends w n i ≡ false
  gone_before b j h few i low = not_yet i (omega (arith, few, low)) (h.resting i low) (still_before i (λ k less. h.moved k (omega (arith, less, low))))

  record Ended (scans : List ScanSeen) (v : World) : Type 0 where
    rounds : ℕ
    number : FirstAt (finish_ends w n) rounds
    leads : v ≡ world rounds
    told : rounds_in scans ≡ rounds

  -- all were made that were allowed
  ended_by_number : (scans : List ScanSeen) → GoneOn scans n → Ended scans (world n)
  ended_by_number scans h = record {
    rounds = n;
    number = record {
      holds = or_left (is_at_rest (world n) || n == n) (stands_still true w n) (or_right (is_at_rest (world n)) (n == n) (eq-eqb n n refl));
      before = gone_before scans n h (omega arith);
    };
    leads = refl;
    told = h.rounds;
  }

  module _ (b : List ScanSeen) (j : ℕ) (h : GoneOn b j) (s : ScanSeen) (x : Scanned j s) (low : j < n) where
    earlier : (i : ℕ) → i < j → finish_ends w n i ≡ false
    earlier = gone_before b j h (omega (arith, low))

    still_here : stands_still true w j ≡ false
    still_here = still_before j h.moved

    told_one : (k : ℕ) → count_of s.answer ≡ k → rounds_in (b ++ s ∷ []) ≡ j + k
    told_one k one = let all = rounds_pushed b s in let rounds = h.rounds in omega (arith, all, one, rounds)

    -- a round of its own, behind which it ends
    one_more : count_of s.answer ≡ 1 → is_at_rest (world j) ≡ false → finish_ends w n (suc j) ≡ true → Ended (b ++ s ∷ []) (world (suc j))
    one_more one rest holds = record {
      rounds = suc j;
      number = record { holds = holds; before = before_or_last {P = λ i. finish_ends w n i ≡ false} j earlier (not_yet j low rest still_here) };
      leads = refl;
      told = (let all = told_one 1 one in omega (arith, all));
    }

    -- no round: it was at rest before
    none_more : count_of s.answer ≡ 0 → is_at_rest (world j) ≡ true → Ended (b ++ s ∷ []) (world (suc j))
    none_more none_ rest = record {
      rounds = j;
      number = record { holds = or_left (is_at_rest (world j) || j == n) (stands_still true w j) (or_left (is_at_rest (world j)) (j == n) rest); before = earlier };
      leads = (at_rest_on j h.reached rest).0;
      told = (let all = told_one 0 none_ in omega (arith, all));
    }

    rest_before : (round true (world j)).moved ≡ false → is_at_rest (world j) ≡ is_at_rest (world (suc j))
    rest_before still = ap is_at_rest (sym (still_rounds_stand (world j) true still))

    ended_by : (moved done : Bool) → s.answer.moved ≡ moved → s.answer.done ≡ done → (done || (true && not moved)) ≡ true → Ended (b ++ s ∷ []) (world (suc j))
    ended_by true true moved done last =
        one_more (counted s moved) (not_at_rest j h.reached (sym x.moved ∙ moved))
        (or_left (is_at_rest (world (suc j)) || suc j == n) (stands_still true w (suc j)) (or_left (is_at_rest (world (suc j))) (suc j == n) (sym x.done ∙ done)))
    ended_by true false moved done last = absurd (both_ways false refl last)
    ended_by false true moved done last =
        none_more ((λ i. cond (not (moved i) && done i) 0 1)) (rest_before (sym x.moved ∙ moved) ∙ sym x.done ∙ done)
    ended_by false false moved done last =
        one_more ((λ i. cond (not (moved i) && done i) 0 1)) (rest_before (sym x.moved ∙ moved) ∙ sym x.done ∙ done)
        (or_right (is_at_rest (world (suc j)) || suc j == n) (stands_still true w (suc j)) (ap not (sym x.moved ∙ moved)))

  none_gone : IsReached w → GoneOn [] 0
  none_gone r = record { long = refl; reached = r; config = refl; moved = λ i low. absurd (omega (arith, low)); resting = λ i low. absurd (omega (arith, low)); rounds = refl }

  all_parts : (a b : List ScanSeen) → AllByRecursion (IsScanIn true c) (a ++ b) → AllByRecursion (IsScanIn true c) a × AllByRecursion (IsScanIn true c) b
  all_parts [] b h = (tt, h)
  all_parts (x ∷ a) b h = let rest = all_parts a b h.1 in ((h.0, rest.0), rest.1)

  ended : (scans : List ScanSeen) → IsReached w → length scans ≤ n → AllByRecursion (IsScanIn true c) scans → EndsAfter true n scans → AreSo w (all_entries scans) → Ended scans (fold play w (all_entries scans))
  ended scans r few are ends so = ⊎_elim
      (λ (e : EndsWith true scans).
      let is = subst (AllByRecursion (IsScanIn true c)) e.parts are in
      let parts = all_parts e.before (e.final ∷ []) is in
      let made : all_entries scans ≡ all_entries e.before ++ seen_entries e.final =
      ap all_entries e.parts ∙ flat_map-append seen_entries e.before (e.final ∷ []) ∙ ap (λ es. all_entries e.before ++ es) (append-nil (seen_entries e.final)) in
      let g = gone_all [] e.before (seen_entries e.final) 0 (none_gone r) e.go_on parts.0 (subst (AreSo w) made so) in
      let x = scanned g.number e.final g.gone.reached g.gone.config parts.1.0 g.later in
      let long = g.gone.long in
      let all = ap (λ (xs : List ScanSeen). length xs) e.parts ∙ length-append e.before (e.final ∷ []) in
      let by = ended_by e.before g.number g.gone e.final x (omega (arith, few, long, all)) e.final.answer.moved e.final.answer.done refl refl e.ends in
      subst (λ ss. Ended ss (fold play w (all_entries scans))) (sym e.parts)
      (subst (Ended (e.before ++ e.final ∷ []))
      (sym (ap (fold play w) made ∙ fold-append play w (all_entries e.before) (seen_entries e.final) ∙ ap (λ u. fold play u (seen_entries e.final)) g.leads ∙ scan_leads (world g.number) e.final)) by))
      (λ (e : (length scans ≡ n) × AllByRecursion (ScansGoOn true) scans).
      let g = gone_all [] scans [] 0 (none_gone r) e.1 are (subst (AreSo w) (sym (append-nil (all_entries scans))) so) in
      let same_ : g.number ≡ n = sym g.gone.long ∙ e.0 in
      subst (Ended scans) (sym (g.leads ∙ ap world same_)) (ended_by_number scans (subst (GoneOn scans) same_ g.gone)))
      ends

-- ---- a finish

module _ (stays : RestStays) (folds : AreFolds) (before t : List Item) (n : ℕ) (rounds : AreByRounds (before ++ t)) (x : AreFinishItems true before n t) where
  abbrev from : World
  from = world_behind before

  abbrev made : List Entry
  made = all_entries x.scans

  entries_are : entries t ≡ made
  entries_are =
      ap entries x.are ∙ filter_map-append entry_in (silent_items made) (said (to.Finish n (rounds_in x.scans)) ∷ [])
      ∙ append-nil (entries (silent_items made)) ∙ silent_entries made

  over : Ended stays folds from n (config_at before) (config_behind before (front_of_rounds before t rounds)) x.scans (fold play from made)
  over =
      ended stays folds from n (config_at before) (config_behind before (front_of_rounds before t rounds)) x.scans (reached_behind before (front_of_rounds before t rounds)) x.few x.are_scans x.ends
      (subst (AreSo from) entries_are (so_behind before t rounds))

  played : IsPlayedBehind before (finish n) t
  played = record {
    rounds = over.rounds;
    number = over.number;
    world = behind_both before t ∙ ap (fold play from) entries_are ∙ over.leads;
    are = ap lines x.are ∙ lines_both (silent_items made) (said (to.Finish n (rounds_in x.scans)) ∷ []) ∙ ap (λ ls. ls ++ to.Finish n (rounds_in x.scans) ∷ []) (silent_lines made)
        ∙ ap (λ k. to.Finish n k ∷ []) over.told;
  }

pub finish_played : RestStays → AreFolds → (before t : List Item) (n : ℕ) → AreByRounds (before ++ t) → AreFinishItems true before n t → IsPlayedBehind before (finish n) t
finish_played stays folds before t n rounds x = played stays folds before t n rounds x
