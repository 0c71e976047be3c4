-- Runs on a board of one thread are those that rounds make, by what a run promises of its scans.
use Rattle.std.proofs.Common.{◌≡◌, ◌∙◌, ℕ, suc, ◌-◌, ◌<◌, true, false, not, List, [], ◌∷◌, ◌++◌, append_assoc, length, map, refl, sym, ap, subst, ⊎_elim, arith}
use Rattle.std.specs.Prelude.{◌||◌, fold, nat_le}
use Rattle.std.specs.List.{AllByRecursion}
use Rattle.std.proofs.lemmas.Bool.{cases_eq}
use Rattle.std.proofs.lemmas.List.{append-nil, length-append}
use Rattle.std.proofs.lemmas.List.Elements.{filter_map-append}
use Rattle.std.proofs.lemmas.List.Sums.{fold-append, fold_push}
use Rattle.base.specs.Each.{EachAfter}
use Rattle.txn_records.specs.declared.entry.Entry.{Entry}
use Rattle.change_board.specs.Scans.{ended_in, look_entry}
use Rattle.change_board.specs.Sights.{sight_entry}
use Rattle.change_board.specs.Transcripts.{Item, said, entries, entry_in, lines}
use Rattle.change_engine.specs.Finishing.{IsScanIn, ScanSeen, all_entries, seen_entries}
use Rattle.change_engine.specs.Passivating.{silent_items}
use Rattle.change_engine.specs.Running as engine
use Rattle.change_spec.specs.Serial.{run_ends}
use Rattle.change_spec.specs.Statements.{run}
use Rattle.report_types.specs.declared.report.HistoryLine.TheVariants as to
use Rattle.change_transcript_laws.specs.Pieces.{AreRunItems, config_at}
use Rattle.quiesce_core.specs.State.{Configuration}
use Rattle.step_board.specs.Playing.{play}
use Rattle.step_board.specs.RunFacts.{round_goes_on}
use Rattle.node_turn_laws.specs.Reached.{IsReached}
use Rattle.node_turn_laws.specs.Round.{after_rounds, ended, round, stands_still}
use Rattle.node_turn_laws.specs.World.{World}
use Rattle.step_runner.specs.Behind.{AreByRounds, IsPlayedBehind, world_behind}
use Rattle.step_runner.proofs.CountLaws.{all_ended}
use Rattle.step_runner.proofs.WaitLaws.{AreTrue, true_entries}
use Rattle.step_runner.proofs.WorldLaws.{AreSo, behind_both, config_behind, front_of_rounds, looks_leave, reached_behind, sights_leave, so_behind, so_parts}
use Rattle.change_engine.proofs.ItemLaws.{lines_both, silent_entries, silent_lines}

-- ---- a scan

abbrev scan : ScanSeen → List Entry
scan s = seen_entries s

pub scan_leads : (w : World) (s : ScanSeen) → fold play w (scan s) ≡ (round true w).world
scan_leads w s =
    let v = (round true w).world in
    fold-append play v (map sight_entry s.sights) (map look_entry s.found)
    ∙ ap (λ u. fold play u (map look_entry s.found)) (sights_leave v s.sights) ∙ looks_leave v s.found

pub true_scan : (w : World) (s : ScanSeen) → AreSo w (scan s) → AreTrue (round true w).world s.found
true_scan w s so =
    let v = (round true w).world in
    true_entries v s.found
    (subst (λ u. AreSo u (map look_entry s.found)) (sights_leave v s.sights) (so_parts v (map sight_entry s.sights) (map look_entry s.found) so.1).1)

module _ (w : World) (k : ℕ) (c : Configuration) (same : c ≡ w.machine.config) where
  abbrev world : ℕ → World
  world j = after_rounds true w j

  -- after so many scans
  pub record Ran (b : List ScanSeen) (j : ℕ) : Type 0 where
    pub long : length b ≡ j
    pub reached : IsReached (world j)
    pub config : (world j).machine.config ≡ w.machine.config
    pub since : engine.ended_since (ended w) b ≡ ended (world j) - ended w
    pub out : engine.is_out_after true b ≡ stands_still true w j
    pub before : (i : ℕ) → i < j → run_ends w k i ≡ false

  ends_so : (b : List ScanSeen) (j : ℕ) → Ran b j → engine.are_enough true k (ended w) b ≡ run_ends w k j
  ends_so b j h = λ i. nat_le k (h.since i) || h.out i

  ran_next : (b : List ScanSeen) (j : ℕ) (s : ScanSeen) → Ran b j → engine.RunsOn true k (ended w) b s → IsScanIn true c s → AreSo (world j) (scan s) → Ran (b ++ s ∷ []) (suc j)
  ran_next b j s h on is so =
      let next = round_goes_on (world j) true h.reached in
      let config : (world (suc j)).machine.config ≡ w.machine.config = next.config ∙ h.config in
      let here : run_ends w k j ≡ false = sym (ends_so b j h) ∙ on in
      let counted : s.answer.ended ≡ ended (world (suc j)) =
      is.ended ∙ all_ended (world (suc j)) next.reached s.found c (true_scan (world j) s so) is.at_ports (same ∙ sym config) in
      record {
        long = length-append b (s ∷ []) ∙ (let long = h.long in omega (arith, long));
        reached = next.reached;
        config = config;
        since = fold_push (λ n (x : ScanSeen). x.answer.ended - ended w) 0 b s ∙ ap (λ n. n - ended w) counted;
        out = fold_push (λ o (x : ScanSeen). engine.ends_run true x.answer) false b s ∙ ap not so.0;
        before = λ i low. ⊎_elim
            (λ (e : i ≡ j). subst (λ n. run_ends w k n ≡ false) (sym e) here)
            (λ (other : i ≡ j → ⊥). h.before i (omega (arith, low, other)))
            (cases_eq i j);
      }

  pub record RanAll (b ss : List ScanSeen) (j : ℕ) : Type 0 where
    pub number : ℕ
    pub ran : Ran (b ++ ss) number
    pub leads : fold play (world j) (all_entries ss) ≡ world number

  ran_on : (b ss : List ScanSeen) (j : ℕ) → Ran b j → EachAfter (engine.RunsOn true k (ended w)) b ss → AllByRecursion (IsScanIn true c) ss → AreSo (world j) (all_entries ss) → RanAll b ss j
  ran_on b [] j h on is so = record { number = j; ran = subst (λ bs. Ran bs j) (sym (append-nil b)) h; leads = refl }
  ran_on b (s ∷ ss) j h on is so =
      let parts = so_parts (world j) (scan s) (all_entries ss) so in
      let next = ran_next b j s h on.0 is.0 parts.0 in
      let there = scan_leads (world j) s in
      let rest = ran_on (b ++ s ∷ []) ss (suc j) next on.1 is.1 (subst (λ u. AreSo u (all_entries ss)) there parts.1) in
      record {
        number = rest.number;
        ran = subst (λ bs. Ran bs rest.number) (append_assoc b (s ∷ []) ss) rest.ran;
        leads = fold-append play (world j) (scan s) (all_entries ss) ∙ ap (λ u. fold play u (all_entries ss)) there ∙ rest.leads;
      }

-- ---- a run

nothing_since : (n : ℕ) → ◌≡◌ {A = ℕ} 0 (n - n)
nothing_since n = omega arith

module _ (before t : List Item) (k : ℕ) (rounds : AreByRounds (before ++ t)) (x : AreRunItems true before k t) where
  abbrev from : World
  from = world_behind before

  abbrev c : Configuration
  c = config_at before

  abbrev looks : List Entry
  looks = map look_entry x.looks

  abbrev made : List Entry
  made = looks ++ all_entries x.scans

  same_config : c ≡ from.machine.config
  same_config = config_behind before (front_of_rounds before t rounds)

  reached_here : IsReached from
  reached_here = reached_behind before (front_of_rounds before t rounds)

  entries_are : entries t ≡ made
  entries_are =
      ap entries x.are ∙ filter_map-append entry_in (silent_items made) (said (to.Run k x.ended) ∷ [])
      ∙ append-nil (entries (silent_items made)) ∙ silent_entries made

  parts : AreSo from looks × AreSo (fold play from looks) (all_entries x.scans)
  parts = so_parts from looks (all_entries x.scans) (subst (AreSo from) entries_are (so_behind before t rounds))

  shown : ended_in x.looks ≡ ended from
  shown = all_ended from reached_here x.looks c (true_entries from x.looks parts.0) x.at_ports same_config

  all : RanAll from k c same_config [] x.scans 0
  all = ran_on from k c same_config [] x.scans 0
      (record {
        long = refl;
        reached = reached_here;
        config = refl;
        since = nothing_since (ended from);
        out = refl;
        before = λ i low. absurd (omega (arith, low));
      })
      (subst (λ n. EachAfter (engine.RunsOn true k n) [] x.scans) shown x.go_on) x.are_scans
      (subst (λ u. AreSo u (all_entries x.scans)) (looks_leave from x.looks) parts.1)

  leads : world_behind (before ++ t) ≡ after_rounds true from all.number
  leads =
      behind_both before t ∙ ap (fold play from) entries_are ∙ fold-append play from looks (all_entries x.scans)
      ∙ ap (λ u. fold play u (all_entries x.scans)) (looks_leave from x.looks) ∙ all.leads

  ran : IsPlayedBehind before (run k) t
  ran = record {
    rounds = all.number;
    number = record {
      holds = sym (ends_so from k c same_config x.scans all.number all.ran) ∙ subst (λ n. engine.are_enough true k n x.scans ≡ true) shown x.ends;
      before = all.ran.before;
    };
    world = leads;
    are = ap lines x.are ∙ lines_both (silent_items made) (said (to.Run k x.ended) ∷ []) ∙ ap (λ ls. ls ++ to.Run k x.ended ∷ []) (silent_lines made)
        ∙ ap (λ n. to.Run k n ∷ [])
        (x.ended_is ∙ ap (λ n. engine.ended_since n x.scans) shown ∙ all.ran.since ∙ ap (λ (u : World). ended u - ended from) (sym leads));
  }

pub run_played : (before t : List Item) (k : ℕ) → AreByRounds (before ++ t) → AreRunItems true before k t → IsPlayedBehind before (run k) t
run_played before t k rounds x = ran before t k rounds x
