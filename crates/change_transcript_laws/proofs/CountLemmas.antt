-- How many transactions ended between two places, by the looks between them.
use Rattle.std.proofs.Common.{◌≡◌, ◌∙◌, ℕ, zero, suc, ◌+◌, ◌-◌, ◌≤◌, ◌<◌, Bool, true, false, cond, List, [], ◌∷◌, ◌++◌, map, refl, ap, ⊎_elim, arith}
use Rattle.std.specs.Prelude.{⊤, ◌==◌, fold}
use Rattle.std.specs.List.{AllByRecursion, count_by, range_with_len, sum_by}
use Rattle.std.proofs.lemmas.Bool.{cases_eq, eq-eqb, ne_eqb}
use Rattle.std.proofs.lemmas.List.Sums.{sum_by-cons}
use Rattle.quiesce_word.specs.Phases.{is_idle}
use Rattle.quiesce_word.specs.Words as words
use Rattle.quiesce_word.specs.declared.word.Word.{Word}
use Rattle.quiesce_core.specs.Doers.{is_end_at}
use Rattle.quiesce_core.specs.Fields.{fields_of}
use Rattle.quiesce_core.specs.Runs.{IsRun, state_after}
use Rattle.quiesce_core.specs.State.{Configuration, exchange}
use Rattle.quiesce_core.specs.Words.{word_of}
use Rattle.quiesce_core.specs.declared.event.Event.{Event}
use Rattle.quiesce_core.specs.declared.event.Event.TheVariants.{End}
use Rattle.quiesce_core.proofs.RunLaws.{runs_are_well_formed}
use Rattle.quiesce_core.proofs.WordLaws.{port_words_decode}
use Rattle.quiesce_laws.proofs.SerialLaws.{tallied}
use Rattle.quiesce_laws.specs.Events.{ends_transaction}
use Rattle.txn_records.specs.declared.entry.Entry.{Entry}
use Rattle.txn_records.specs.declared.entry.Entry.TheVariants.{Looked}
use Rattle.txn_records.specs.Looks.{ended_in_word}
use Rattle.change_board.specs.Scans.{Found, all_ports, ended_in, look_entry, ports_of}
use Rattle.change_board.specs.Sights.{sight_entry}
use Rattle.change_engine.specs.Finishing.{IsScanIn, ScanSeen, all_entries, seen_entries}
use Rattle.change_engine.specs.Running.{ended_since}

-- ---- a port's word shows how many of its transactions ended

ended_by : (idle : Bool) (n k : ℕ) → n + cond idle 0 1 ≡ k → cond idle k (k - 1) ≡ n
ended_by true n k h = omega (arith, h)
ended_by false n k h = omega (arith, h)

pub ended_at : (es : List Event) (p w : ℕ) → IsRun es → w ≡ word_of (state_after es) p → ended_in_word w ≡ count_by (is_end_at p) es
ended_at es p w run so =
    let s = state_after es in
    let fields : words.unpack w ≡ fields_of s p = ap words.unpack so ∙ port_words_decode s (runs_are_well_formed es run) p in
    ap (λ (f : Word). cond (is_idle f.phase) f.serial (f.serial - 1)) fields ∙ ended_by (is_idle (exchange s p).phase) (count_by (is_end_at p) es) (exchange s p).serial (tallied es p run).count

-- ---- each end is one of one port

in_range : (q a n : ℕ) → sum_by (λ p. cond (q == p) 1 0) (range_with_len a n) ≤ 1
in_range q a zero = omega arith
in_range q a (suc n) = ⊎_elim
    (λ (same : q ≡ a).
    let here : ◌≡◌ {A = ℕ} (cond (q == a) 1 0) 1 = ap {B = ℕ} (λ b. cond b 1 0) (eq-eqb q a same) in
    omega (arith, sum_by-cons (λ p. cond (q == p) 1 0) a (range_with_len (a + 1) n), here, none_behind q (a + 1) n (omega (arith, same))))
    (λ (other : q ≡ a → ⊥).
    let here : ◌≡◌ {A = ℕ} (cond (q == a) 1 0) 0 = ap {B = ℕ} (λ b. cond b 1 0) (ne_eqb q a other) in
    omega (arith, sum_by-cons (λ p. cond (q == p) 1 0) a (range_with_len (a + 1) n), here, in_range q (a + 1) n))
    (cases_eq q a)
  where
    none_behind : (q a n : ℕ) → q < a → sum_by (λ p. cond (q == p) 1 0) (range_with_len a n) ≡ 0
    none_behind q a zero h = refl
    none_behind q a (suc n) h =
        let here : ◌≡◌ {A = ℕ} (cond (q == a) 1 0) 0 = ap {B = ℕ} (λ b. cond b 1 0) (ne_eqb q a (λ e. absurd (omega (arith, e, h)))) in
        omega (arith, sum_by-cons (λ p. cond (q == p) 1 0) a (range_with_len (a + 1) n), here, none_behind q (a + 1) n (omega (arith, h)))

sum_both : (f g : ℕ → ℕ) (ps : List ℕ) → sum_by (λ p. f p + g p) ps ≡ sum_by f ps + sum_by g ps
sum_both f g [] = refl
sum_both f g (p ∷ ps) = omega (arith, sum_by-cons (λ q. f q + g q) p ps, sum_by-cons f p ps, sum_by-cons g p ps, sum_both f g ps)

sum_same : (f g : ℕ → ℕ) (ps : List ℕ) → ((p : ℕ) → f p ≡ g p) → sum_by f ps ≡ sum_by g ps
sum_same f g [] h = refl
sum_same f g (p ∷ ps) h = omega (arith, sum_by-cons f p ps, sum_by-cons g p ps, h p, sum_same f g ps h)

none_summed : (ps : List ℕ) → sum_by (λ (p : ℕ). 0) ps ≡ 0
none_summed [] = refl
none_summed (p ∷ ps) = omega (arith, sum_by-cons (λ (q : ℕ). 0) p ps, none_summed ps)

one_end : (e : Event) (a n : ℕ) → sum_by (λ p. cond (is_end_at p e) 1 0) (range_with_len a n) ≤ cond (ends_transaction e) 1 0
one_end (End q k v) a n = in_range q a n
one_end _ a n = omega (arith, none_summed (range_with_len a n))

pub ends_of_ports : (es : List Event) (a n : ℕ) → sum_by (λ p. count_by (is_end_at p) es) (range_with_len a n) ≤ count_by ends_transaction es
ends_of_ports [] a n = omega (arith, none_summed (range_with_len a n))
ends_of_ports (e ∷ es) a n =
    let one : (p : ℕ) → count_by (is_end_at p) (e ∷ es) ≡ cond (is_end_at p e) 1 0 + count_by (is_end_at p) es = λ p. sum_by-cons (λ x. cond (is_end_at p x) 1 0) e es in
    omega (
      arith,
      sum_same (λ p. count_by (is_end_at p) (e ∷ es)) (λ p. cond (is_end_at p e) 1 0 + count_by (is_end_at p) es) (range_with_len a n) one,
      sum_both (λ p. cond (is_end_at p e) 1 0) (λ p. count_by (is_end_at p) es) (range_with_len a n),
      one_end e a n,
      ends_of_ports es a n,
      sum_by-cons (λ x. cond (ends_transaction x) 1 0) e es,
    )

-- ---- looks between two places

module _ (low high : ℕ → ℕ) where
  -- what a look shows of its port stands between what was there at the two places
  abbrev pub IsBetween : Entry → Type 0
  IsBetween (Looked p w) = (low p ≤ ended_in_word w) × (ended_in_word w ≤ high p)
  IsBetween _ = ⊤

  both_parts : (es fs : List Entry) → AllByRecursion IsBetween (es ++ fs) → AllByRecursion IsBetween es × AllByRecursion IsBetween fs
  both_parts [] fs h = (tt, h)
  both_parts (e ∷ es) fs h = let w = both_parts es fs h.1 in ((h.0, w.0), w.1)

  shown_most : (found : List Found) → AllByRecursion IsBetween (map look_entry found) → ended_in found ≤ sum_by high (ports_of found)
  shown_most [] h = omega arith
  shown_most (f ∷ found) h =
      omega (arith, sum_by-cons (λ (g : Found). ended_in_word g.word) f found, sum_by-cons high f.port (ports_of found), h.0.1, shown_most found h.1)

  shown_least : (found : List Found) → AllByRecursion IsBetween (map look_entry found) → sum_by low (ports_of found) ≤ ended_in found
  shown_least [] h = omega arith
  shown_least (f ∷ found) h =
      omega (arith, sum_by-cons (λ (g : Found). ended_in_word g.word) f found, sum_by-cons low f.port (ports_of found), h.0.0, shown_least found h.1)

  seen_part : (w : ScanSeen) → AllByRecursion IsBetween (seen_entries w) → AllByRecursion IsBetween (map look_entry w.found)
  seen_part w h = (both_parts (map sight_entry w.sights) (map look_entry w.found) h.1).1

  -- by how much the last of some scans shows more
  last_shows : (alone : Bool) (scans : List ScanSeen) (c : Configuration) (shown : ℕ) → AllByRecursion (IsScanIn alone c) scans → AllByRecursion IsBetween (all_entries scans) → sum_by low (all_ports c) ≤ shown
      → (before : ℕ) → before ≤ sum_by high (all_ports c) - sum_by low (all_ports c) → fold (λ n (w : ScanSeen). w.answer.ended - shown) before scans ≤ sum_by high (all_ports c) - sum_by low (all_ports c)
  last_shows alone [] c shown are h least before fits = fits
  last_shows alone (w ∷ scans) c shown are h least before fits =
      let parts = both_parts (seen_entries w) (all_entries scans) h in
      let most = shown_most w.found (seen_part w parts.0) in
      let same = ap (sum_by high) are.0.at_ports in
      last_shows alone scans c shown are.1 parts.1 least (w.answer.ended - shown) (omega (arith, are.0.ended, most, same, least))

  pub run_shows : (alone : Bool) (looks : List Found) (scans : List ScanSeen) (c : Configuration) → ports_of looks ≡ all_ports c → AllByRecursion (IsScanIn alone c) scans
      → AllByRecursion IsBetween (map look_entry looks ++ all_entries scans) → ended_since (ended_in looks) scans ≤ sum_by high (all_ports c) - sum_by low (all_ports c)
  run_shows alone looks scans c at_ports are h =
      let parts = both_parts (map look_entry looks) (all_entries scans) h in
      let least = shown_least looks parts.0 in
      let same = ap (sum_by low) at_ports in
      last_shows alone scans c (ended_in looks) are parts.1 (omega (arith, least, same)) 0 (omega arith)
