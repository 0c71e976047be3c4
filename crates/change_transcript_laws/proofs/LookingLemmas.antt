-- How often a port is looked at: in each round of a passivation that leaves it, and in each scan.
use Rattle.std.proofs.Common.{◌≡◌, ◌∙◌, ℕ, ◌≤◌, Bool, true, false, cond, not, List, [], ◌∷◌, ◌++◌, append_assoc, length, map, refl, sym, ap, subst, arith}
use Rattle.std.specs.Prelude.{◌&&◌, ◌==◌, flat_map, nat_lt}
use Rattle.std.specs.List.{AllByRecursion, count_by, range_with_len}
use Rattle.std.proofs.lemmas.Bool.{and_parts, eq-eqb, ltb-true}
use Rattle.std.proofs.lemmas.List.{append-nil}
use Rattle.std.proofs.lemmas.List.Sums.{sum_by-cons}
use Rattle.base.specs.Each.{Each, EachAfter}
use Rattle.base.proofs.EachLaws.{each_at, each_parts}
use Rattle.base.proofs.MapLaws.{count_by-append}
use Rattle.base.proofs.RangeLaws.{range_has}
use Rattle.quiesce_core.specs.Rules.{is_live_port}
use Rattle.quiesce_core.specs.State.{Configuration, is_live, owner}
use Rattle.base.proofs.ListLaws.{count_by-some}
use Rattle.txn_records.specs.declared.entry.Entry.{Entry}
use Rattle.txn_records.specs.declared.entry.Entry.TheVariants.{Scanned}
use Rattle.change_board.specs.Bearing.{looks_at}
use Rattle.change_board.specs.Scans.{Found, look_entry, ports_of, scan_entries}
use Rattle.change_board.specs.Sights.{sight_entry}
use Rattle.change_board.specs.Transcripts.{entries}
use Rattle.change_engine.specs.Finishing.{IsScanIn, ScanSeen, all_entries, count_of, rounds_in, seen_entries}
use Rattle.change_engine.specs.Passivating.{IsRound, WaitingRound, left_after, look_item, root_ports, roots_of, round_items, silent_items}
use Rattle.change_engine.proofs.ItemLaws.{entries_both, look_entries}
use Rattle.change_engine.proofs.PassivationLaws.{left_more}
use Rattle.change_transcript_laws.proofs.LookLemmas.{parted}

module _ (p : ℕ) where
  abbrev is_port : ℕ → Bool
  is_port q = q == p

  abbrev listed : List ℕ → ℕ
  listed ports = count_by is_port ports

  abbrev looked : List Entry → ℕ
  looked es = count_by (looks_at p) es

  looked_ports : (found : List Found) → looked (map look_entry found) ≡ listed (ports_of found)
  looked_ports [] = refl
  looked_ports (f ∷ found) = omega (
    arith,
    sum_by-cons (λ e. cond (looks_at p e) 1 0) (look_entry f) (map look_entry found),
    sum_by-cons (λ q. cond (is_port q) 1 0) f.port (ports_of found),
    looked_ports found,
  )

  -- ---- in passivations

  looked_round : (w : WaitingRound) → listed (ports_of w.found) ≤ looked (entries (round_items w))
  looked_round w =
      let scan = silent_items (scan_entries false w.moved w.sights w.scan) in
      let both = ap looked (entries_both scan (map look_item w.found)) ∙ count_by-append (looks_at p) (entries scan) (entries (map look_item w.found)) in
      omega (arith, both, ap looked (look_entries w.found), looked_ports w.found)

  -- what is left in the end was left before each round, and each looked at it
  left_looked : (first : List Found) (before rounds : List WaitingRound) → EachAfter (IsRound first) before rounds → 1 ≤ listed (root_ports (left_after first (before ++ rounds)))
      → (1 ≤ listed (root_ports (left_after first before))) × (length rounds ≤ looked (entries (flat_map round_items rounds)))
  left_looked first before [] each left = (subst (λ ws. 1 ≤ listed (root_ports (left_after first ws))) (append-nil before) left, omega arith)
  left_looked first before (w ∷ rounds) each left =
      let later = subst (λ ws. 1 ≤ listed (root_ports (left_after first ws))) (sym (append_assoc before (w ∷ []) rounds)) left in
      let rest = left_looked first (before ++ w ∷ []) rounds each.1 later in
      let here = ap (λ xs. listed (root_ports xs)) (left_more first before w) in
      let ports = ap listed each.0.at_left in
      let both = ap looked (entries_both (round_items w) (flat_map round_items rounds)) ∙ count_by-append (looks_at p) (entries (round_items w)) (entries (flat_map round_items rounds)) in
      (omega (arith, rest.0, here, ports, parted p w.found), omega (arith, rest.0, rest.1, here, both, parted p w.found, looked_round w))

  -- the first look and each round but the last looked at what the last one left
  pub left_was_looked_at : (first : List Found) (rounds : List WaitingRound) (w : WaitingRound) → Each (IsRound first) (rounds ++ w ∷ []) → 1 ≤ listed (root_ports (roots_of w.found))
      → (1 ≤ looked (entries (map look_item first))) × (length rounds ≤ looked (entries (flat_map round_items rounds)))
  left_was_looked_at first rounds w each left =
      let ports = ap listed (each_at (IsRound first) rounds [] w each).at_left in
      let all = left_looked first [] rounds (each_parts (IsRound first) [] rounds (w ∷ []) each).0 (omega (arith, left, ports, parted p w.found)) in
      (omega (arith, all.0, parted p first, ap looked (look_entries first), looked_ports first), all.1)

  -- ---- in scans

  module _ (alone : Bool) (c : Configuration) (live : is_live_port c p ≡ true) where
    looked_scan : (w : ScanSeen) → IsScanIn alone c w → 1 ≤ looked (seen_entries w)
    looked_scan w is =
        let made = ltb-true p (length c.gates) (and_parts (nat_lt p (length c.gates)) (is_live c (owner c p)) live).0 in
        let there = count_by-some is_port (range_with_len 0 (length c.gates)) (range_has is_port 0 (length c.gates) p (omega arith) (omega (arith, made)) (eq-eqb p p refl)) in
        let sights = map sight_entry w.sights in
        let looks = map look_entry w.found in
        omega (
          arith,
          there,
          ap listed is.at_ports,
          looked_ports w.found,
          count_by-append (looks_at p) sights looks,
          sum_by-cons (λ e. cond (looks_at p e) 1 0) (Scanned true w.answer.moved) (sights ++ looks),
        )

    pub looked_scans : (scans : List ScanSeen) → AllByRecursion (IsScanIn alone c) scans → length scans ≤ looked (all_entries scans)
    looked_scans [] are = omega arith
    looked_scans (w ∷ scans) are = omega (arith, looked_scan w are.0, looked_scans scans are.1, count_by-append (looks_at p) (seen_entries w) (all_entries scans))

-- no more rounds than scans
one_at_most : (b : Bool) → cond b 0 1 ≤ 1
one_at_most true = omega arith
one_at_most false = omega arith

pub few_rounds : (scans : List ScanSeen) → rounds_in scans ≤ length scans
few_rounds [] = omega arith
few_rounds (w ∷ scans) =
    omega (arith, sum_by-cons (λ (v : ScanSeen). count_of v.answer) w scans, one_at_most (not w.answer.moved && w.answer.done), few_rounds scans)
