-- Where as many logs are given as nodes were made, all were taken in.
use Rattle.std.proofs.Common.{◌≡◌, ◌∙◌, ℕ, zero, suc, ◌+◌, ◌<◌, Bool, true, false, cond, List, [], length, map, refl, sym, ap, arith, zero-add}
use Rattle.std.specs.List.{list_all, range_with_len}
use Rattle.std.proofs.lemmas.Bool.{and_from, and_parts}
use Rattle.live_board.specs.Boards.{BoardSeen, taken_in}
use Rattle.live_board.specs.Ended.{collected_logs}
use Rattle.report_types.specs.declared.report.NodeLog.{NodeLog}
use Rattle.txn_spec.specs.Views.{is_among}
use Rattle.txn_records.specs.Entries.{config_of}
use Rattle.base.proofs.MapLaws.{none_mapped}

at_each : (p : ℕ → Bool) (a n i : ℕ) → list_all p (range_with_len a n) ≡ true → i < n → p (a + i) ≡ true
at_each p a zero i all few = absurd (omega (arith, few))
at_each p a (suc n) zero all few = let e : a + 0 ≡ a = omega arith in ap p e ∙ (and_parts (p a) (list_all p (range_with_len (a + 1) n)) all).0
at_each p a (suc n) (suc i) all few =
    let e : a + suc i ≡ (a + 1) + i = omega arith in ap p e ∙ at_each p (a + 1) n i (and_parts (p a) (list_all p (range_with_len (a + 1) n)) all).1 (omega (arith, few))

each_at : (p : ℕ → Bool) (a n : ℕ) → ((i : ℕ) → i < a + n → p i ≡ true) → list_all p (range_with_len a n) ≡ true
each_at p a zero h = refl
each_at p a (suc n) h = and_from (p a) (list_all p (range_with_len (a + 1) n)) (h a (omega arith)) (each_at p (a + 1) n (λ i few. h i (omega (arith, few))))

pub taken_all : (b : BoardSeen) → ((n : ℕ) → n < length (config_of b.entries).slots → is_among b.nodes n ≡ true) → taken_in b ≡ collected_logs b.entries b.nodes
taken_all b all = ap (λ t. cond t (collected_logs b.entries b.nodes) []) (each_at (is_among b.nodes) 0 (length (config_of b.entries).slots) (λ i few. all i (omega (arith, few))))

module _ (b : BoardSeen) (logs : List NodeLog) (events : map (λ (l : NodeLog). l.events) logs ≡ taken_in b) (slots : map (λ (l : NodeLog). l.slot) logs ≡ range_with_len 0 (length (config_of b.entries).slots)) where
  all_taken : list_all (is_among b.nodes) (range_with_len 0 (length (config_of b.entries).slots)) ≡ true
  all_taken = by (list_all (is_among b.nodes) (range_with_len 0 (length (config_of b.entries).slots))) refl
    where
      by : (t : Bool) → list_all (is_among b.nodes) (range_with_len 0 (length (config_of b.entries).slots)) ≡ t → t ≡ true
      by true is = refl
      by false is =
          let none_ = none_mapped (λ (l : NodeLog). l.events) logs (events ∙ ap (λ t. cond t (collected_logs b.entries b.nodes) []) is) in
          sym is ∙ ap (list_all (is_among b.nodes)) (sym slots ∙ ap (map (λ (l : NodeLog). l.slot)) none_)

  pub all_among : (n : ℕ) → n < length (config_of b.entries).slots → is_among b.nodes n ≡ true
  all_among n few = ap (is_among b.nodes) (sym (zero-add n)) ∙ at_each (is_among b.nodes) 0 (length (config_of b.entries).slots) n all_taken few

  pub taken_is : taken_in b ≡ collected_logs b.entries b.nodes
  taken_is = ap (λ t. cond t (collected_logs b.entries b.nodes) []) all_taken
