-- The transactions of all ports that have ended are those up to their serials, less those that are open.
use Rattle.std.proofs.Common.{◌≡◌, ℕ, zero, suc, ◌+◌, ◌<◌, ◌≤◌, Bool, true, false, cond, List, [], ◌∷◌, length, refl, sym, ap, ◌∙◌, ⊎_elim, arith}
use Rattle.std.specs.Prelude.{◌==◌, filter_map, is_none, option_map, sum_by}
use Rattle.std.specs.List.{cons_option, count_by, range_with_len}
use Rattle.std.proofs.lemmas.Bool.{both_ways, cases_eq, cases_lt, eq-eqb, ne_eqb}
use Rattle.std.proofs.lemmas.List.{get_or_past}
use Rattle.std.proofs.lemmas.List.Sums.{sum_by-cons}
use Rattle.quiesce_core.specs.declared.event.Event.{Event}
use Rattle.quiesce_core.specs.declared.event.Event.TheVariants.{End}
use Rattle.quiesce_core.specs.declared.state.Exchange.{Exchange}
use Rattle.quiesce_core.specs.declared.state.OpenTxn.{OpenTxn}
use Rattle.quiesce_word.specs.declared.phase.Phase.{Phase}
use Rattle.quiesce_word.specs.declared.phase.Phase.TheVariants as phase
use Rattle.quiesce_core.specs.declared.state.Stage.{Stage}
use Rattle.quiesce_core.specs.Open.{stage_of, open_txn, open_txns}
use Rattle.quiesce_word.specs.Phases.{is_idle}
use Rattle.quiesce_core.specs.Rules.{is_taken}
use Rattle.quiesce_core.specs.Runs.{IsRun, state_after}
use Rattle.quiesce_core.specs.State.{State, fresh_exchange, exchange}
use Rattle.quiesce_core.proofs.RunLaws.{runs_are_well_formed}
use Rattle.quiesce_core.specs.Doers.{is_end_at}
use Rattle.quiesce_laws.specs.Events.{ends_transaction}
use Rattle.quiesce_laws.proofs.SerialLaws.{tallied}
use Rattle.base.proofs.SumLaws.{at_term, sum_plus, sum_term, sum_zero, term_here, term_there, sum_same}

-- an event ends a transaction of one port, if any
one_end : (e : Event) (n : ℕ) → ((q : ℕ) → n ≤ q → is_end_at q e ≡ false) → sum_by (λ p. cond (is_end_at p e) 1 0) (range_with_len 0 n) ≡ cond (ends_transaction e) 1 0
one_end (End q j v) n h =
    let made : q < n = ⊎_elim (λ (l : q < n). l) (λ (past : n ≤ q). absurd (both_ways (q == q) (h q past) (eq-eqb q q refl))) (cases_lt q n) in
    sum_same (λ p. cond (q == p) 1 0) (at_term q 1) n (λ p. ⊎_elim
    (λ (same : p ≡ q). ap (λ b. cond b 1 0) (eq-eqb q p (sym same)) ∙ sym (term_here q 1 p same))
    (λ (other : p ≡ q → ⊥). ap (λ b. cond b 1 0) (ne_eqb q p (λ e. other (sym e))) ∙ sym (term_there q 1 p other))
    (cases_eq p q))
    ∙ sum_term q 1 0 n (omega arith) (omega arith)
one_end _ n h = sum_zero (λ p. 0) 0 n (λ i l. refl)

flag_off : (b : Bool) → ◌≡◌ {A = ℕ} (cond b 1 0) 0 → b ≡ false
flag_off true h = absurd (omega arith)
flag_off false h = refl

-- so the ends of all ports are all ends
ends_of_ports : (n : ℕ) (es : List Event) → ((q : ℕ) → n ≤ q → count_by (is_end_at q) es ≡ 0) → sum_by (λ p. count_by (is_end_at p) es) (range_with_len 0 n) ≡ count_by ends_transaction es
ends_of_ports n [] h = sum_zero (λ p. 0) 0 n (λ i l. refl)
ends_of_ports n (e ∷ es) h =
    let split : (p : ℕ) → count_by (is_end_at p) (e ∷ es) ≡ cond (is_end_at p e) 1 0 + count_by (is_end_at p) es = λ p. sum_by-cons (λ x. cond (is_end_at p x) 1 0) e es in
    let first = one_end e n (λ q past. flag_off (is_end_at q e) (omega (arith, split q, h q past))) in
    let later = ends_of_ports n es (λ q past. omega (arith, split q, h q past)) in
    omega (
      arith,
      sum_same (λ p. count_by (is_end_at p) (e ∷ es)) (λ p. cond (is_end_at p e) 1 0 + count_by (is_end_at p) es) n split,
      sum_plus (λ p. cond (is_end_at p e) 1 0) (λ p. count_by (is_end_at p) es) 0 n,
      first,
      later,
      sum_by-cons (λ x. cond (ends_transaction x) 1 0) e es,
    )

one_open : (f : Phase) (taken : Bool) (g : Stage → OpenTxn) (xs : List OpenTxn) → length (cons_option (option_map g (stage_of f taken)) xs) ≡ cond (is_idle f) 0 1 + length xs
one_open phase.Idle taken g xs = omega arith
one_open phase.Asked taken g xs = omega arith
one_open phase.Answered taken g xs = omega arith
one_open phase.More taken g xs = omega arith

abbrev pub is_busy_at : State → ℕ → ℕ
is_busy_at s p = cond (is_idle (exchange s p).phase) 0 1

-- and the ports that aren't idle those that have an open transaction
pub open_ports : (s : State) (a n : ℕ) → length (filter_map (open_txn s) (range_with_len a n)) ≡ sum_by (is_busy_at s) (range_with_len a n)
open_ports s a zero = refl
open_ports s a (suc n) =
    omega (
      arith,
      one_open (exchange s a).phase (is_taken s a) (λ st. record { port = a; serial = (exchange s a).serial; root = is_none (exchange s a).within; stage = st }) (filter_map (open_txn s) (range_with_len (a + 1) n)),
      open_ports s (a + 1) n,
      sum_by-cons (is_busy_at s) a (range_with_len (a + 1) n),
    )

pub ends_make_all_serials : (es : List Event) → IsRun es
    → count_by ends_transaction es + length (open_txns (state_after es)) ≡ sum_by (λ p. (exchange (state_after es) p).serial) (range_with_len 0 (length (state_after es).config.gates))
ends_make_all_serials es run =
    let s = state_after es in
    let n = length s.config.gates in
    let w = runs_are_well_formed es run in
    let none_behind : (q : ℕ) → n ≤ q → count_by (is_end_at q) es ≡ 0 = λ q past.
    let fresh : (exchange s q).serial ≡ 0 = ap (λ (x : Exchange). x.serial) (get_or_past s.traffic.exchanges q fresh_exchange (omega (arith, past, w.exchanges))) in
    omega (arith, (tallied es q run).count, fresh) in
    omega (
      arith,
      sum_same (λ p. (exchange s p).serial) (λ p. count_by (is_end_at p) es + is_busy_at s p) n (λ p. sym (tallied es p run).count),
      sum_plus (λ p. count_by (is_end_at p) es) (is_busy_at s) 0 n,
      ends_of_ports n es none_behind,
      open_ports s 0 n,
    )
