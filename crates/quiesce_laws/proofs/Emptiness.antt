-- Something is left of each open transaction, so where nothing is left none is open.
use Rattle.std.proofs.Common.{◌≡◌, ℕ, ◌+◌, ◌≤◌, Bool, true, false, cond, length, refl, ap, ⊎_elim, arith}
use Rattle.std.specs.Prelude.{◌||◌, ◌⊎◌, ◌↔◌, sum_by}
use Rattle.std.specs.List.{range_with_len}
use Rattle.std.proofs.lemmas.Bool.{cases_Bool, false_from_ne_true, or_left, or_right, true_from_ne_false}
use Rattle.quiesce_core.specs.State.{State, exchange}
use Rattle.quiesce_word.specs.Phases.{is_idle, is_asked, is_answered, is_in_more}
use Rattle.quiesce_core.specs.Rest.{rest}
use Rattle.quiesce_core.specs.Rules.{is_taken}
use Rattle.quiesce_core.specs.Traffic.{IsConsistent}
use Rattle.quiesce_core.specs.WellFormed.{IsWellFormed}
use Rattle.quiesce_core.proofs.RestLaws.{full_step}
use Rattle.quiesce_laws.specs.Belongs.{Transactions, belongs}
use Rattle.quiesce_laws.specs.Drain.{rest_at, rest_where, rest_of}
use Rattle.quiesce_laws.proofs.Busy.{busy_phases, busy_target}
use Rattle.quiesce_laws.proofs.Falls.{due_two}
use Rattle.quiesce_laws.proofs.Steps.{every, all_rest}
use Rattle.base.proofs.SumLaws.{sum_place, sum_le, sum_zero}
use Rattle.quiesce_laws.proofs.Weights.{left_idle, left_answered, left_untaken, left_taken}
use Rattle.quiesce_core.proofs.StateLaws.{taken_is, busy_made}

asked_left : (s : State) (p : ℕ) → IsWellFormed s → IsConsistent s → is_idle (exchange s p).phase ≡ false → (is_asked (exchange s p).phase || is_in_more (exchange s p).phase) ≡ true → 1 ≤ rest_at s p
asked_left s p w c busy either_ =
    let t = busy_target s p c busy in
    ⊎_elim
    (λ (taken : is_taken s p ≡ true).
    let at = taken_is s p taken in
    omega (arith, left_taken s p at.to at.serving either_ at.leads at.serviced at.of_port, due_two at.serving (exchange s p).phase))
    (λ (free : is_taken s p ≡ false).
    omega (arith, left_untaken s p t.0 either_ t.1 free, full_step s.config w.sound.no_cycle t.0.node t.0.provide))
    (cases_Bool (is_taken s p))

pub busy_left : (s : State) (p : ℕ) → IsWellFormed s → IsConsistent s → is_idle (exchange s p).phase ≡ false → 1 ≤ rest_at s p
busy_left s p w c busy = ⊎_elim
    (λ (asked : is_asked (exchange s p).phase ≡ true). asked_left s p w c busy (or_left (is_asked (exchange s p).phase) (is_in_more (exchange s p).phase) asked))
    (λ (later : (is_answered (exchange s p).phase ≡ true) ⊎ (is_in_more (exchange s p).phase ≡ true)). ⊎_elim
    (λ (answered : is_answered (exchange s p).phase ≡ true). omega (arith, left_answered s p answered))
    (λ (more_ : is_in_more (exchange s p).phase ≡ true). asked_left s p w c busy (or_right (is_asked (exchange s p).phase) (is_in_more (exchange s p).phase) more_))
    later)
    (busy_phases (exchange s p).phase busy)

marked_left : (s : State) (b : ℕ → Bool) (p : ℕ) → IsWellFormed s → IsConsistent s → is_idle (exchange s p).phase ≡ false → b p ≡ true → 1 ≤ rest_where b s
marked_left s b p w c busy on =
    let here : cond (b p) (rest_at s p) 0 ≡ rest_at s p = ap (λ v. cond v (rest_at s p) 0) on in
    let all : sum_by (λ i. 0) (range_with_len 0 (length s.config.gates)) + 1 ≤ rest_where b s + 0 =
    sum_place (λ i. 0) (λ i. cond (b i) (rest_at s i) 0) p 1 0 (length s.config.gates) (omega (arith, busy_made s p c busy)) (λ i other. omega arith) (omega (arith, here, busy_left s p w c busy)) in
    omega arith

pub none_belongs : (set : Transactions) (s : State) → IsWellFormed s → IsConsistent s → rest_of set s ≡ 0 → (p : ℕ) → is_idle (exchange s p).phase ≡ false → belongs set s p ≡ false
none_belongs set s w c none_ p busy = false_from_ne_true (belongs set s p) (λ on. omega (arith, none_, marked_left s (belongs set s) p w c busy on))

pub nothing_left : (s : State) → IsWellFormed s → IsConsistent s → (rest s ≡ 0) ↔ ((p : ℕ) → is_idle (exchange s p).phase ≡ true)
nothing_left s w c = (
  (λ none_ p. true_from_ne_false (is_idle (exchange s p).phase) (λ busy. omega (arith, none_, all_rest s, marked_left s every p w c busy refl))),
  (λ idle. omega (
    arith,
    all_rest s,
    sum_zero (λ i. 0) 0 (length s.config.gates) (λ i l. refl),
    sum_le (λ i. cond (every i) (rest_at s i) 0) (λ i. 0) 0 (length s.config.gates) (λ i. omega (arith, left_idle s i (idle i))),
  )),
)
