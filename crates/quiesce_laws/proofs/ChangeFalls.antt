-- Of each event of the change: nothing more is left of any port.
use Rattle.std.proofs.Common.{◌≡◌, ℕ, ◌+◌, ◌-◌, ◌*◌, ◌<◌, ◌≤◌, Bool, true, false, cond, length, Some, refl, sym, ap, ◌∙◌, ⊎_elim, arith}
use Rattle.std.specs.Prelude.{◌||◌, ◌⊎◌, sum_by}
use Rattle.std.specs.List.{range_with_len}
use Rattle.std.proofs.Math.Nat.{mul-le-mul_left}
use Rattle.std.proofs.lemmas.Bool.{both_ways, cases_Bool, or_left, or_right}
use Rattle.std.proofs.lemmas.List.{get_or_past}
use Rattle.config_graph.specs.declared.node.Target.{Target}
use Rattle.quiesce_core.specs.declared.state.Exchange.{Exchange}
use Rattle.quiesce_core.specs.State.{State, fresh_exchange, target, calls_allowed, mores_allowed, exchange, service}
use Rattle.quiesce_word.specs.Phases.{is_idle, is_asked, is_answered, is_in_more}
use Rattle.quiesce_core.specs.Reach.{has_no_cycle}
use Rattle.quiesce_core.specs.Rest.{call_events, messages_due, service_rest}
use Rattle.quiesce_core.specs.Rules.{is_taken}
use Rattle.quiesce_core.specs.Traffic.{IsConsistent}
use Rattle.quiesce_core.specs.WellFormed.{IsWellFormed}
use Rattle.quiesce_core.proofs.TableLaws.{live_made}
use Rattle.quiesce_laws.specs.Drain.{rest_at, rest_where}
use Rattle.quiesce_laws.proofs.Busy.{busy_phases, busy_target, untaken_if}
use Rattle.quiesce_laws.proofs.Fewer.{GoodLinks, calls_stay, mores_stay, full_fewer, events_fewer}
use Rattle.base.proofs.SumLaws.{sum_le, sum_longer, masked}
use Rattle.quiesce_laws.proofs.Weights.{left_idle, left_answered, left_untaken, left_taken}
use Rattle.quiesce_core.proofs.StateLaws.{taken_is, is_taken_if}
use Rattle.quiesce_word.proofs.PhaseLaws.{serving_busy}

-- what an event of the change owes, so that nothing more is left
pub record Spares (s s' : State) (Good : ℕ → ℕ → Type 0) : Type 0 where
  pub fewer : GoodLinks s.config s'.config Good
  pub busy : (q : ℕ) (t : Target) → is_idle (exchange s q).phase ≡ false → target s.config q ≡ Some t → Good t.node t.provide
  pub no_cycle : has_no_cycle s'.config ≡ true
  pub exchanges : (q : ℕ) → exchange s' q ≡ exchange s q
  pub services : (m : ℕ) → service s' m ≡ service s m
  pub leads : (q : ℕ) → is_idle (exchange s q).phase ≡ false → target s'.config q ≡ target s.config q

rest_fewer : (m i c j e e' d : ℕ) → e ≤ e' → 3 * (m - i) + (c - j) * e + d ≤ 3 * (m - i) + (c - j) * e' + d
rest_fewer m i c j e e' d h = let l : (c - j) * e ≤ (c - j) * e' = mul-le-mul_left (c - j) h in omega arith

module _ (s s' : State) (w : IsWellFormed s) (k : IsConsistent s) (Good : ℕ → ℕ → Type 0) (h : Spares s s' Good) where
  taken_fewer : (q : ℕ) (t : Target) → (is_asked (exchange s q).phase || is_in_more (exchange s q).phase) ≡ true → target s.config q ≡ Some t → target s'.config q ≡ Some t → is_taken s q ≡ true → rest_at s' q ≤ rest_at s q
  taken_fewer q t busy e e' taken =
      let u = taken_is s q taken in
      let same : u.to ≡ t = cc (e, u.leads) in
      let serviced : service s t.node ≡ Some u.serving = sym (ap (λ (x : Target). service s x.node) same) ∙ u.serviced in
      let made : t.node < length s.config.slots = live_made s.config t.node (w.sound.targets q t e).live in
      let before = left_taken s q t u.serving busy e serviced u.of_port in
      let after = left_taken s' q t u.serving (ap (λ (x : Exchange). is_asked x.phase || is_in_more x.phase) (h.exchanges q) ∙ busy) e' (h.services t.node ∙ serviced) u.of_port in
      let events = events_fewer s.config s'.config w.sound h.no_cycle Good h.fewer t.node t.provide made (h.busy q t (serving_busy (exchange s q).phase busy) e) in
      let is : rest_at s' q ≡ 3 * (mores_allowed s.config t.node t.provide - u.serving.mores)
      + (calls_allowed s.config t.node t.provide - u.serving.calls) * call_events s'.config t.node t.provide + messages_due u.serving (exchange s q).phase =
      after
      ∙ ap (λ (x : Exchange). service_rest s'.config t.node t.provide u.serving x.phase) (h.exchanges q)
      ∙ ap (λ i. 3 * (i - u.serving.mores) + (calls_allowed s'.config t.node t.provide - u.serving.calls) * call_events s'.config t.node t.provide + messages_due u.serving (exchange s q).phase)
      (mores_stay s.config s'.config h.fewer.extends_ t.node t.provide made)
      ∙ ap (λ i. 3 * (mores_allowed s.config t.node t.provide - u.serving.mores) + (i - u.serving.calls) * call_events s'.config t.node t.provide + messages_due u.serving (exchange s q).phase)
      (calls_stay s.config s'.config h.fewer.extends_ t.node t.provide made) in
      omega (
        arith,
        is,
        before,
        rest_fewer (mores_allowed s.config t.node t.provide) u.serving.mores (calls_allowed s.config t.node t.provide) u.serving.calls
            (call_events s'.config t.node t.provide) (call_events s.config t.node t.provide) (messages_due u.serving (exchange s q).phase) events,
      )

  asked_fewer : (q : ℕ) → (is_asked (exchange s q).phase || is_in_more (exchange s q).phase) ≡ true → is_idle (exchange s q).phase ≡ false → rest_at s' q ≤ rest_at s q
  asked_fewer q either_ busy =
      let t = busy_target s q k busy in
      let e' : target s'.config q ≡ Some t.0 = h.leads q busy ∙ t.1 in
      ⊎_elim
      (λ (taken : is_taken s q ≡ true). taken_fewer q t.0 either_ t.1 e' taken)
      (λ (free : is_taken s q ≡ false).
      let free' : is_taken s' q ≡ false = untaken_if s' q t.0 e' (λ v f same.
      both_ways (is_taken s q) free (is_taken_if s q t.0 v t.1 (sym (h.services t.0.node) ∙ f) same)) in
      let before = left_untaken s q t.0 either_ t.1 free in
      let after = left_untaken s' q t.0 (ap (λ (x : Exchange). is_asked x.phase || is_in_more x.phase) (h.exchanges q) ∙ either_) e' free' in
      omega (arith, before, after, full_fewer s.config s'.config w.sound h.no_cycle Good h.fewer t.0.node t.0.provide (live_made s.config t.0.node (w.sound.targets q t.0 t.1).live) (h.busy q t.0 busy t.1)))
      (cases_Bool (is_taken s q))

  left_fewer : (q : ℕ) → rest_at s' q ≤ rest_at s q
  left_fewer q = ⊎_elim
      (λ (idle : is_idle (exchange s q).phase ≡ true). omega (arith, left_idle s' q (ap (λ (x : Exchange). is_idle x.phase) (h.exchanges q) ∙ idle)))
      (λ (busy : is_idle (exchange s q).phase ≡ false). ⊎_elim
      (λ (asked : is_asked (exchange s q).phase ≡ true). asked_fewer q (or_left (is_asked (exchange s q).phase) (is_in_more (exchange s q).phase) asked) busy)
      (λ (later : (is_answered (exchange s q).phase ≡ true) ⊎ (is_in_more (exchange s q).phase ≡ true)). ⊎_elim
      (λ (answered : is_answered (exchange s q).phase ≡ true).
      omega (arith, left_answered s q answered, left_answered s' q (ap (λ (x : Exchange). is_answered x.phase) (h.exchanges q) ∙ answered)))
      (λ (more_ : is_in_more (exchange s q).phase ≡ true). asked_fewer q (or_right (is_asked (exchange s q).phase) (is_in_more (exchange s q).phase) more_) busy)
      later)
      (busy_phases (exchange s q).phase busy))
      (cases_Bool (is_idle (exchange s q).phase))

  -- nothing is left of what was not made
  left_behind : (q : ℕ) → length s.config.gates ≤ q → rest_at s' q ≡ 0
  left_behind q past =
      left_idle s' q (ap (λ (x : Exchange). is_idle x.phase) (h.exchanges q ∙ get_or_past s.traffic.exchanges q fresh_exchange (omega (arith, past, w.exchanges))))

  pub spares_part : (b : ℕ → Bool) → rest_where b s' ≤ rest_where b s
  spares_part b =
      let longer = length s'.config.gates - length s.config.gates in
      let length_is : length s'.config.gates ≡ length s.config.gates + longer = omega (arith, h.fewer.extends_.many) in
      let size : rest_where b s' ≡ sum_by (λ p. cond (b p) (rest_at s' p) 0) (range_with_len 0 (length s.config.gates)) =
      ap (λ n. sum_by (λ p. cond (b p) (rest_at s' p) 0) (range_with_len 0 n)) length_is
      ∙ sum_longer (λ p. cond (b p) (rest_at s' p) 0) 0 (length s.config.gates) longer (λ q past. zero_there (b q) (rest_at s' q) (left_behind q (omega arith))) in
      let less = sum_le (λ p. cond (b p) (rest_at s' p) 0) (λ p. cond (b p) (rest_at s p) 0) 0 (length s.config.gates)
      (λ q. masked false (b q) (b q) (rest_at s' q) (rest_at s q) (λ idle. absurd (both_ways false refl idle)) (λ busy on. on) (left_fewer q)) in
      omega (arith, size, less)
    where
      zero_there : (b : Bool) (x : ℕ) → x ≡ 0 → cond b x 0 ≡ 0
      zero_there true x e = e
      zero_there false x e = refl
