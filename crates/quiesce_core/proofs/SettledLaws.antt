-- The test that a node is settled, and what it means.
use Rattle.std.proofs.Common.{◌≡◌, ℕ, zero, suc, ◌<◌, Bool, true, false, not, ◌&&◌, ◌||◌, length, Some, None, refl, sym, ap, ◌∙◌, ⊎_elim, arith}
use Rattle.std.specs.Prelude.{◌==◌, ◌↔◌, is_none}
use Rattle.std.specs.List.{list_any, list_all, range_with_len}
use Rattle.std.proofs.lemmas.Bool.{and_parts, and_from, or_cases, or_left, or_right, both_ways, cases_Bool, eqb-true, eq-eqb, not-true, not_from_false}
use Rattle.config_graph.specs.declared.node.Target.{Target}
use Rattle.quiesce_core.specs.State.{Configuration, State, is_live, ports_of, target, depends, service}
use Rattle.quiesce_core.specs.Reach.{wiring_of, reaches_within, reaches}
use Rattle.config_graph.specs.Wiring.{Reach, direct, through}
use Rattle.config_graph.proofs.WiringLaws.{reach_linked}
use Rattle.quiesce_core.specs.Rules.{is_quiet, is_settled}
use Rattle.quiesce_core.specs.Settled.{Settled}
use Rattle.quiesce_core.specs.WellFormed.{IsSound}
use Rattle.base.proofs.RangeLaws.{all_in_range, range_all}
use Rattle.quiesce_core.proofs.CycleLaws.{any_of, of_any, all_of, of_all}
use Rattle.quiesce_core.proofs.ReachLaws.{reaches_some}
use Rattle.quiesce_core.proofs.ConfigurationLaws.{linked_made}
use Rattle.base.proofs.OptionLaws.{None-from_is_none, map_or_true}

reach_of : (c : Configuration) (n k p : ℕ) → reaches_within c n k p ≡ true → Reach (wiring_of c) n p
reach_of c n zero p h = absurd (both_ways false refl h)
reach_of c n (suc k) p h =
    let test : Target → ℕ → Bool = λ t q. depends c t.node t.provide q && reaches_within c n k q in
    let t = map_or_true (λ (t : Target). t.node == n || list_any (test t) (ports_of c t.node)) (target c p) h in
    ⊎_elim
    (λ (same : (t.0.node == n) ≡ true).
    direct {x = t.0.provide} (t.1 ∙ ap (λ i. Some (record { node = i; provide = t.0.provide })) (eqb-true t.0.node n same)))
    (λ (on : list_any (test t.0) (ports_of c t.0.node) ≡ true).
    let w = any_of c t.0.node (test t.0) on in
    let both = and_parts (depends c t.0.node t.0.provide w.port) (reaches_within c n k w.port) w.passes in
    through {p = w.port} {m = t.0.node} {x = t.0.provide} (reach_of c n k w.port both.1) (w.owned, both.0) t.1)
    (or_cases (t.0.node == n) (list_any (test t.0) (ports_of c t.0.node)) t.2)

-- what the search finds reaches the node
pub reaches_sound : (c : Configuration) (n p : ℕ) → reaches c n p ≡ true → Reach (wiring_of c) n p
unfolding reaches
reaches_sound c n p h = reach_of c n (suc (length c.slots)) p h

-- where there is no cycle it finds all that does
pub reaches_complete : (c : Configuration) → IsSound c → (n p : ℕ) → Reach (wiring_of c) n p → reaches c n p ≡ true
reaches_complete c s n _ (direct {p} {x} e) =
    reaches_some c s n p (record { node = n; provide = x }) e ∙ or_left (n == n) (list_any (λ q. depends c n x q && reaches c n q) (ports_of c n)) (eq-eqb n n refl)
reaches_complete c s n _ (through {p = q} {q = p} {m} {x} r d e) =
    reaches_some c s n p (record { node = m; provide = x }) e
    ∙ or_right (m == n) (list_any (λ q. depends c m x q && reaches c n q) (ports_of c m))
    (of_any c m (λ q. depends c m x q && reaches c n q) q d.0 (and_from (depends c m x q) (reaches c n q) d.1 (reaches_complete c s n q r)))

-- a port that reaches a node is linked, and so was made
pub reaching_made : (c : Configuration) (n p : ℕ) → Reach (wiring_of c) n p → p < length c.gates
reaching_made c n p r = let to = reach_linked (wiring_of c) n p r in linked_made c p (record { node = to.0; provide = to.1 }) to.2

pub settled_serves_nothing : (s : State) (n : ℕ) → is_settled s n ≡ true → service s n ≡ None
settled_serves_nothing s n h =
    let far = and_parts (is_live s.config n && list_all (λ p. is_quiet s p) (ports_of s.config n) && is_none (service s n))
    (list_all (λ p. is_quiet s p || not (reaches s.config n p)) (range_with_len 0 (length s.config.gates))) h in
    None-from_is_none (service s n) (and_parts (is_live s.config n && list_all (λ p. is_quiet s p) (ports_of s.config n)) (is_none (service s n)) far.0).1

pub settled_if : (s : State) → IsSound s.config → (n : ℕ) → is_settled s n ≡ true → Settled s n
settled_if s sound n h =
    let a = and_parts (is_live s.config n && list_all (λ p. is_quiet s p) (ports_of s.config n) && is_none (service s n))
    (list_all (λ p. is_quiet s p || not (reaches s.config n p)) (range_with_len 0 (length s.config.gates))) h in
    let b = and_parts (is_live s.config n && list_all (λ p. is_quiet s p) (ports_of s.config n)) (is_none (service s n)) a.0 in
    let d = and_parts (is_live s.config n) (list_all (λ p. is_quiet s p) (ports_of s.config n)) b.0 in
    record {
      live = d.0;
      own = λ p o. all_of s.config n (λ p. is_quiet s p) p d.1 o;
      services_nothing = None-from_is_none (service s n) b.1;
      reaching = λ p r. ⊎_elim (λ (quiet : is_quiet s p ≡ true). quiet)
          (λ (apart : not (reaches s.config n p) ≡ true).
          absurd (both_ways (reaches s.config n p) (not-true (reaches s.config n p) apart) (reaches_complete s.config sound n p r)))
          (or_cases (is_quiet s p) (not (reaches s.config n p))
          (all_in_range (λ p. is_quiet s p || not (reaches s.config n p)) 0 (length s.config.gates) p a.1 (omega arith) (omega (arith, reaching_made s.config n p r))));
    }

pub if_settled : (s : State) (n : ℕ) → Settled s n → is_settled s n ≡ true
if_settled s n h =
    and_from (is_live s.config n && list_all (λ p. is_quiet s p) (ports_of s.config n) && is_none (service s n))
    (list_all (λ p. is_quiet s p || not (reaches s.config n p)) (range_with_len 0 (length s.config.gates)))
    (and_from (is_live s.config n && list_all (λ p. is_quiet s p) (ports_of s.config n)) (is_none (service s n))
    (and_from (is_live s.config n) (list_all (λ p. is_quiet s p) (ports_of s.config n)) h.live (of_all s.config n (λ p. is_quiet s p) h.own))
    (ap (λ v. is_none v) h.services_nothing))
    (range_all (λ p. is_quiet s p || not (reaches s.config n p)) 0 (length s.config.gates) (λ p l u. ⊎_elim
    (λ (yes_ : reaches s.config n p ≡ true). or_left (is_quiet s p) (not (reaches s.config n p)) (h.reaching p (reaches_sound s.config n p yes_)))
    (λ (no_ : reaches s.config n p ≡ false). or_right (is_quiet s p) (not (reaches s.config n p)) (not_from_false (reaches s.config n p) no_))
    (cases_Bool (reaches s.config n p))))

pub settled_iff : (s : State) → IsSound s.config → (n : ℕ) (b : Bool) → b ≡ is_settled s n → (b ≡ true) ↔ Settled s n
settled_iff s sound n b e = ((λ h. settled_if s sound n (sym e ∙ h)), (λ h. e ∙ if_settled s n h))

pub reach_is_found : (c : Configuration) → IsSound c → (n p : ℕ) → (reaches c n p ≡ true) ↔ Reach (wiring_of c) n p
reach_is_found c sound n p = (reaches_sound c n p, reaches_complete c sound n p)
