-- Where a walk of more steps than there are nodes can be made, a node leads back to itself.
use Rattle.std.proofs.Common.{◌≡◌, ℕ, Bool, true, false, cond, not, List, [], ◌∷◌, Option, Some, None, sym, ap, ◌∙◌, ⊎_elim, arith}
use Rattle.std.specs.Prelude.{◌↔◌}
use Rattle.std.proofs.lemmas.Bool.{cases_Bool, false_from_ne_true}
use Rattle.std.proofs.lemmas.Option.{same_Some}
use Rattle.quiesce_core.specs.declared.event.Event.TheVariants.{Link}
use Rattle.quiesce_core.specs.State.{Configuration, State, owner}
use Rattle.quiesce_core.specs.Rules.{denial, first_failing, is_live_port, is_linked, has_provision, is_settled}
use Rattle.quiesce_core.specs.Effect.{with_target}
use Rattle.quiesce_core.specs.Reach.{wiring_of, has_no_cycle}
use Rattle.config_graph.specs.Walks.{Ranks}
use Rattle.config_graph.specs.Wiring.{CallPath, HasNoCycle, MayCall}
use Rattle.config_graph.proofs.WalkLaws.{acyclic_if_ranked}
use Rattle.quiesce_core.proofs.CycleLaws.{cycles_are_found, no_cycle_if_acyclic, ranked_if_no_cycle, walk_found}
use Rattle.quiesce_core.proofs.LegalLaws.{legal}

pub cycles_are_closed_walks : (c : Configuration) → (has_no_cycle c ≡ false) ↔ ((n : ℕ) × CallPath (wiring_of c) n n)
cycles_are_closed_walks c = (walk_found c, λ w. false_from_ne_true (has_no_cycle c) (λ h. (cycles_are_found c).0 h w.0 w.1))

-- a rule by which an event isn't denied holds, and the last by which it is denied fails
passed_by : (k j : ℕ) (b : Bool) (rules : List (ℕ × Bool)) → (k ≡ j → ⊥) → first_failing ((k, b) ∷ rules) ≡ Some j → first_failing rules ≡ Some j
passed_by k j b rules other h = ⊎_elim
    (λ (e : b ≡ true). sym (ap (λ c. cond c (first_failing rules) (Some k)) e) ∙ h)
    (λ (e : b ≡ false). absurd (other (same_Some k j (sym (ap (λ c. cond c (first_failing rules) (Some k)) e) ∙ h))))
    (cases_Bool b)

last_fails : (k j : ℕ) (b : Bool) → first_failing ((k, b) ∷ []) ≡ Some j → b ≡ false
last_fails k j b h = false_from_ne_true b (λ e. let none_ : ◌≡◌ {A = Option ℕ} None (Some j) = sym (ap (λ c. cond c None (Some k)) e) ∙ h in absurd (cc))

pub denied_link : (s : State) (p n x : ℕ) → denial s (Link p n x) ≡ Some 23 → (i : ℕ) × CallPath (wiring_of (with_target s.config p (Some (record { node = n; provide = x })))) i i
denied_link s p n x h =
    let after = with_target s.config p (Some (record { node = n; provide = x })) in
    let fourth : ℕ × Bool = (22, is_settled s (owner s.config p)) in
    let fifth : ℕ × Bool = (23, has_no_cycle after) in
    let third : ℕ × Bool = (21, has_provision s.config n x) in
    walk_found after (last_fails 23 23 (has_no_cycle after)
    (passed_by 22 23 (is_settled s (owner s.config p)) (fifth ∷ []) (λ e. omega (arith, e))
    (passed_by 21 23 (has_provision s.config n x) (fourth ∷ fifth ∷ []) (λ e. omega (arith, e))
    (passed_by 20 23 (not (is_linked s.config p)) (third ∷ fourth ∷ fifth ∷ []) (λ e. omega (arith, e))
    (passed_by 1 23 (is_live_port s.config p) ((20, not (is_linked s.config p)) ∷ third ∷ fourth ∷ fifth ∷ []) (λ e. omega (arith, e)) h)))))

passes : (k : ℕ) (b : Bool) (rules : List (ℕ × Bool)) → b ≡ true → first_failing ((k, b) ∷ rules) ≡ first_failing rules
passes k b rules e = ap (λ c. cond c (first_failing rules) (Some k)) e

pub link_that_closes : (s : State) (p n x : ℕ) → is_live_port s.config p ≡ true → not (is_linked s.config p) ≡ true → has_provision s.config n x ≡ true → is_settled s (owner s.config p) ≡ true
    → ((i : ℕ) × CallPath (wiring_of (with_target s.config p (Some (record { node = n; provide = x })))) i i) → denial s (Link p n x) ≡ Some 23
link_that_closes s p n x live unlinked provision settled w =
    let after = with_target s.config p (Some (record { node = n; provide = x })) in
    let third : ℕ × Bool = (21, has_provision s.config n x) in
    let fourth : ℕ × Bool = (22, is_settled s (owner s.config p)) in
    let fifth : ℕ × Bool = (23, has_no_cycle after) in
    passes 1 (is_live_port s.config p) ((20, not (is_linked s.config p)) ∷ third ∷ fourth ∷ fifth ∷ []) live
    ∙ passes 20 (not (is_linked s.config p)) (third ∷ fourth ∷ fifth ∷ []) unlinked
    ∙ passes 21 (has_provision s.config n x) (fourth ∷ fifth ∷ []) provision
    ∙ passes 22 (is_settled s (owner s.config p)) (fifth ∷ []) settled
    ∙ ap (λ c. cond {A = Option ℕ} c None (Some 23)) ((cycles_are_closed_walks after).1 w)

pub allowed_link : (s : State) (p n x : ℕ) → denial s (Link p n x) ≡ None → HasNoCycle (wiring_of (with_target s.config p (Some (record { node = n; provide = x }))))
allowed_link s p n x h = (cycles_are_found (with_target s.config p (Some (record { node = n; provide = x })))).0 (legal s (Link p n x) h).no_cycle

pub ranked_without_walks : (c : Configuration) → HasNoCycle (wiring_of c) ↔ Ranks (MayCall (wiring_of c))
ranked_without_walks c = (λ acyclic. ranked_if_no_cycle c (no_cycle_if_acyclic c acyclic), acyclic_if_ranked (MayCall (wiring_of c)))
