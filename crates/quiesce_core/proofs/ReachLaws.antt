-- Which ports reach a node, where there is no cycle, and whether a new link closes one.
use Rattle.std.proofs.Common.{◌≡◌, ℕ, zero, suc, ◌+◌, ◌-◌, ◌<◌, ◌≤◌, Bool, true, false, cond, not, ◌&&◌, ◌||◌, List, length, Option, Some, None, get_or, set, replicate, sub-one, add-one, refl, sym, ap, ◌∙◌, subst, ⊎_elim, arith, get_or-set_same, get_or-set_other}
use Rattle.std.specs.Prelude.{◌==◌}
use Rattle.std.specs.List.{list_any, list_all, range_with_len}
use Rattle.std.specs.Option.{option_map_or}
use Rattle.std.proofs.lemmas.Bool.{and_parts, and_from, and_cases, both_ways, cases_Bool, cases_eq, false_from_ne_true, or_cases, or_left, or_right, eqb-true, eq-eqb, not_from_true, not_from_false}
use Rattle.config_graph.specs.Kinds.{row, depends_on, is_depended_on}
use Rattle.config_graph.specs.Walks.{Ranks}
use Rattle.config_graph.specs.Wiring.{MayCall}
use Rattle.config_graph.specs.declared.node.Target.{Target}
use Rattle.quiesce_core.specs.declared.state.Slot.{Slot}
use Rattle.quiesce_core.specs.declared.state.Gate.{Gate}
use Rattle.quiesce_core.specs.State.{Configuration, State, fresh_gate, slot, gate, owner, target, ports_of, depends, is_depended}
use Rattle.quiesce_core.specs.Reach.{IsPortOf, wiring_of, can_walk, has_no_cycle, reaches_within, reaches}
use Rattle.quiesce_core.specs.Searched.{AreKnown, reaches_from, leads_up}
use Rattle.quiesce_core.specs.Effect.{with_gate, with_target}
use Rattle.quiesce_core.specs.WellFormed.{IsSound}
use Rattle.quiesce_core.specs.Rules.{is_quiet}
use Rattle.config_graph.proofs.KindLaws.{depended_by_first, one_provision}
use Rattle.base.proofs.RangeLaws.{all_in_range, range_all}
use Rattle.quiesce_core.proofs.CycleLaws.{any_of, of_any, agree_of, call_by, depended_by, walk_to, no_walk, no_cycle_if_ranked, ranked_if_no_cycle}
use Rattle.base.proofs.OptionLaws.{map_or_true, map_or_at}

abbrev reach_test : Configuration → ℕ → ℕ → Target → ℕ → Bool
reach_test c n k t q = depends c t.node t.provide q && reaches_within c n k q

abbrev reach_from : Configuration → ℕ → ℕ → Target → Bool
reach_from c n k t = t.node == n || list_any (reach_test c n k t) (ports_of c t.node)

-- Where no longer walk is possible, no longer way makes a port reach the node.
stable : (c : Configuration) (n k d p : ℕ) (o : Option Target) → target c p ≡ o → ((t : Target) → o ≡ Some t → can_walk c d t.node ≡ false) → d ≤ k
    → reaches_within c n k p ≡ reaches_within c n (suc k) p
stable c n zero d p None e h l = sym (ap (λ o. option_map_or (reach_from c n zero) o false) e)
stable c n (suc k) d p None e h l = ap (λ o. option_map_or (reach_from c n k) o false) e ∙ sym (ap (λ o. option_map_or (reach_from c n (suc k)) o false) e)
stable c n zero zero p (Some t) e h l = absurd (both_ways true (h t refl) refl)
stable c n zero (suc d) p (Some t) e h l = absurd (omega arith)
stable c n (suc k) zero p (Some t) e h l = absurd (both_ways true (h t refl) refl)
stable c n (suc k) (suc d) p (Some t) e h l =
    ap (λ o. option_map_or (reach_from c n k) o false) e
    ∙ ap (λ b. t.node == n || b) (agree_of c t.node (reach_test c n k t) (reach_test c n (suc k) t) (λ q owned. ⊎_elim
    (λ (yes_ : depends c t.node t.provide q ≡ true).
    ap (λ b. depends c t.node t.provide q && b) (stable c n k d q (target c q) refl (λ u f. false_from_ne_true (can_walk c d u.node) (λ walks.
    both_ways (can_walk c (suc d) t.node) (h t refl)
    (walk_to c d t.node u.node (record { port = q; serves = t.provide; provide = u.provide; depends = (owned, yes_); linked = f }) walks))) (omega arith)))
    (λ (no_ : depends c t.node t.provide q ≡ false). rw (no_) refl)
    (cases_Bool (depends c t.node t.provide q))))
    ∙ sym (ap (λ o. option_map_or (reach_from c n (suc k)) o false) e)

-- A port reaches the node where it is linked to it, or to a provision that depends on a port that does.
pub reaches_step : (c : Configuration) → has_no_cycle c ≡ true → (n p : ℕ) → reaches c n p ≡ option_map_or (reaches_from c n) (target c p) false
unfolding reaches
reaches_step c h n p =
    stable c n (suc (length c.slots)) (suc (length c.slots)) p (target c p) refl (λ t e. no_walk c h t.node) (omega arith)

-- node m leads to n, in any number of steps
pub data LeadsTo (c : Configuration) (n : ℕ) : ℕ → Type 0 where
  here : LeadsTo c n n
  step : {k m : ℕ} → MayCall (wiring_of c) k m → LeadsTo c n m → LeadsTo c n k

abbrev up_test : Configuration → ℕ → ℕ → ℕ → Bool
up_test c n m q = is_depended c m q && reaches c n q

-- a port whose target leads to n
record Led (c : Configuration) (n q : ℕ) : Type 0 where
  to : Target
  links : target c q ≡ Some to
  leads : LeadsTo c n to.node

within_leads : (c : Configuration) (n k q : ℕ) → reaches_within c n k q ≡ true → Led c n q
within_leads c n zero q h = absurd (both_ways false refl h)
within_leads c n (suc k) q h =
    let t = map_or_true (reach_from c n k) (target c q) h in
    record {
      to = t.0;
      links = t.1;
      leads = ⊎_elim
          (λ (same : (t.0.node == n) ≡ true). subst (λ i. LeadsTo c n i) (sym (eqb-true t.0.node n same)) here)
          (λ (on : list_any (reach_test c n k t.0) (ports_of c t.0.node) ≡ true).
          let w = any_of c t.0.node (reach_test c n k t.0) on in
          let both = and_parts (depends c t.0.node t.0.provide w.port) (reaches_within c n k w.port) w.passes in
          let led = within_leads c n k w.port both.1 in
          step (record { port = w.port; serves = t.0.provide; provide = led.to.provide; depends = (w.owned, both.0); linked = led.links }) led.leads)
          (or_cases (t.0.node == n) (list_any (reach_test c n k t.0) (ports_of c t.0.node)) t.2);
    }

pub leads_if_up : (c : Configuration) (n m : ℕ) → leads_up c n m ≡ true → LeadsTo c n m
unfolding reaches
leads_if_up c n m h = ⊎_elim
    (λ (same : (m == n) ≡ true). subst (λ i. LeadsTo c n i) (sym (eqb-true m n same)) here)
    (λ (on : list_any (up_test c n m) (ports_of c m) ≡ true).
    let w = any_of c m (up_test c n m) on in
    let both = and_parts (is_depended c m w.port) (reaches c n w.port) w.passes in
    let led = within_leads c n (suc (length c.slots)) w.port both.1 in
    step (call_by c m led.to.node w.port led.to.provide w.owned both.0 led.links) led.leads)
    (or_cases (m == n) (list_any (up_test c n m) (ports_of c m)) h)

-- the provision to which a port is linked is its target's first, which depends on all that some provision of it depends on
depends_there : (c : Configuration) → IsSound c → (p q : ℕ) (t : Target) → target c p ≡ Some t → is_depended c t.node q ≡ true → depends c t.node t.provide q ≡ true
depends_there c sound p q t e h =
    let m = map_or_true (λ (m : Slot). is_depended_on m.node.kind (gate c q).require) (slot c t.node) h in
    let inside : t.provide < length (row m.0.node.kind).provides =
    subst (λ i. t.provide < i) (map_or_at (λ (m : Slot). length (row m.node.kind).provides) (slot c t.node) 0 m.0 m.1) ((sound.targets p t e).provided) in
    let first : t.provide ≡ 0 = omega (arith, inside, one_provision m.0.node.kind) in
    map_or_at (λ (m : Slot). depends_on m.node.kind t.provide (gate c q).require) (slot c t.node) false m.0 m.1
    ∙ ap (λ i. depends_on m.0.node.kind i (gate c q).require) first ∙ sym (depended_by_first m.0.node.kind (gate c q).require) ∙ m.2

pub up_if_leads : (c : Configuration) → IsSound c → (n m : ℕ) → LeadsTo c n m → leads_up c n m ≡ true
up_if_leads c sound n _ here = or_left (n == n) (list_any (up_test c n n) (ports_of c n)) (eq-eqb n n refl)
up_if_leads c sound n _ (step {k} {m} l rest) =
    let t : Target = record { node = m; provide = l.provide } in
    let later : leads_up c n m ≡ true = up_if_leads c sound n m rest in
    let on : reaches_from c n t ≡ true = ⊎_elim
    (λ (same : (m == n) ≡ true). or_left (m == n) (list_any (λ q. depends c m l.provide q && reaches c n q) (ports_of c m)) same)
    (λ (some_ : list_any (up_test c n m) (ports_of c m) ≡ true).
    let w = any_of c m (up_test c n m) some_ in
    let both = and_parts (is_depended c m w.port) (reaches c n w.port) w.passes in
    or_right (m == n) (list_any (λ q. depends c m l.provide q && reaches c n q) (ports_of c m))
    (of_any c m (λ q. depends c m l.provide q && reaches c n q) w.port w.owned
    (and_from (depends c m l.provide w.port) (reaches c n w.port) (depends_there c sound l.port w.port t l.linked both.0) both.1)))
    (or_cases (m == n) (list_any (up_test c n m) (ports_of c m)) later) in
    let reached : reaches c n l.port ≡ true =
    reaches_step c sound.no_cycle n l.port ∙ map_or_at (reaches_from c n) (target c l.port) false t l.linked ∙ on in
    or_right (k == n) (list_any (up_test c n k) (ports_of c k))
    (of_any c k (up_test c n k) l.port l.depends.0 (and_from (is_depended c k l.port) (reaches c n l.port) (depended_by c k m l) reached))

-- a new link

gate_there : (c : Configuration) (p : ℕ) (g : Gate) → p < length c.gates → gate (with_gate c p g) p ≡ g
gate_there c p g h = get_or-set_same c.gates p g fresh_gate h

gate_elsewhere : (c : Configuration) (p q : ℕ) (g : Gate) → (q ≡ p → ⊥) → gate (with_gate c p g) q ≡ gate c q
gate_elsewhere c p q g ne = get_or-set_other c.gates p q g fresh_gate ne

-- a port in the row of a node is its own
pub owner_of : (c : Configuration) → IsSound c → (n p : ℕ) → IsPortOf c n p → owner c p ≡ n
owner_of c sound n p o =
    let at : o.node.first_port + (p - o.node.first_port) ≡ p = omega (arith, o.from) in
    let within : p - o.node.first_port < length (row o.node.node.kind).requires_ = omega (arith, o.from, o.below) in
    sym (ap (λ i. owner c i) at) ∙ (sound.rows n o.node o.made).owned (p - o.node.first_port) within

-- two targets that are one are at one node
some_node : {t : Target} {m x : ℕ} → ◌≡◌ {A = Option Target} (Some t) (Some (record { node = m; provide = x })) → t.node ≡ m
some_node {t} {m} {x} e = ap (λ o. option_map_or (λ (u : Target). u.node) o 0) e

-- the port of a link that is made, or made again
module _ (c : Configuration) (sound : IsSound c) (p : ℕ) (t : Target) (made : p < length c.gates) where
  there : gate (with_target c p (Some t)) p ≡ record (gate c p) { target = Some t }
  there = gate_there c p (record (gate c p) { target = Some t }) made

  elsewhere : (q : ℕ) → (q ≡ p → ⊥) → gate (with_target c p (Some t)) q ≡ gate c q
  elsewhere q ne = gate_elsewhere c p q (record (gate c p) { target = Some t }) ne

  depended_there : (n : ℕ) → is_depended (with_target c p (Some t)) n p ≡ is_depended c n p
  depended_there n = ap (λ (g : Gate). option_map_or (λ (m : Slot). is_depended_on m.node.kind g.require) (slot c n) false) there

  depends_elsewhere : (n x q : ℕ) → (q ≡ p → ⊥) → depends (with_target c p (Some t)) n x q ≡ depends c n x q
  depends_elsewhere n x q ne = ap (λ (g : Gate). option_map_or (λ (m : Slot). depends_on m.node.kind x g.require) (slot c n) false) (elsewhere q ne)

  owned_as : (n q : ℕ) → IsPortOf (with_target c p (Some t)) n q → IsPortOf c n q
  owned_as n q o = record { node = o.node; made = o.made; from = o.from; below = o.below }

  was : (n m : ℕ) (l : MayCall (wiring_of (with_target c p (Some t))) n m) → (l.port ≡ p → ⊥) → MayCall (wiring_of c) n m
  was n m l ne = record {
    port = l.port;
    serves = l.serves;
    provide = l.provide;
    depends = (owned_as n l.port l.depends.0, sym (depends_elsewhere n l.serves l.port ne) ∙ l.depends.1);
    linked = sym (ap (λ (g : Gate). g.target) (elsewhere l.port ne)) ∙ l.linked;
  }

  stays : (n m : ℕ) (l : MayCall (wiring_of c) n m) → (l.port ≡ p → ⊥) → MayCall (wiring_of (with_target c p (Some t))) n m
  stays n m l ne =
      let o = l.depends.0 in record {
        port = l.port;
        serves = l.serves;
        provide = l.provide;
        depends = (record { node = o.node; made = o.made; from = o.from; below = o.below }, depends_elsewhere n l.serves l.port ne ∙ l.depends.1);
        linked = ap (λ (g : Gate). g.target) (elsewhere l.port ne) ∙ l.linked;
      }

  new_lead : is_depended c (owner c p) p ≡ true → MayCall (wiring_of (with_target c p (Some t))) (owner c p) t.node
  new_lead h =
      let o = sound.ports p made in
      call_by (with_target c p (Some t)) (owner c p) t.node p t.provide (record { node = o.node; made = o.made; from = o.from; below = o.below })
      (depended_there (owner c p) ∙ h) (ap (λ (g : Gate). g.target) there)

  climbs : (ranked : Ranks (MayCall (wiring_of (with_target c p (Some t))))) (m : ℕ) → LeadsTo c (owner c p) m → ranked.rank (owner c p) ≤ ranked.rank m
  climbs ranked _ here = omega arith
  climbs ranked _ (step {k} {m} l rest) = ⊎_elim
      (λ (same : k ≡ owner c p). subst (λ i. ranked.rank (owner c p) ≤ ranked.rank i) (sym same) (omega arith))
      (λ (other : k ≡ owner c p → ⊥).
      let ne : l.port ≡ p → ⊥ = λ e. other (sym (owner_of c sound k l.port l.depends.0) ∙ ap (λ i. owner c i) e) in
      let up : ranked.rank (owner c p) ≤ ranked.rank m = climbs ranked m rest in
      omega (arith, ranked.falls k m (stays k m l ne)))
      (cases_eq k (owner c p))

  closed_cycle : is_depended c (owner c p) p ≡ true → leads_up c (owner c p) t.node ≡ true → has_no_cycle (with_target c p (Some t)) ≡ false
  closed_cycle dep up = false_from_ne_true (has_no_cycle (with_target c p (Some t))) (λ h.
      let ranked = ranked_if_no_cycle (with_target c p (Some t)) h in
      let above : ranked.rank (owner c p) ≤ ranked.rank t.node = climbs ranked t.node (leads_if_up c (owner c p) t.node up) in
      omega (arith, ranked.falls (owner c p) t.node (new_lead dep)))

  lift : Ranks (MayCall (wiring_of c)) → ℕ → ℕ
  lift ranked m = cond (leads_up c (owner c p) m) (suc (ranked.rank t.node)) 0

  lift_up : (ranked : Ranks (MayCall (wiring_of c))) (m : ℕ) → leads_up c (owner c p) m ≡ true → lift ranked m ≡ suc (ranked.rank t.node)
  unfolding lift
  lift_up ranked m h = rw h refl

  lift_no : (ranked : Ranks (MayCall (wiring_of c))) (m : ℕ) → leads_up c (owner c p) m ≡ false → lift ranked m ≡ 0
  unfolding lift
  lift_no ranked m h = rw h refl

  -- the nodes that lead to the port's owner are lifted over the one to which it is linked now
  lifted : (is_depended c (owner c p) p && leads_up c (owner c p) t.node) ≡ false → Ranks (MayCall (wiring_of (with_target c p (Some t))))
  lifted apart =
      let ranked = ranked_if_no_cycle c sound.no_cycle in record {
        rank = λ m. ranked.rank m + lift ranked m;
        falls = λ n m l. ⊎_elim
            (λ (same : l.port ≡ p).
            let mine : owner c p ≡ n = sym (ap (λ i. owner c i) same) ∙ owner_of c sound n l.port (owned_as n l.port l.depends.0) in
            let dep : is_depended c (owner c p) p ≡ true = ap (λ i. is_depended c i p) mine ∙ sym (depended_there n) ∙ sym (ap (λ i. is_depended (with_target c p (Some t)) n i) same) ∙ depended_by (with_target c p (Some t)) n m l in
            let to : t.node ≡ m =
            some_node (sym (ap (λ (g : Gate). g.target) there) ∙ sym (ap (λ i. target (with_target c p (Some t)) i) same) ∙ l.linked) in
            let no_up : leads_up c (owner c p) t.node ≡ false = ⊎_elim
            (λ (a : is_depended c (owner c p) p ≡ false). absurd (both_ways (is_depended c (owner c p) p) a dep)) (λ (b : leads_up c (owner c p) t.node ≡ false). b)
            (and_cases (is_depended c (owner c p) p) (leads_up c (owner c p) t.node) apart) in
            let low : lift ranked t.node ≡ 0 = lift_no ranked t.node no_up in
            let high : lift ranked (owner c p) ≡ suc (ranked.rank t.node) = lift_up ranked (owner c p) (up_if_leads c sound (owner c p) (owner c p) here) in
            let falls_ : ranked.rank t.node + lift ranked t.node < ranked.rank (owner c p) + lift ranked (owner c p) = omega (arith, low, high) in
            subst (λ i. ranked.rank i + lift ranked i < ranked.rank n + lift ranked n) to
            (subst (λ i. ranked.rank t.node + lift ranked t.node < ranked.rank i + lift ranked i) mine falls_))
            (λ (other : l.port ≡ p → ⊥).
            let old = was n m l other in
            let falls_ : ranked.rank m < ranked.rank n = ranked.falls n m old in ⊎_elim
            (λ (up : leads_up c (owner c p) m ≡ true).
            let above : leads_up c (owner c p) n ≡ true = up_if_leads c sound (owner c p) n (step old (leads_if_up c (owner c p) m up)) in
            omega (arith, lift_up ranked m up, lift_up ranked n above))
            (λ (no_up : leads_up c (owner c p) m ≡ false). omega (arith, lift_no ranked m no_up))
            (cases_Bool (leads_up c (owner c p) m)))
            (cases_eq l.port p);
      }

  -- A new link closes a cycle where a provision depends on its port and the node to which it leads leads to the port's owner.
  pub no_cycle-linked : has_no_cycle (with_target c p (Some t)) ≡ not (is_depended c (owner c p) p && leads_up c (owner c p) t.node)
  no_cycle-linked = ⊎_elim
      (λ (closes : (is_depended c (owner c p) p && leads_up c (owner c p) t.node) ≡ true).
      let both = and_parts (is_depended c (owner c p) p) (leads_up c (owner c p) t.node) closes in
      closed_cycle both.0 both.1 ∙ sym (not_from_true (is_depended c (owner c p) p && leads_up c (owner c p) t.node) closes))
      (λ (apart : (is_depended c (owner c p) p && leads_up c (owner c p) t.node) ≡ false).
      no_cycle_if_ranked (with_target c p (Some t)) (lifted apart) ∙ sym (not_from_false (is_depended c (owner c p) p && leads_up c (owner c p) t.node) apart))
      (cases_Bool (is_depended c (owner c p) p && leads_up c (owner c p) t.node))

pub reaches_none : (c : Configuration) → IsSound c → (n p : ℕ) → target c p ≡ None → reaches c n p ≡ false
reaches_none c sound n p e = reaches_step c sound.no_cycle n p ∙ ap (λ o. option_map_or (reaches_from c n) o false) e

pub reaches_some : (c : Configuration) → IsSound c → (n p : ℕ) (t : Target) → target c p ≡ Some t → reaches c n p ≡ reaches_from c n t
reaches_some c sound n p t e = reaches_step c sound.no_cycle n p ∙ ap (λ o. option_map_or (reaches_from c n) o false) e

-- one port more is known
pub known_more : (c : Configuration) (n p : ℕ) (b : Bool) (known : List (Option Bool)) → p < length known → reaches c n p ≡ b → AreKnown c n known → AreKnown c n (set known p (Some b))
known_more c n p b known h e old q d f = ⊎_elim
    (λ (same : q ≡ p).
    let now : ◌≡◌ {A = Option Bool} (Some b) (Some d) = sym (get_or-set_same known p (Some b) None h) ∙ sym (ap (λ i. get_or (set known p (Some b)) i None) same) ∙ f in
    ap (λ i. reaches c n i) same ∙ e ∙ cc)
    (λ (other : q ≡ p → ⊥). old q d (sym (get_or-set_other known p q (Some b) None other) ∙ f))
    (cases_eq q p)

-- the ports from one on have the answer, so those after it have it, where it doesn't pass
pub range_after : (test : ℕ → Bool) (i e : ℕ) (b : Bool) → i < e → test i ≡ false → list_any test (range_with_len i (e - i)) ≡ b → list_any test (range_with_len (i + 1) (e - (i + 1))) ≡ b
range_after test i e b l no_ h =
    let size : e - i ≡ suc (e - (i + 1)) = omega arith in
    sym (ap (λ a. a || list_any test (range_with_len (i + 1) (e - (i + 1)))) no_) ∙ sym (ap (λ k. list_any test (range_with_len i k)) size) ∙ h

pub range_at : (test : ℕ → Bool) (i e : ℕ) (b : Bool) → i < e → test i ≡ true → list_any test (range_with_len i (e - i)) ≡ b → b ≡ true
range_at test i e b l yes_ h =
    let size : e - i ≡ suc (e - (i + 1)) = omega arith in
    sym h ∙ ap (λ k. list_any test (range_with_len i k)) size ∙ ap (λ a. a || list_any test (range_with_len (i + 1) (e - (i + 1)))) yes_

pub range_all_after : (test : ℕ → Bool) (i e : ℕ) (b : Bool) → i < e → test i ≡ true → list_all test (range_with_len i (e - i)) ≡ b → list_all test (range_with_len (i + 1) (e - (i + 1))) ≡ b
range_all_after test i e b l yes_ h =
    let size : e - i ≡ suc (e - (i + 1)) = omega arith in
    sym (ap (λ a. a && list_all test (range_with_len (i + 1) (e - (i + 1)))) yes_) ∙ sym (ap (λ k. list_all test (range_with_len i k)) size) ∙ h

pub range_all_at : (test : ℕ → Bool) (i e : ℕ) (b : Bool) → i < e → test i ≡ false → list_all test (range_with_len i (e - i)) ≡ b → b ≡ false
range_all_at test i e b l no_ h =
    let size : e - i ≡ suc (e - (i + 1)) = omega arith in
    sym h ∙ ap (λ k. list_all test (range_with_len i k)) size ∙ ap (λ a. a && list_all test (range_with_len (i + 1) (e - (i + 1)))) no_

-- nothing is known at first, and no walk is longer than there are nodes
pub none_known : (c : Configuration) (n k : ℕ) → AreKnown c n (replicate k None)
none_known c n k q b h = absurd (none_there k q b h)
  where
    none_there : (k q : ℕ) (b : Bool) → get_or (replicate k None) q None ≡ Some b → ⊥
    none_there zero q b h = cc
    none_there (suc k) zero b h = cc
    none_there (suc k) (suc q) b h = none_there k q b h

pub no_walk_plus : (c : Configuration) → IsSound c → (n : ℕ) → can_walk c (length c.slots + 1) n ≡ false
no_walk_plus c sound n = rw add-one (no_walk c sound.no_cycle n)

-- where all ports are quiet, so is each that reaches a node
pub all_quiet : (s : State) (n k : ℕ) → list_all (λ p. is_quiet s p) (range_with_len 0 k) ≡ true → list_all (λ p. is_quiet s p || not (reaches s.config n p)) (range_with_len 0 k) ≡ true
all_quiet s n k h = range_all (λ p. is_quiet s p || not (reaches s.config n p)) 0 k (λ i l u. or_left (is_quiet s i) (not (reaches s.config n i)) (all_in_range (λ p. is_quiet s p) 0 k i h l u))

pub ruleset searched = (none_known, no_walk_plus, range_after, range_at, range_all_after, range_all_at)

-- a port on which the provision depends leads on to nodes from which there are fewer steps
pub fewer_steps : (c : Configuration) (d n x q : ℕ) (t : Target) → IsPortOf c n q → depends c n x q ≡ true → target c q ≡ Some t → can_walk c d n ≡ false → can_walk c (d - 1) t.node ≡ false
fewer_steps c zero n x q t o dep e h = absurd (both_ways true h refl)
fewer_steps c (suc d) n x q t o dep e h = rw sub-one (false_from_ne_true (can_walk c d t.node) (λ walks.
    both_ways (can_walk c (suc d) n) h
    (walk_to c d n t.node (record { port = q; serves = x; provide = t.provide; depends = (o, dep); linked = e }) walks)))

pub walks_zero : (c : Configuration) (d n : ℕ) → can_walk c d n ≡ false → 0 < d
walks_zero c zero n h = absurd (both_ways true h refl)
walks_zero c (suc d) n h = omega arith
