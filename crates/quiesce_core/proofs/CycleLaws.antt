-- Walks along links that a service may use, and ranks that fall along them.
use Rattle.std.proofs.Common.{◌≡◌, ℕ, zero, suc, ◌+◌, ◌<◌, ◌≤◌, Bool, true, false, eqb, not, ◌&&◌, List, [], length, Option, Some, None, refl, sym, ap, ◌∙◌, subst, ⊎_elim, arith}
use Rattle.std.specs.Prelude.{slice_get, ◌↔◌}
use Rattle.std.specs.List.{list_any, list_all, range_with_len}
use Rattle.std.specs.Option.{option_map_or}
use Rattle.std.proofs.lemmas.Bool.{and_parts, and_from, both_ways, cases_Bool, cases_lt, false_from_ne_true, eqb-true, eq-eqb, not-true, not_from_false, not-false}
use Rattle.std.proofs.lemmas.Option.{slice_get_cases}
use Rattle.config_graph.specs.Kinds.{row, depends_on, is_depended_on}
use Rattle.config_graph.specs.Walks.{Ranks}
use Rattle.config_graph.specs.Wiring.{CallPath, MayCall, HasNoCycle}
use Rattle.config_graph.specs.declared.node.Target.{Target}
use Rattle.quiesce_core.specs.declared.state.Slot.{Slot}
use Rattle.quiesce_core.specs.State.{Configuration, slot, gate, target, ports_of, depends, is_depended}
use Rattle.quiesce_core.specs.Reach.{IsPortOf, wiring_of, can_walk, has_no_cycle}
use Rattle.config_graph.proofs.KindLaws.{depended_by_first, depended_if}
use Rattle.config_graph.proofs.WalkLaws.{acyclic_if_ranked, closed_walk, ranked_if_short, short_if_acyclic}
use Rattle.base.proofs.OptionLaws.{map_or_true, map_or_at}
use Rattle.base.proofs.RangeLaws.{any_in_range, range_has, all_in_range, range_all, any_agree}

-- a node that is there was made
pub made_below : (c : Configuration) (n : ℕ) (m : Slot) → slot c n ≡ Some m → n < length c.slots
made_below c n m e = ⊎_elim
    (λ (w : (x : Slot) × (n < length c.slots) × (slice_get c.slots n ≡ Some x) × _). w.1)
    (λ (w : (length c.slots ≤ n) × (slice_get c.slots n ≡ None)). absurd (cc (w.1, e)))
    ((slice_get_cases c.slots n).1)

abbrev ports_in : Option Slot → List ℕ
ports_in o = option_map_or (λ (m : Slot). range_with_len m.first_port (length (row m.node.kind).requires_)) o []

-- a port of the node passes
pub record PassesOf (c : Configuration) (n : ℕ) (test : ℕ → Bool) : Type 0 where
  pub port : ℕ
  pub owned : IsPortOf c n port
  pub passes : test port ≡ true

any_in : (c : Configuration) (n : ℕ) (test : ℕ → Bool) (o : Option Slot) → slot c n ≡ o → list_any test (ports_in o) ≡ true → PassesOf c n test
any_in c n test None e h = absurd (both_ways false refl h)
any_in c n test (Some m) e h =
    let w = any_in_range test m.first_port (length (row m.node.kind).requires_) h in
    record { port = w.at; owned = record { node = m; made = e; from = w.from; below = w.below }; passes = w.passes }

pub any_of : (c : Configuration) (n : ℕ) (test : ℕ → Bool) → list_any test (ports_of c n) ≡ true → PassesOf c n test
any_of c n test h = any_in c n test (slot c n) refl h

pub of_any : (c : Configuration) (n : ℕ) (test : ℕ → Bool) (p : ℕ) → IsPortOf c n p → test p ≡ true → list_any test (ports_of c n) ≡ true
of_any c n test p owned h =
    ap (λ o. list_any test (ports_in o)) owned.made
    ∙ range_has test owned.node.first_port (length (row owned.node.node.kind).requires_) p owned.from owned.below h

agree_in : (c : Configuration) (n : ℕ) (f g : ℕ → Bool) (o : Option Slot) → slot c n ≡ o → ((p : ℕ) → IsPortOf c n p → f p ≡ g p) → list_any f (ports_in o) ≡ list_any g (ports_in o)
agree_in c n f g None e h = refl
agree_in c n f g (Some m) e h =
    any_agree f g m.first_port (length (row m.node.kind).requires_) (λ p l u. h p (record { node = m; made = e; from = l; below = u }))

-- tests that agree on the node's ports
pub agree_of : (c : Configuration) (n : ℕ) (f g : ℕ → Bool) → ((p : ℕ) → IsPortOf c n p → f p ≡ g p) → list_any f (ports_of c n) ≡ list_any g (ports_of c n)
agree_of c n f g h = agree_in c n f g (slot c n) refl h

-- what a provision of a node depends on, some provision of it depends on, and then its first does
pub depended_at : (c : Configuration) (n x p : ℕ) → depends c n x p ≡ true → is_depended c n p ≡ true
depended_at c n x p h =
    let m = map_or_true (λ (m : Slot). depends_on m.node.kind x (gate c p).require) (slot c n) h in
    map_or_at (λ (m : Slot). is_depended_on m.node.kind (gate c p).require) (slot c n) false m.0 m.1 ∙ depended_if m.0.node.kind x (gate c p).require m.2

first_depends : (c : Configuration) (n p : ℕ) → is_depended c n p ≡ true → depends c n 0 p ≡ true
first_depends c n p h =
    let m = map_or_true (λ (m : Slot). is_depended_on m.node.kind (gate c p).require) (slot c n) h in
    map_or_at (λ (m : Slot). depends_on m.node.kind 0 (gate c p).require) (slot c n) false m.0 m.1 ∙ sym (depended_by_first m.0.node.kind (gate c p).require) ∙ m.2

-- a call by a port on which some provision depends
pub call_by : (c : Configuration) (n m p x : ℕ) → IsPortOf c n p → is_depended c n p ≡ true → target c p ≡ Some (record { node = m; provide = x }) → MayCall (wiring_of c) n m
call_by c n m p x owned dep link = record { port = p; serves = 0; provide = x; depends = (owned, first_depends c n p dep); linked = link }

pub depended_by : (c : Configuration) (n m : ℕ) (l : MayCall (wiring_of c) n m) → is_depended c n l.port ≡ true
depended_by c n m l = depended_at c n l.serves l.port l.depends.1

abbrev walk_test : Configuration → ℕ → ℕ → ℕ → Bool
walk_test c k n p = is_depended c n p && option_map_or (λ (t : Target). can_walk c k t.node) (target c p) false

walk_from : (c : Configuration) (k n : ℕ) → can_walk c (suc k) n ≡ true → (m : ℕ) × MayCall (wiring_of c) n m × (can_walk c k m ≡ true)
walk_from c k n h =
    let w = any_of c n (walk_test c k n) h in
    let both = and_parts (is_depended c n w.port) (option_map_or (λ (t : Target). can_walk c k t.node) (target c w.port) false) w.passes in
    let t = map_or_true (λ (t : Target). can_walk c k t.node) (target c w.port) both.1 in
    (t.0.node, call_by c n t.0.node w.port t.0.provide w.owned both.0 t.1, t.2)

pub walk_to : (c : Configuration) (k n m : ℕ) → MayCall (wiring_of c) n m → can_walk c k m ≡ true → can_walk c (suc k) n ≡ true
walk_to c k n m l h =
    of_any c n (walk_test c k n) l.port l.depends.0
    (and_from (is_depended c n l.port) (option_map_or (λ (t : Target). can_walk c k t.node) (target c l.port) false) (depended_by c n m l)
    (map_or_at (λ (t : Target). can_walk c k t.node) (target c l.port) false (record { node = m; provide = l.provide }) l.linked ∙ h))

caller_made : (c : Configuration) (n m : ℕ) → MayCall (wiring_of c) n m → n < length c.slots
caller_made c n m l = made_below c n l.depends.0.node l.depends.0.made

-- the test finds a closed walk where there is one, and a rank where there is none
pub no_walk : (c : Configuration) → has_no_cycle c ≡ true → (n : ℕ) → can_walk c (suc (length c.slots)) n ≡ false
unfolding has_no_cycle
no_walk c h n = ⊎_elim
    (λ (made : n < length c.slots). not-true (can_walk c (suc (length c.slots)) n)
    (all_in_range (λ n. not (can_walk c (suc (length c.slots)) n)) 0 (length c.slots) n h (omega arith) (omega arith)))
    (λ (past : length c.slots ≤ n). false_from_ne_true (can_walk c (suc (length c.slots)) n)
    (λ walks. let w = walk_from c (length c.slots) n walks in absurd (omega (arith, caller_made c n w.0 w.1))))
    (cases_lt n (length c.slots))

pub ranked_if_no_cycle : (c : Configuration) → has_no_cycle c ≡ true → Ranks (MayCall (wiring_of c))
ranked_if_no_cycle c h =
    ranked_if_short (MayCall (wiring_of c)) (length c.slots) (caller_made c) (can_walk c) (λ i. refl) (walk_to c) (walk_from c) (no_walk c h)

pub no_cycle_if_acyclic : (c : Configuration) → HasNoCycle (wiring_of c) → has_no_cycle c ≡ true
unfolding has_no_cycle
no_cycle_if_acyclic c acyclic =
    range_all (λ n. not (can_walk c (suc (length c.slots)) n)) 0 (length c.slots)
    (λ n l u. not_from_false (can_walk c (suc (length c.slots)) n) (short_if_acyclic (MayCall (wiring_of c)) (length c.slots) (caller_made c) (can_walk c) (λ i. refl) (walk_to c) (walk_from c) acyclic n))

pub no_cycle_if_ranked : (c : Configuration) → Ranks (MayCall (wiring_of c)) → has_no_cycle c ≡ true
no_cycle_if_ranked c ranks = no_cycle_if_acyclic c (acyclic_if_ranked (MayCall (wiring_of c)) ranks)

pub cycles_are_found : (c : Configuration) → (has_no_cycle c ≡ true) ↔ HasNoCycle (wiring_of c)
cycles_are_found c = (λ h. acyclic_if_ranked (MayCall (wiring_of c)) (ranked_if_no_cycle c h), no_cycle_if_acyclic c)

-- a port in the range of the node's is the node's
pub port_in : (c : Configuration) (n a k q : ℕ) → range_with_len a k ≡ ports_of c n → a ≤ q → q < a + k → IsPortOf c n q
port_in c n a k q e l u =
    let w = any_of c n (λ i. eqb i q) (sym (ap (λ ps. list_any (λ i. eqb i q) ps) e) ∙ range_has (λ i. eqb i q) a k q l u (eq-eqb q q refl)) in
    subst (λ i. IsPortOf c n i) (eqb-true w.port q w.passes) w.owned

-- each port of a node passes
pub all_of : (c : Configuration) (n : ℕ) (test : ℕ → Bool) (p : ℕ) → list_all test (ports_of c n) ≡ true → IsPortOf c n p → test p ≡ true
all_of c n test p h o =
    all_in_range test o.node.first_port (length (row o.node.node.kind).requires_) p (sym (ap (λ x. list_all test (ports_in x)) o.made) ∙ h) o.from o.below

of_all_in : (c : Configuration) (n : ℕ) (test : ℕ → Bool) (o : Option Slot) → slot c n ≡ o → ((p : ℕ) → IsPortOf c n p → test p ≡ true) → list_all test (ports_in o) ≡ true
of_all_in c n test None e h = refl
of_all_in c n test (Some m) e h =
    range_all test m.first_port (length (row m.node.kind).requires_) (λ p l u. h p (record { node = m; made = e; from = l; below = u }))

pub of_all : (c : Configuration) (n : ℕ) (test : ℕ → Bool) → ((p : ℕ) → IsPortOf c n p → test p ≡ true) → list_all test (ports_of c n) ≡ true
of_all c n test h = of_all_in c n test (slot c n) refl h

-- where the test finds a cycle there is a closed walk
pub walk_found : (c : Configuration) → has_no_cycle c ≡ false → (n : ℕ) × CallPath (wiring_of c) n n
unfolding has_no_cycle
walk_found c h =
    let long = fails_in (λ n. not (can_walk c (suc (length c.slots)) n)) 0 (length c.slots) h in
    closed_walk (MayCall (wiring_of c)) (length c.slots) (caller_made c) (can_walk c) (λ i. refl) (walk_to c) (walk_from c) long.0
    (not-false (can_walk c (suc (length c.slots)) long.0) long.1)
  where
    fails_in : (test : ℕ → Bool) (a n : ℕ) → list_all test (range_with_len a n) ≡ false → (i : ℕ) × (test i ≡ false)
    fails_in test a zero h = absurd (both_ways true h refl)
    fails_in test a (suc n) h = ⊎_elim
        (λ (passes : test a ≡ true). fails_in test (a + 1) n (sym (ap (λ b. b && list_all test (range_with_len (a + 1) n)) passes) ∙ h))
        (λ (fails : test a ≡ false). (a, fails))
        (cases_Bool (test a))
