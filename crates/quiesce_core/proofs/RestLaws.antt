-- The events of a transaction, where there is no cycle, and sums and products that stand still at a greatest number.
use Rattle.std.proofs.Common.{◌≡◌, ℕ, zero, suc, ◌+◌, ◌-◌, ◌*◌, ◌^◌, ◌<◌, ◌≤◌, min, max, Bool, true, false, cond, List, [], ◌∷◌, length, get_or, set, replicate, Option, Some, None, refl, sym, ap, ◌∙◌, subst, ⊎_elim, arith, get_or-set_same, get_or-set_other}
use Rattle.std.proofs.lemmas.List.Sums.{sum_by-cons}
use Rattle.std.proofs.Math.Nat.{mul_comm, zero-mul, suc-mul}
use Rattle.std.specs.Prelude.{filter, sum_by}
use Rattle.std.specs.List.{range_with_len}
use Rattle.std.specs.Option.{option_map_or}
use Rattle.std.proofs.lemmas.Bool.{both_ways, cases_Bool, cases_eq, cases_lt, false_from_ne_true}
use Rattle.config_graph.specs.Kinds.{row}
use Rattle.config_graph.specs.declared.node.Target.{Target}
use Rattle.quiesce_core.specs.declared.state.Slot.{Slot}
use Rattle.quiesce_core.specs.State.{Configuration, slot, target, depends, calls_allowed, mores_allowed}
use Rattle.quiesce_core.specs.Reach.{IsPortOf, can_walk, has_no_cycle}
use Rattle.quiesce_core.specs.Rest.{greatest, full_within, full, call_events, events_through}
use Rattle.quiesce_core.specs.Counted.{capped, events_within, AreCounted}
use Rattle.quiesce_core.specs.WellFormed.{LeadsToProvision}
use Rattle.quiesce_core.proofs.CycleLaws.{walk_to, no_walk}
use Rattle.base.proofs.OptionLaws.{map_or_true, map_or_at}
use Rattle.config_graph.proofs.KindLaws.{one_provision}

greatest_agree : (f g : ℕ → ℕ) (test : ℕ → Bool) (a n : ℕ) → ((p : ℕ) → a ≤ p → p < a + n → test p ≡ true → f p ≡ g p)
    → greatest f (filter test (range_with_len a n)) ≡ greatest g (filter test (range_with_len a n))
greatest_agree f g test a zero h = refl
greatest_agree f g test a (suc n) h =
    let later : greatest f (filter test (range_with_len (a + 1) n)) ≡ greatest g (filter test (range_with_len (a + 1) n)) =
    greatest_agree f g test (a + 1) n (λ p l u e. h p (omega arith) (omega arith) e) in
    ⊎_elim
    (λ (e : test a ≡ true).
    ap (λ b. greatest f (cond b (a ∷ filter test (range_with_len (a + 1) n)) (filter test (range_with_len (a + 1) n)))) e
    ∙ ap (λ x. max x (greatest f (filter test (range_with_len (a + 1) n)))) (h a (omega arith) (omega arith) e)
    ∙ ap (λ x. max (g a) x) later
    ∙ sym (ap (λ b. greatest g (cond b (a ∷ filter test (range_with_len (a + 1) n)) (filter test (range_with_len (a + 1) n)))) e))
    (λ (e : test a ≡ false).
    ap (λ b. greatest f (cond b (a ∷ filter test (range_with_len (a + 1) n)) (filter test (range_with_len (a + 1) n)))) e
    ∙ later
    ∙ sym (ap (λ b. greatest g (cond b (a ∷ filter test (range_with_len (a + 1) n)) (filter test (range_with_len (a + 1) n)))) e))
    (cases_Bool (test a))

greatest_at : (c : Configuration) (n : ℕ) (f g : ℕ → ℕ) (test : ℕ → Bool) (o : Option Slot) → slot c n ≡ o → ((p : ℕ) → IsPortOf c n p → test p ≡ true → f p ≡ g p)
    → greatest f (filter test (option_map_or (λ (m : Slot). range_with_len m.first_port (length (row m.node.kind).requires_)) o []))
    ≡ greatest g (filter test (option_map_or (λ (m : Slot). range_with_len m.first_port (length (row m.node.kind).requires_)) o []))
greatest_at c n f g test None e h = refl
greatest_at c n f g test (Some m) e h =
    greatest_agree f g test m.first_port (length (row m.node.kind).requires_) (λ p l u t. h p (record { node = m; made = e; from = l; below = u }) t)

through_within : Configuration → ℕ → ℕ → ℕ
through_within c k p = 1 + option_map_or (λ (t : Target). full_within c k t.node t.provide) (target c p) 0

through_settles : (c : Configuration) (k d m x p : ℕ) → IsPortOf c m p → depends c m x p ≡ true → can_walk c (suc d) m ≡ false
    → ((t : Target) → can_walk c d t.node ≡ false → full_within c k t.node t.provide ≡ full_within c (suc k) t.node t.provide) → (o : Option Target) → target c p ≡ o
    → option_map_or (λ (t : Target). full_within c k t.node t.provide) o 0 ≡ option_map_or (λ (t : Target). full_within c (suc k) t.node t.provide) o 0
through_settles c k d m x p owned dep h next None e = refl
through_settles c k d m x p owned dep h next (Some t) e = next t (false_from_ne_true (can_walk c d t.node) (λ walks.
    both_ways (can_walk c (suc d) m) h
    (walk_to c d m t.node (record { port = p; serves = x; provide = t.provide; depends = (owned, dep); linked = e }) walks)))

-- where no longer walk is possible, nothing comes from looking further
settles : (c : Configuration) (k d m x : ℕ) → can_walk c d m ≡ false → d ≤ k → full_within c k m x ≡ full_within c (suc k) m x
unfolding through_within
settles c k zero m x h l = absurd (both_ways true h refl)
settles c zero (suc d) m x h l = absurd (omega arith)
settles c (suc k) (suc d) m x h l =
    ap (λ e. 3 + 3 * mores_allowed c m x + calls_allowed c m x * e)
    (greatest_at c m (through_within c k) (through_within c (suc k)) (depends c m x) (slot c m) refl (λ p owned dep.
    ap (λ e. 1 + e) (through_settles c k d m x p owned dep h (λ t w. settles c k d t.node t.provide w (omega arith)) (target c p) refl)))

-- the events of a transaction: three, those of its intermediate replies, and those of its calls
pub full_step : (c : Configuration) → has_no_cycle c ≡ true → (m x : ℕ) → full c m x ≡ 3 + 3 * mores_allowed c m x + calls_allowed c m x * call_events c m x
unfolding full
full_step c h m x = settles c (suc (length c.slots)) (suc (length c.slots)) m x (no_walk c h m) (omega arith)

-- capped numbers

pub greatest_after : (f : ℕ → ℕ) (most v i e b : ℕ) → i < e → v ≡ capped (f i) → max most (capped (greatest f (range_with_len i (e - i)))) ≡ b
    → max (max v most) (capped (greatest f (range_with_len (i + 1) (e - (i + 1))))) ≡ b
greatest_after f most v i e b l is h =
    let size : e - i ≡ suc (e - (i + 1)) = omega arith in
    let before : max most (capped (max (f i) (greatest f (range_with_len (i + 1) (e - (i + 1)))))) ≡ b =
    sym (ap (λ k. max most (capped (greatest f (range_with_len i k)))) size) ∙ h in
    after most v (f i) (greatest f (range_with_len (i + 1) (e - (i + 1)))) b is before
  where
    after : (most v x rest b : ℕ) → v ≡ capped x → max most (capped (max x rest)) ≡ b → max (max v most) (capped rest) ≡ b
    after most v x rest b is h = omega arith

pub greatest_done : (f : ℕ → ℕ) (most i e b : ℕ) → e ≤ i → max most (capped (greatest f (range_with_len i (e - i)))) ≡ b → most ≡ b
greatest_done f most i e b l h =
    let none_ : e - i ≡ 0 = omega arith in
    let before : max most (capped 0) ≡ b = sym (ap (λ k. max most (capped (greatest f (range_with_len i k)))) none_) ∙ h in
    omega arith

-- the events of one call of a port on which the provision depends, linked and unlinked
pub within_linked : (c : Configuration) (t next : Target) (p e v : ℕ) → depends c t.node t.provide p ≡ true → target c p ≡ Some next → e ≡ capped (full c next.node next.provide) → v ≡ min (e + 1) (2 ^ 128 - 1)
    → v ≡ capped (events_within c t p)
within_linked c t next p e v dep leads is adds =
    let through : events_within c t p ≡ 1 + full c next.node next.provide =
    ap (λ d. cond d (events_through c p) 0) dep ∙ ap (λ o. 1 + option_map_or (λ (u : Target). full c u.node u.provide) o 0) leads in
    after e v (full c next.node next.provide) (events_within c t p) is adds through
  where
    after : (e v x w : ℕ) → e ≡ capped x → v ≡ min (e + 1) (2 ^ 128 - 1) → w ≡ 1 + x → v ≡ capped w
    after e v x w is adds through = omega arith

pub within_unlinked : (c : Configuration) (t : Target) (p : ℕ) → depends c t.node t.provide p ≡ true → target c p ≡ None → 1 ≡ capped (events_within c t p)
within_unlinked c t p dep leads =
    ap (λ n. capped n) (sym (ap (λ d. cond d (events_through c p) 0) dep ∙ ap (λ o. 1 + option_map_or (λ (u : Target). full c u.node u.provide) o 0) leads))

more_than : (a e m : ℕ) → m ≤ e → m ≤ suc a * e
more_than a e m h = rw suc-mul (omega arith)

pub capped_mul : (a e m : ℕ) → min (a * min e m) m ≡ min (a * e) m
capped_mul zero e m = rw (zero-mul, zero-mul) refl
capped_mul (suc a) e m = ⊎_elim
    (λ (low : e < m). let same : min e m ≡ e = omega arith in rw same refl)
    (λ (high : m ≤ e).
    let same : min e m ≡ m = omega arith in
    rw same (omega (arith, more_than a m m (omega arith), more_than a e m high)))
    (cases_lt e m)

pub capped_full : (a e r : ℕ) → min (min (min e (2 ^ 128 - 1) * a) (2 ^ 128 - 1) + r) (2 ^ 128 - 1) ≡ capped (r + a * e)
capped_full a e r = parts a e r (2 ^ 128 - 1)
  where
    parts : (a e r m : ℕ) → min (min (min e m * a) m + r) m ≡ min (r + a * e) m
    parts a e r m =
        let swapped : min e m * a ≡ a * min e m = mul_comm (min e m) a in
        rw swapped (omega (arith, capped_mul a e m))

-- the provision to which a port is linked is its target's first
pub first_provision : (c : Configuration) (t : Target) → LeadsToProvision c t → t.provide ≡ 0
first_provision c t l =
    let m = map_or_true (λ (m : Slot). m.live) (slot c t.node) l.live in
    let inside : t.provide < length (row m.0.node.kind).provides =
    subst (λ i. t.provide < i) (map_or_at (λ (m : Slot). length (row m.node.kind).provides) (slot c t.node) 0 m.0 m.1) l.provided in
    omega (arith, inside, one_provision m.0.node.kind)

-- one node more is counted
pub counted_more : (c : Configuration) (t : Target) (v : ℕ) (known : List (Option ℕ)) → LeadsToProvision c t → t.node < length known → v ≡ capped (full c t.node t.provide) → AreCounted c known
    → AreCounted c (set known t.node (Some v))
counted_more c t v known l h e old n w f = ⊎_elim
    (λ (same : n ≡ t.node).
    let now : ◌≡◌ {A = Option ℕ} (Some v) (Some w) = sym (get_or-set_same known t.node (Some v) None h) ∙ sym (ap (λ i. get_or (set known t.node (Some v)) i None) same) ∙ f in
    let one : v ≡ w = cc in
    sym one ∙ e ∙ ap (λ x. capped (full c t.node x)) (first_provision c t l) ∙ sym (ap (λ i. capped (full c i 0)) same))
    (λ (other : n ≡ t.node → ⊥). old n w (sym (get_or-set_other known t.node n (Some v) None other) ∙ f))
    (cases_eq n t.node)

pub none_counted : (c : Configuration) (k : ℕ) → AreCounted c (replicate k None)
none_counted c k n v h = absurd (none_there k n v h)
  where
    none_there : (k n v : ℕ) → get_or (replicate k None) n None ≡ Some v → ⊥
    none_there zero n v h = cc
    none_there (suc k) zero v h = cc
    none_there (suc k) (suc n) v h = none_there k n v h

-- one more summand, each of them capped
pub sum_after : (f : ℕ → ℕ) (total v next i e b : ℕ) → i < e → v ≡ capped (f i) → next ≡ min (total + v) (2 ^ 128 - 1) → capped (total + sum_by f (range_with_len i (e - i))) ≡ b
    → capped (next + sum_by f (range_with_len (i + 1) (e - (i + 1)))) ≡ b
sum_after f total v next i e b l is adds h =
    let size : e - i ≡ suc (e - (i + 1)) = omega arith in
    let before : capped (total + (f i + sum_by f (range_with_len (i + 1) (e - (i + 1))))) ≡ b = sym (ap (λ n. capped (total + n)) (sum_by-cons f i (range_with_len (i + 1) (e - (i + 1))))) ∙ sym (ap (λ k. capped (total + sum_by f (range_with_len i k))) size) ∙ h in
    after total v next (f i) (sum_by f (range_with_len (i + 1) (e - (i + 1)))) b is adds before
  where
    after : (total v next x rest b : ℕ) → v ≡ capped x → next ≡ min (total + v) (2 ^ 128 - 1) → capped (total + (x + rest)) ≡ b → capped (next + rest) ≡ b
    after total v next x rest b is adds h = omega arith

pub sum_done : (f : ℕ → ℕ) (total i e b : ℕ) → e ≤ i → total ≤ 2 ^ 128 - 1 → capped (total + sum_by f (range_with_len i (e - i))) ≡ b → total ≡ b
sum_done f total i e b l fits h =
    let none_ : e - i ≡ 0 = omega arith in
    let before : capped (total + 0) ≡ b = sym (ap (λ k. capped (total + sum_by f (range_with_len i k))) none_) ∙ h in
    omega arith
