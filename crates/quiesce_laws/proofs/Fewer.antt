-- A configuration that has no link more than another: nothing leaves more there.
use Rattle.std.proofs.Common.{◌≡◌, ℕ, zero, suc, ◌+◌, ◌*◌, ◌<◌, ◌≤◌, max, Bool, true, false, cond, [], ◌∷◌, length, Option, Some, None, refl, sym, ap, ◌∙◌, subst, ⊎_elim, arith}
use Rattle.std.specs.Prelude.{filter}
use Rattle.std.specs.List.{range_with_len}
use Rattle.std.specs.Option.{option_map_or}
use Rattle.std.proofs.Math.Nat.{mul-le-mul_left}
use Rattle.std.proofs.lemmas.Bool.{both_ways, cases_Bool, false_from_ne_true}
use Rattle.config_graph.specs.Kinds.{row, calls_of, mores_of}
use Rattle.config_graph.specs.declared.node.Node.{Node}
use Rattle.config_graph.specs.declared.node.Target.{Target}
use Rattle.quiesce_core.specs.declared.state.Slot.{Slot}
use Rattle.quiesce_core.specs.State.{Configuration, slot, target, ports_of, depends, calls_allowed, mores_allowed}
use Rattle.quiesce_core.specs.Reach.{IsPortOf, can_walk, has_no_cycle}
use Rattle.quiesce_core.specs.Rest.{greatest, full, events_through, call_events}
use Rattle.quiesce_core.specs.WellFormed.{IsSound}
use Rattle.quiesce_core.proofs.CycleLaws.{walk_to, no_walk}
use Rattle.base.proofs.OptionLaws.{map_or_at}
use Rattle.quiesce_core.proofs.TableLaws.{live_made}
use Rattle.quiesce_core.proofs.RestLaws.{full_step}
use Rattle.quiesce_laws.specs.Configurations.{Extends}
use Rattle.quiesce_laws.proofs.ExtensionLaws.{depends_before, read_before}

-- d has the nodes and ports of c and, at a port through which a good provision goes, no link that c hasn't; and what is good leads to
-- what is good
pub record GoodLinks (c d : Configuration) (Good : ℕ → ℕ → Type 0) : Type 0 where
  pub extends_ : Extends c d
  pub targets : (m x p : ℕ) (t : Target) → Good m x → IsPortOf c m p → depends c m x p ≡ true → target d p ≡ Some t → target c p ≡ Some t
  pub closed : (m x p : ℕ) (t : Target) → Good m x → IsPortOf c m p → depends c m x p ≡ true → target c p ≡ Some t → Good t.node t.provide

pub calls_stay : (c d : Configuration) → Extends c d → (m x : ℕ) → m < length c.slots → calls_allowed d m x ≡ calls_allowed c m x
calls_stay c d e m x made = read_before c d e m made (λ (k : Slot). calls_of k.node.kind x) 0 (λ a b same first. ap (λ (n : Node). calls_of n.kind x) same)

pub mores_stay : (c d : Configuration) → Extends c d → (m x : ℕ) → m < length c.slots → mores_allowed d m x ≡ mores_allowed c m x
mores_stay c d e m x made = read_before c d e m made (λ (k : Slot). mores_of k.node.kind x) 0 (λ a b same first. ap (λ (n : Node). mores_of n.kind x) same)

rows_stay : (c d : Configuration) → Extends c d → (m : ℕ) → m < length c.slots → ports_of d m ≡ ports_of c m
rows_stay c d e m made =
    read_before c d e m made (λ (k : Slot). range_with_len k.first_port (length (row k.node.kind).requires_)) []
    (λ a b same first. ap (λ i. range_with_len i (length (row a.node.kind).requires_)) first ∙ ap (λ (n : Node). range_with_len b.first_port (length (row n.kind).requires_)) same)

max_le : (a b c d : ℕ) → a ≤ c → b ≤ d → max a b ≤ max c d
max_le a b c d h l = omega arith

greatest_le : (f g : ℕ → ℕ) (tf tg : ℕ → Bool) (a n : ℕ) → ((p : ℕ) → a ≤ p → p < a + n → tf p ≡ tg p) → ((p : ℕ) → a ≤ p → p < a + n → tg p ≡ true → f p ≤ g p)
    → greatest f (filter tf (range_with_len a n)) ≤ greatest g (filter tg (range_with_len a n))
greatest_le f g tf tg a zero same le = omega arith
greatest_le f g tf tg a (suc n) same le =
    let later : greatest f (filter tf (range_with_len (a + 1) n)) ≤ greatest g (filter tg (range_with_len (a + 1) n)) =
    greatest_le f g tf tg (a + 1) n (λ p l u. same p (omega arith) (omega arith)) (λ p l u. le p (omega arith) (omega arith)) in
    let here : tf a ≡ tg a = same a (omega arith) (omega arith) in
    ⊎_elim
    (λ (e : tg a ≡ true).
    let is = ap (λ b. greatest f (cond b (a ∷ filter tf (range_with_len (a + 1) n)) (filter tf (range_with_len (a + 1) n)))) (here ∙ e) in
    let was = ap (λ b. greatest g (cond b (a ∷ filter tg (range_with_len (a + 1) n)) (filter tg (range_with_len (a + 1) n)))) e in
    let at : f a ≤ g a = le a (omega arith) (omega arith) e in
    omega (arith, is, was, max_le (f a) (greatest f (filter tf (range_with_len (a + 1) n))) (g a) (greatest g (filter tg (range_with_len (a + 1) n))) at later))
    (λ (e : tg a ≡ false).
    let is = ap (λ b. greatest f (cond b (a ∷ filter tf (range_with_len (a + 1) n)) (filter tf (range_with_len (a + 1) n)))) (here ∙ e) in
    let was = ap (λ b. greatest g (cond b (a ∷ filter tg (range_with_len (a + 1) n)) (filter tg (range_with_len (a + 1) n)))) e in
    omega (arith, is, was, later))
    (cases_Bool (tg a))

greatest_of : (c : Configuration) (m : ℕ) (f g : ℕ → ℕ) (tf tg : ℕ → Bool) (o : Option Slot) → slot c m ≡ o → ((p : ℕ) → IsPortOf c m p → tf p ≡ tg p) → ((p : ℕ) → IsPortOf c m p → tg p ≡ true → f p ≤ g p)
    → greatest f (filter tf (option_map_or (λ (k : Slot). range_with_len k.first_port (length (row k.node.kind).requires_)) o []))
    ≤ greatest g (filter tg (option_map_or (λ (k : Slot). range_with_len k.first_port (length (row k.node.kind).requires_)) o []))
greatest_of c m f g tf tg None e same le = omega arith
greatest_of c m f g tf tg (Some k) e same le =
    greatest_le f g tf tg k.first_port (length (row k.node.kind).requires_)
    (λ p l u. same p (record { node = k; made = e; from = l; below = u })) (λ p l u. le p (record { node = k; made = e; from = l; below = u }))

through_le : (c d : Configuration) (p : ℕ) → ((t : Target) → target d p ≡ Some t → target c p ≡ Some t) → ((t : Target) → target c p ≡ Some t → full d t.node t.provide ≤ full c t.node t.provide)
    → (o : Option Target) → target d p ≡ o → option_map_or (λ (t : Target). full d t.node t.provide) o 0 ≤ option_map_or (λ (t : Target). full c t.node t.provide) (target c p) 0
through_le c d p old le None e = omega arith
through_le c d p old le (Some t) e =
    let was = old t e in
    omega (arith, le t was, map_or_at (λ (t : Target). full c t.node t.provide) (target c p) 0 t was)

module _ (c d : Configuration) (s : IsSound c) (ranked : has_no_cycle d ≡ true) (Good : ℕ → ℕ → Type 0) (h : GoodLinks c d Good) where
  -- where it is so of all that the provision can lead to
  events_from : (m x : ℕ) → m < length c.slots → Good m x
      → ((p : ℕ) (t : Target) → IsPortOf c m p → depends c m x p ≡ true → target c p ≡ Some t → full d t.node t.provide ≤ full c t.node t.provide)
      → call_events d m x ≤ call_events c m x
  events_from m x made good le =
      subst (λ ps. greatest (events_through d) (filter (depends d m x) ps) ≤ call_events c m x) (sym (rows_stay c d h.extends_ m made))
      (greatest_of c m (events_through d) (events_through c) (depends d m x) (depends c m x) (slot c m) refl (λ p o. depends_before c d s h.extends_ m x p made o)
      (λ p o dep. omega (arith, through_le c d p (λ t e. h.targets m x p t good o dep e) (λ t e. le p t o dep e) (target d p) refl)))

  full_from : (m x : ℕ) → m < length c.slots → Good m x
      → ((p : ℕ) (t : Target) → IsPortOf c m p → depends c m x p ≡ true → target c p ≡ Some t → full d t.node t.provide ≤ full c t.node t.provide)
      → full d m x ≤ full c m x
  full_from m x made good le =
      let events : call_events d m x ≤ call_events c m x = events_from m x made good le in
      let is : full d m x ≡ 3 + 3 * mores_allowed c m x + calls_allowed c m x * call_events d m x =
      full_step d ranked m x ∙ ap (λ i. 3 + 3 * i + calls_allowed d m x * call_events d m x) (mores_stay c d h.extends_ m x made)
      ∙ ap (λ i. 3 + 3 * mores_allowed c m x + i * call_events d m x) (calls_stay c d h.extends_ m x made) in
      let more_ : calls_allowed c m x * call_events d m x ≤ calls_allowed c m x * call_events c m x = mul-le-mul_left (calls_allowed c m x) events in
      omega (arith, is, full_step c s.no_cycle m x, more_)

  full_down : (k m x : ℕ) → m < length c.slots → Good m x → can_walk c k m ≡ false → full d m x ≤ full c m x
  full_down zero m x made good short = absurd (both_ways true short refl)
  full_down (suc k) m x made good short =
      full_from m x made good (λ p t o dep e.
      full_down k t.node t.provide (live_made c t.node (s.targets p t e).live) (h.closed m x p t good o dep e) (false_from_ne_true (can_walk c k t.node) (λ walks.
      both_ways (can_walk c (suc k) m) short
      (walk_to c k m t.node (record { port = p; serves = x; provide = t.provide; depends = (o, dep); linked = e }) walks))))

  pub full_fewer : (m x : ℕ) → m < length c.slots → Good m x → full d m x ≤ full c m x
  full_fewer m x made good = full_down (suc (length c.slots)) m x made good (no_walk c s.no_cycle m)

  pub events_fewer : (m x : ℕ) → m < length c.slots → Good m x → call_events d m x ≤ call_events c m x
  events_fewer m x made good =
      events_from m x made good (λ p t o dep e. full_fewer t.node t.provide (live_made c t.node (s.targets p t e).live) (h.closed m x p t good o dep e))
