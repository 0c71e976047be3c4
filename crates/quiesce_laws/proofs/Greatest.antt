-- What a greatest number is above.
use Rattle.std.proofs.Common.{◌≡◌, ℕ, zero, suc, ◌+◌, ◌<◌, ◌≤◌, max, Bool, true, false, cond, List, [], ◌∷◌, length, sym, ap, ◌∙◌, subst, ⊎_elim, arith}
use Rattle.std.specs.Prelude.{filter}
use Rattle.std.specs.List.{range_with_len}
use Rattle.std.specs.Option.{option_map_or}
use Rattle.std.proofs.lemmas.Bool.{cases_Bool, cases_eq}
use Rattle.config_graph.specs.Kinds.{row}
use Rattle.quiesce_core.specs.declared.state.Slot.{Slot}
use Rattle.quiesce_core.specs.State.{Configuration, depends}
use Rattle.quiesce_core.specs.Reach.{IsPortOf}
use Rattle.quiesce_core.specs.Rest.{greatest, events_through, call_events}

filter_at : (f : ℕ → ℕ) (test : ℕ → Bool) (a : ℕ) (xs : List ℕ) → test a ≡ true → greatest f (filter test (a ∷ xs)) ≡ max (f a) (greatest f (filter test xs))
filter_at f test a xs e = ap (λ b. greatest f (cond b (a ∷ filter test xs) (filter test xs))) e

filter_off : (f : ℕ → ℕ) (test : ℕ → Bool) (a : ℕ) (xs : List ℕ) → test a ≡ false → greatest f (filter test (a ∷ xs)) ≡ greatest f (filter test xs)
filter_off f test a xs e = ap (λ b. greatest f (cond b (a ∷ filter test xs) (filter test xs))) e

greatest_in : (f : ℕ → ℕ) (test : ℕ → Bool) (a n i : ℕ) → a ≤ i → i < a + n → test i ≡ true → f i ≤ greatest f (filter test (range_with_len a n))
greatest_in f test a zero i l u e = absurd (omega arith)
greatest_in f test a (suc n) i l u e = ⊎_elim
    (λ (same : a ≡ i). let at = filter_at f test a (range_with_len (a + 1) n) (ap test same ∙ e) in
    let is : f a ≡ f i = ap f same in omega (arith, at, is))
    (λ (other : a ≡ i → ⊥).
    let later : f i ≤ greatest f (filter test (range_with_len (a + 1) n)) = greatest_in f test (a + 1) n i (omega (arith, other)) (omega arith) e in
    ⊎_elim
    (λ (on : test a ≡ true). omega (arith, later, filter_at f test a (range_with_len (a + 1) n) on))
    (λ (off : test a ≡ false). omega (arith, later, filter_off f test a (range_with_len (a + 1) n) off))
    (cases_Bool (test a)))
    (cases_eq a i)

-- the call of a port on which the provision depends is counted
pub call_counted : (c : Configuration) (n x p : ℕ) → IsPortOf c n p → depends c n x p ≡ true → events_through c p ≤ call_events c n x
call_counted c n x p o dep =
    subst (λ v. events_through c p ≤ greatest (events_through c) (filter (depends c n x) (option_map_or (λ (m : Slot). range_with_len m.first_port (length (row m.node.kind).requires_)) v [])))
    (sym o.made) (greatest_in (events_through c) (depends c n x) o.node.first_port (length (row o.node.node.kind).requires_) p o.from o.below dep)
