-- Lemmas on lists to which ports are added, and on what is kept of a set of ports.
use Rattle.std.proofs.Common.{◌≡◌, ◌⊎◌, ◌↔◌, ℕ, ◌+◌, ◌<◌, Bool, true, false, cond, not, List, [], ◌∷◌, ◌++◌, length, set, get_or, take, sym, ◌∙◌, ap, subst, inl, inr, arith, Contains, append_assoc, length-append}
use Rattle.std.specs.Prelude.{count_by}
use Rattle.std.proofs.Math.Logic.{⊎_elim, ⊎_map}
use Rattle.std.proofs.lemmas.List.Elements.{All-append, All-contains, All-weaker, Contains-append_cases, Contains-append_left}
use Rattle.std.proofs.lemmas.List.Sums.{sum_by-set}
use Rattle.config_graph.specs.Marks.{IsMarked}
use Rattle.config_graph.proofs.MarkLaws.{marked_more}
use Rattle.passive_set.specs.Ports.{Adds}
use Rattle.passive_set.proofs.MarkLemmas.{and_then, as_it_is, back, either, turned}
use Rattle.base.proofs.ContainsLaws.{Contains-pushed, Contains_more}

-- what a list has to which ports were added
pub Adds-has : (old new : List ℕ) (P : ℕ → Type 0) → Adds old new P → (p : ℕ) → Contains new p ↔ (Contains old p ⊎ P p)
Adds-has old new P adds p = (to, ⊎_elim from (adds.complete p))
  where
    to : Contains new p → Contains old p ⊎ P p
    to h = ⊎_map (λ c. c) (All-contains P adds.later p adds.allowed) (Contains-append_cases old adds.later p (subst (λ l. Contains l p) adds.is h))

    from : Contains old p → Contains new p
    from c = subst (λ l. Contains l p) (sym adds.is) (Contains-append_left old adds.later p c)

-- ports are added, and then others
pub Adds-more : (old mid new : List ℕ) (P Q R : ℕ → Type 0) → Adds old mid P → Adds mid new Q → ((p : ℕ) → R p ↔ (P p ⊎ Q p)) → Adds old new R
Adds-more old mid new P Q R first then both = record {
  later = first.later ++ then.later;
  is = then.is ∙ ap (λ l. l ++ then.later) first.is ∙ append_assoc old first.later then.later;
  allowed = All-append R first.later then.later (All-weaker P R (λ p h. (both p).1 (inl h)) first.later first.allowed) (All-weaker Q R (λ p h. (both p).1 (inr h)) then.later then.allowed);
  complete = complete;
}
  where
    complete : (p : ℕ) → R p → Contains new p
    complete p h =
        elim ((both p).0 h) [
          | inl early ↦ (Adds-has mid new Q then p).1 (inl (first.complete p early))
          | inr late ↦ then.complete p late
        ]

-- the marks that are kept of a set, after one port more
pub kept_marked : (ports : List ℕ) (has : List Bool) (port : ℕ) → port < length has → ((p : ℕ) → Contains ports p ↔ IsMarked has p) → (p : ℕ) → Contains (ports ++ port ∷ []) p ↔ IsMarked (set has port true) p
kept_marked ports has port low so_far p =
    and_then (Contains-pushed ports port p) (and_then (either (so_far p) as_it_is) (back (marked_more has port low p)))

-- the count of the marks that are not set, after one more is set
pub kept_counted : (ports : List ℕ) (has : List Bool) (port : ℕ) → port < length has → get_or has port false ≡ false → length ports + count_by not has ≡ length has → length (ports ++ port ∷ []) + count_by not (set has port true) ≡ length has
kept_counted ports has port low unset so_far =
    let one : Bool → ℕ = λ b. cond (not b) 1 0 in
    let change = sum_by-set one has port true false low in
    let was : one (get_or has port false) ≡ 1 = ap one unset in
    omega (arith, change, was, so_far, length-append ports (port ∷ []))

-- ports of a list are added one after another
pub Adds-listed : (old mid new xs : List ℕ) (i : ℕ) → i < length xs → Adds old mid (Contains (take i xs)) → Adds mid new (λ p. p ≡ get_or xs i 0) → Adds old new (Contains (take (i + 1) xs))
Adds-listed old mid new xs i low so_far one =
    Adds-more old mid new (Contains (take i xs)) (λ p. p ≡ get_or xs i 0) (Contains (take (i + 1) xs)) so_far one (λ p. and_then (Contains_more xs i 0 low p) (either as_it_is turned))

pub Adds-same : (old new : List ℕ) (P Q : ℕ → Type 0) → ((p : ℕ) → P p ↔ Q p) → Adds old new P → Adds old new Q
Adds-same old new P Q same adds = record {
  later = adds.later;
  is = adds.is;
  allowed = All-weaker P Q (λ p h. (same p).0 h) adds.later adds.allowed;
  complete = λ p h. adds.complete p ((same p).1 h);
}
