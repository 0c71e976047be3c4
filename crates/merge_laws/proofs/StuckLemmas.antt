-- Some way goes on until no member may come: each step leaves one member less.
use Rattle.std.proofs.Common.{◌≡◌, ◌∙◌, ◌⊎◌, inl, inr, ℕ, zero, suc, ◌+◌, ◌<◌, ◌≤◌, Bool, true, false, List, [], ◌∷◌, length, refl, ap, ⊎_elim, arith}
use Rattle.std.specs.Prelude.{fold}
use Rattle.std.proofs.lemmas.Bool.{and_from, cases_lt}
use Rattle.std.proofs.lemmas.List.{get_or_past}
use Rattle.quiesce_core.specs.Traffic.{IsConsistent}
use Rattle.quiesce_core.specs.WellFormed.{IsWellFormed}
use Rattle.merge_laws.specs.Guarded.{Left, can_go, go, left, may_do_first, may_go}
use Rattle.merge_laws.proofs.GoingLemmas.{Sound, go_keeps, go_leaves_less}

-- ---- whether a member may come next

abbrev MayOne : Left → Type 0
MayOne x = (c : ℕ) × (may_go x c ≡ true)

below : (x : Left) (bound : ℕ) → MayOne x ⊎ ((c : ℕ) → c < bound → may_go x c ≡ false)
below x zero = inr (λ c low. absurd (omega (arith, low)))
below x (suc bound) = by (below x bound) (may_go x bound) refl
  where
    by : MayOne x ⊎ ((c : ℕ) → c < bound → may_go x c ≡ false) → (b : Bool) → may_go x bound ≡ b → MayOne x ⊎ ((c : ℕ) → c < suc bound → may_go x c ≡ false)
    by (inl may) b is = inl may
    by (inr none) true is = inl (bound, is)
    by (inr none) false is = inr (λ c low. ⊎_elim
        (λ (less : c < bound). none c less)
        (λ (last : bound ≤ c). let same : c ≡ bound = omega (arith, low, last) in ap (may_go x) same ∙ is)
        (cases_lt c bound))

-- where there is no log nothing comes
past : (x : Left) (n : ℕ) → length x.logs ≤ n → may_go x (suc n) ≡ false
past x n h = ap (may_do_first x.state x.lines n) (get_or_past x.logs n [] h)

beyond : (x : Left) (c : ℕ) → length x.logs + 1 ≤ c → may_go x c ≡ false
beyond x zero h = absurd (omega (arith, h))
beyond x (suc n) h = past x n (omega (arith, h))

next : (x : Left) → MayOne x ⊎ ((c : ℕ) → may_go x c ≡ false)
next x = ⊎_elim
    (λ (may : MayOne x). inl may)
    (λ (none : (c : ℕ) → c < length x.logs + 1 → may_go x c ≡ false).
    inr (λ c. ⊎_elim (λ (low : c < length x.logs + 1). none c low) (λ (high : length x.logs + 1 ≤ c). beyond x c high) (cases_lt c (length x.logs + 1))))
    (below x (length x.logs + 1))

-- ---- so a way goes on until none may

record Stuck (x : Left) : Type 0 where
  way : List ℕ
  can : can_go x way ≡ true
  stuck : (c : ℕ) → may_go (fold go x way) c ≡ false

on : (x : Left) (c : ℕ) → may_go x c ≡ true → Stuck (go x c) → Stuck x
on x c may s = record { way = c ∷ s.way; can = and_from (may_go x c) (can_go (go x c) s.way) may s.can; stuck = s.stuck }

goes_on : (fuel : ℕ) (x : Left) → Sound x.state → left x ≤ fuel → Stuck x
goes_on zero x h few = ⊎_elim
    (λ (may : MayOne x). absurd (let one = go_leaves_less x may.0 h may.1 in omega (arith, one, few)))
    (λ (none : (c : ℕ) → may_go x c ≡ false). record { way = []; can = refl; stuck = none })
    (next x)
goes_on (suc fuel) x h few = ⊎_elim
    (λ (may : MayOne x).
    let one = go_leaves_less x may.0 h may.1 in
    on x may.0 may.1 (goes_on fuel (go x may.0) (go_keeps x may.0 h may.1) (omega (arith, one, few))))
    (λ (none : (c : ℕ) → may_go x c ≡ false). record { way = []; can = refl; stuck = none })
    (next x)

pub some_way : (x : Left) → IsWellFormed x.state → IsConsistent x.state → (cs : List ℕ) × (can_go x cs ≡ true) × ((c : ℕ) → may_go (fold go x cs) c ≡ false)
some_way x formed consistent =
    let s = goes_on (left x) x (record { formed = formed; consistent = consistent }) (omega arith) in (s.way, s.can, s.stuck)
