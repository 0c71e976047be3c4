-- Walks, ranks, and that finitely many nodes without a closed walk have ranks.
use Rattle.std.proofs.Common.{◌≡◌, ℕ, zero, suc, ◌+◌, ◌<◌, ◌≤◌, Bool, true, false, cond, eqb, ◌||◌, refl, sym, ap, ◌∙◌, subst, inl, inr, ⊎_elim, arith}
use Rattle.std.specs.Prelude.{◌⊎◌}
use Rattle.std.proofs.lemmas.Bool.{both_ways, cases_Bool, cases_lt, false_from_ne_true, eqb-true, eq-eqb, or_cases, or_left, or_right}
use Rattle.base.proofs.RangeLaws.{count_in, count_in-le, count_in_rises}
use Rattle.config_graph.specs.Walks.{Walk, step, onward, IsAcyclic, Ranks}

module _ (Step : ℕ → ℕ → Type 0) where
  -- one step more at the end of a path
  pub walk_then : {i j k : ℕ} → Walk Step i j → Step j k → Walk Step i k
  walk_then (step s) next = onward s (step next)
  walk_then (onward s rest) next = onward s (walk_then rest next)

  first_step : {i k : ℕ} → Walk Step i k → (j : ℕ) × Step i j × ((j ≡ k) ⊎ Walk Step j k)
  first_step (step {j = k} s) = (k, s, inl refl)
  first_step (onward {j = j} s rest) = (j, s, inr rest)

  -- from where each step leads to what is on no closed walk, none comes back
  pub acyclic_next : (i : ℕ) → ((j : ℕ) → Step i j → ¬ Walk Step j j) → ¬ Walk Step i i
  acyclic_next i h walk =
      let s = first_step walk in
      elim s.2 [
        | inl same ↦ h i (subst (Step i) same s.1) walk
        | inr rest ↦ h s.0 s.1 (walk_then rest s.1)
      ]

  walk_falls : (ranks : Ranks Step) {i j : ℕ} → Walk Step i j → ranks.rank j < ranks.rank i
  walk_falls ranks (step {i} {j} s) = ranks.falls i j s
  walk_falls ranks (onward {i} {j} {k} s rest) = omega (arith, ranks.falls i j s, walk_falls ranks rest)

  pub acyclic_if_ranked : Ranks Step → IsAcyclic Step
  acyclic_if_ranked ranks i path = omega (arith, walk_falls ranks path)

  -- finitely many nodes from which steps lead, and a test whether so many steps can be made from a node
  module _ (size : ℕ) (from_there : (i j : ℕ) → Step i j → i < size) (walks : ℕ → ℕ → Bool) (stays : (i : ℕ) → walks zero i ≡ true)
      (walks_on : (k i j : ℕ) → Step i j → walks k j ≡ true → walks (suc k) i ≡ true)
      (walks_from : (k i : ℕ) → walks (suc k) i ≡ true → (j : ℕ) × Step i j × (walks k j ≡ true)) where
    -- a walk of more steps than there are nodes comes back to a node that it passed
    comes_back : (passed : ℕ → Bool) (k i : ℕ) → ((v : ℕ) → passed v ≡ true → Walk Step v i) → walks k i ≡ true → size < count_in passed 0 size + k → (j : ℕ) × Walk Step j j
    comes_back passed zero i ways h many = absurd (omega (arith, count_in-le passed 0 size))
    comes_back passed (suc k) i ways h many = ⊎_elim
        (λ (yes_ : passed i ≡ true). (i, ways i yes_))
        (λ (no_ : passed i ≡ false).
        let w = walks_from k i h in
        let grows : count_in passed 0 size < count_in (λ v. passed v || eqb v i) 0 size =
        count_in_rises passed (λ v. passed v || eqb v i) 0 size i (λ v e. or_left (passed v) (eqb v i) e) (omega arith) (omega (arith, from_there i w.0 w.1))
        no_ (or_right (passed i) (eqb i i) (eq-eqb i i refl)) in
        comes_back (λ v. passed v || eqb v i) k w.0
        (λ v e. ⊎_elim (λ (before : passed v ≡ true). walk_then (ways v before) w.1)
        (λ (here : eqb v i ≡ true). subst (λ u. Walk Step u w.0) (sym (eqb-true v i here)) (step w.1)) (or_cases (passed v) (eqb v i) e))
        w.2 (omega arith))
        (cases_Bool (passed i))

    pub closed_walk : (i : ℕ) → walks (suc size) i ≡ true → (j : ℕ) × Walk Step j j
    closed_walk i h = comes_back (λ _. false) (suc size) i (λ v e. absurd (both_ways false refl e)) h (omega arith)

    pub short_if_acyclic : IsAcyclic Step → (i : ℕ) → walks (suc size) i ≡ false
    short_if_acyclic acyclic i = false_from_ne_true (walks (suc size) i) (λ h. let w = closed_walk i h in acyclic w.0 w.1)

    -- the length of the longest walk of at most k steps
    height : ℕ → ℕ → ℕ
    height zero i = 0
    height (suc k) i = cond (walks (suc k) i) (suc k) (height k i)

    height_walks : (k i : ℕ) → walks (height k i) i ≡ true
    unfolding height
    height_walks zero i = stays i
    height_walks (suc k) i = ⊎_elim
        (λ (e : walks (suc k) i ≡ true). rw e e)
        (λ (e : walks (suc k) i ≡ false). rw e (height_walks k i)) (cases_Bool (walks (suc k) i))

    height_most : (k j i : ℕ) → j ≤ k → walks j i ≡ true → j ≤ height k i
    unfolding height
    height_most zero j i l h = omega arith
    height_most (suc k) j i l h = ⊎_elim
        (λ (e : walks (suc k) i ≡ true). rw e (omega arith))
        (λ (e : walks (suc k) i ≡ false). rw e (⊎_elim
        (λ (below : j < suc k). height_most k j i (omega arith) h)
        (λ (past : suc k ≤ j).
        let same : j ≡ suc k = omega arith in
        absurd (both_ways (walks (suc k) i) e (sym (ap (λ n. walks n i) same) ∙ h)))
        (cases_lt j (suc k)))) (cases_Bool (walks (suc k) i))

    height_le : (k i : ℕ) → height k i ≤ k
    unfolding height
    height_le zero i = omega arith
    height_le (suc k) i = ⊎_elim
        (λ (e : walks (suc k) i ≡ true). rw e (omega arith))
        (λ (e : walks (suc k) i ≡ false). rw e (omega (arith, height_le k i))) (cases_Bool (walks (suc k) i))

    -- the longest walk from a node is its rank
    pub ranked_if_short : ((i : ℕ) → walks (suc size) i ≡ false) → Ranks Step
    ranked_if_short short = record {
      rank = λ i. height size i;
      falls = λ i j s.
          let longer : walks (suc (height size j)) i ≡ true = walks_on (height size j) i j s (height_walks size j) in
          ⊎_elim
          (λ (fits : height size j < size). omega (arith, height_most size (suc (height size j)) i (omega arith) longer))
          (λ (past : size ≤ height size j).
          let same : height size j ≡ size = omega (arith, height_le size j) in
          absurd (both_ways (walks (suc size) i) (short i) (sym (ap (λ n. walks (suc n) i) same) ∙ longer)))
          (cases_lt (height size j) size);
    }
