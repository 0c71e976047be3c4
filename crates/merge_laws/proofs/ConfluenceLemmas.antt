-- A system of chains, of each of which the next member may be done or not. Where what may be done stays so until it is done, and two
-- members may be done in either order, all ways lead to the end if one does.
use Rattle.std.proofs.Common.{◌≡◌, ℕ, ◌+◌, Bool, true, false, ◌&&◌, List, [], ◌∷◌, sym, subst, ⊎_elim, arith}
use Rattle.std.specs.Prelude.{fold}
use Rattle.std.proofs.lemmas.Bool.{and_parts, both_ways, cases_eq}

module _ (S : Type 0) (may : S → ℕ → Bool) (next : S → ℕ → S) (left : S → ℕ) (Holds : S → Type 0)
    (keeps : (s : S) (c : ℕ) → Holds s → may s c ≡ true → Holds (next s c))
    (fewer : (s : S) (c : ℕ) → Holds s → may s c ≡ true → left (next s c) + 1 ≡ left s)
    (stays : (s : S) (c d : ℕ) → Holds s → may s c ≡ true → may s d ≡ true → (c ≡ d → ⊥) → may (next s c) d ≡ true)
    (swaps : (s : S) (c d : ℕ) → Holds s → may s c ≡ true → may s d ≡ true → (c ≡ d → ⊥) → next (next s c) d ≡ next (next s d) c)
  where
    -- from here there is a way to the end
    pub data Ends : S → Type 0 where
      ended : (s : S) → left s ≡ 0 → Ends s
      onward : (s : S) (c : ℕ) → may s c ≡ true → Ends (next s c) → Ends s

    -- whatever is done next, there is one still
    pub ends_still : (s : S) → Ends s → Holds s → (c : ℕ) → may s c ≡ true → Ends (next s c)
    ends_still s (ended z none_) h c m = absurd (let one = fewer s c h m in omega (arith, one, none_))
    ends_still s (onward z d n rest) h c m = ⊎_elim
        (λ (same : d ≡ c). subst (λ x. Ends (next s x)) same rest)
        (λ (other : d ≡ c → ⊥).
        onward (next s c) d (stays s c d h m n (λ e. other (sym e)))
        (subst Ends (swaps s d c h n m other) (ends_still (next s d) rest (keeps s d h n) c (stays s d c h n m other))))
        (cases_eq d c)

    -- members that may be done one after the other
    abbrev pub can_go : S → List ℕ → Bool
    can_go s [] = true
    can_go s (c ∷ cs) = may s c && can_go (next s c) cs

    -- so who does whatever may be done comes to the end
    pub greedy_ends : (cs : List ℕ) (s : S) → Ends s → Holds s → can_go s cs ≡ true → ((c : ℕ) → may (fold next s cs) c ≡ false) → left (fold next s cs) ≡ 0
    greedy_ends [] s (ended z none_) h go stuck = none_
    greedy_ends [] s (onward z c m rest) h go stuck = absurd (both_ways (may s c) (stuck c) m)
    greedy_ends (c ∷ cs) s e h go stuck =
        let w = and_parts (may s c) (can_go (next s c) cs) go in
        greedy_ends cs (next s c) (ends_still s e h c w.0) (keeps s c h w.0) w.1 stuck
