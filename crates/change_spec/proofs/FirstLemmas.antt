-- The first number at which a test holds.
use Rattle.std.proofs.Common.{◌≡◌, ℕ, ◌<◌, ◌≤◌, Bool, ⊎_elim, arith}
use Rattle.std.proofs.lemmas.Bool.{both_ways, cases_eq, cases_lt}
use Rattle.node_turn_laws.specs.Round.{FirstAt}

-- there is one first number
pub one_first : (test : ℕ → Bool) (m n : ℕ) → FirstAt test m → FirstAt test n → m ≡ n
one_first test m n f g = ⊎_elim (λ (same : m ≡ n). same)
    (λ (other : m ≡ n → ⊥). ⊎_elim
    (λ (l : m < n). absurd (both_ways (test m) (g.before m l) f.holds))
    (λ (past : n ≤ m). absurd (both_ways (test n) (f.before n (omega (arith, past, other))) g.holds)) (cases_lt m n))
    (cases_eq m n)
