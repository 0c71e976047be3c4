-- Sums over slots or ports that are the same, or differ at one place or two.
use Rattle.std.proofs.Common.{◌≡◌, ◌∙◌, ℕ, zero, suc, ◌+◌, ◌<◌, ◌≤◌, [], sym, ap, arith, ⊎_elim}
use Rattle.std.specs.Prelude.{sum_by}
use Rattle.std.specs.List.{range_with_len}
use Rattle.std.proofs.lemmas.Bool.{cases_eq, cases_lt}
use Rattle.std.proofs.lemmas.List.Sums.{sum_by-cons}
use Rattle.base.proofs.SumLaws.{at_term, sum_le, sum_moves, sum_place, sum_plus, sum_term, term_here, term_there}
use Rattle.std.proofs.Math.Nat.{add-zero}

-- what one term loses the other gains
less_by : (f g : ℕ → ℕ) (p r n : ℕ) → p < n → r < n → (p ≡ r → ⊥) → ((i : ℕ) → (i ≡ p → ⊥) → (i ≡ r → ⊥) → f i ≡ g i) → f p + f r ≡ g p + g r → sum_by f (range_with_len 0 n) ≤ sum_by g (range_with_len 0 n)
less_by f g p r n made_p made_r ne h both =
    let le : (i : ℕ) → (i ≡ p → ⊥) → (i ≡ r → ⊥) → f i ≤ g i = λ i a b. omega (arith, h i a b) in
    ⊎_elim
    (λ (less : f r < g r). let k = gap (f r) (g r) (omega (arith, less)) in let w = sum_moves f g p r k.0 0 n made_p made_r ne le (omega (arith, k.1)) (omega (arith, k.1, both)) in omega (arith, w))
    (λ (more_ : g r ≤ f r).
    let w = sum_moves f g r p (gap (f p) (g p) (omega (arith, more_, both))).0 0 n made_r made_p (λ e. ne (sym e)) (λ i a b. le i b a) (omega (arith, (gap (f p) (g p) (omega (arith, more_, both))).1))
    (omega (arith, (gap (f p) (g p) (omega (arith, more_, both))).1, both)) in
    omega (arith, w))
    (cases_lt (f r) (g r))
  where
    gap : (a b : ℕ) → a ≤ b → (k : ℕ) × (a + k ≡ b)
    gap zero b h = (b, omega arith)
    gap (suc a) zero h = absurd (omega (arith, h))
    gap (suc a) (suc b) h = let w = gap a b (omega (arith, h)) in (w.0, omega (arith, w.1))

pub sum_two : (f g : ℕ → ℕ) (p r n : ℕ) → p < n → r < n → (p ≡ r → ⊥) → ((i : ℕ) → (i ≡ p → ⊥) → (i ≡ r → ⊥) → f i ≡ g i) → f p + f r ≡ g p + g r → sum_by f (range_with_len 0 n) ≡ sum_by g (range_with_len 0 n)
sum_two f g p r n made_p made_r ne h both =
    let a = less_by f g p r n made_p made_r ne h both in
    let b = less_by g f p r n made_p made_r ne (λ i x y. sym (h i x y)) (sym both) in omega (arith, a, b)

-- one term gains so much
pub sum_one : (f g : ℕ → ℕ) (p d n : ℕ) → p < n → ((i : ℕ) → (i ≡ p → ⊥) → f i ≡ g i) → f p ≡ g p + d → sum_by f (range_with_len 0 n) ≡ sum_by g (range_with_len 0 n) + d
sum_one f g p d n made h at =
    let a = sum_place f g p 0 d n made (λ i ne. omega (arith, h i ne)) (omega (arith, at)) in
    let b = sum_place g f p d 0 n made (λ i ne. omega (arith, h i ne)) (omega (arith, at)) in omega (arith, a, b)

-- all terms but one are the same
pub sum_at : (f g : ℕ → ℕ) (p n : ℕ) → p < n → ((i : ℕ) → (i ≡ p → ⊥) → f i ≡ g i) → sum_by f (range_with_len 0 n) + g p ≡ sum_by g (range_with_len 0 n) + f p
sum_at f g p n made h =
    let a = sum_place f g p (g p) (f p) n made (λ i ne. omega (arith, h i ne)) (omega arith) in
    let b = sum_place g f p (f p) (g p) n made (λ i ne. omega (arith, h i ne)) (omega arith) in omega (arith, a, b)

more_from : (f : ℕ → ℕ) (a n : ℕ) → sum_by f (range_with_len a (suc n)) ≡ sum_by f (range_with_len a n) + f (a + n)
more_from f a zero = omega (arith, sum_by-cons f a [], ap f (add-zero a))
more_from f a (suc n) =
    let whole = sum_by-cons f a (range_with_len (a + 1) (suc n)) in
    let part = sum_by-cons f a (range_with_len (a + 1) n) in
    let rest = more_from f (a + 1) n in
    let same : f ((a + 1) + n) ≡ f (a + suc n) = ap f (omega arith) in
    omega (arith, whole, part, rest, same)

pub sum_more : (f : ℕ → ℕ) (n : ℕ) → sum_by f (range_with_len 0 (n + 1)) ≡ sum_by f (range_with_len 0 n) + f n
sum_more f n =
    let size : n + 1 ≡ suc n = omega arith in
    let at : 0 + n ≡ n = omega arith in ap (λ k. sum_by f (range_with_len 0 k)) size ∙ more_from f 0 n ∙ ap (λ k. sum_by f (range_with_len 0 n) + f k) at

-- 1 to n + 1
pub sum_up : (f : ℕ → ℕ) (n : ℕ) → sum_by f (range_with_len 1 (n + 1)) ≡ sum_by f (range_with_len 1 n) + f (n + 1)
sum_up f n =
    let size : n + 1 ≡ suc n = omega arith in
    let at : 1 + n ≡ n + 1 = omega arith in ap (λ k. sum_by f (range_with_len 1 k)) size ∙ more_from f 1 n ∙ ap (λ k. sum_by f (range_with_len 1 n) + f k) at

pub two_terms : (f : ℕ → ℕ) (p r n : ℕ) → p < n → r < n → (p ≡ r → ⊥) → f p + f r ≤ sum_by f (range_with_len 0 n)
two_terms f p r n made_p made_r ne =
    let each : (i : ℕ) → at_term p (f p) i + at_term r (f r) i ≤ f i = λ i. ⊎_elim
    (λ (same : i ≡ p). omega (arith, term_here p (f p) i same, term_there r (f r) i (λ e. ne (sym same ∙ e)), ap f same))
    (λ (other : i ≡ p → ⊥). ⊎_elim
    (λ (same : i ≡ r). omega (arith, term_there p (f p) i other, term_here r (f r) i same, ap f same))
    (λ (else_ : i ≡ r → ⊥). omega (arith, term_there p (f p) i other, term_there r (f r) i else_))
    (cases_eq i r))
    (cases_eq i p) in
    let whole = sum_le (λ i. at_term p (f p) i + at_term r (f r) i) f 0 n each in
    let parts = sum_plus (at_term p (f p)) (at_term r (f r)) 0 n in
    omega (arith, whole, parts, sum_term p (f p) 0 n (omega arith) (omega (arith, made_p)), sum_term r (f r) 0 n (omega arith) (omega (arith, made_r)))
