-- Sums over a range of numbers, of which one term or two change.
use Rattle.std.proofs.Common.{◌≡◌, ℕ, zero, suc, ◌+◌, ◌<◌, ◌≤◌, Bool, true, false, cond, refl, sym, ap, ◌∙◌, ⊎_elim, arith, List, [], ◌∷◌, length, take, Some, subst, ◌++◌, map}
use Rattle.std.specs.Prelude.{◌==◌, sum_by, slice_get, Contains}
use Rattle.std.specs.List.{range_with_len}
use Rattle.std.proofs.lemmas.Bool.{cases_Bool, cases_eq, eq-eqb, ne_eqb}
use Rattle.std.proofs.lemmas.List.Sums.{sum_by-cons}
use Rattle.base.proofs.ContainsLaws.{Contains-here, Contains-there}

pub sum_le : (f g : ℕ → ℕ) (a n : ℕ) → ((i : ℕ) → f i ≤ g i) → sum_by f (range_with_len a n) ≤ sum_by g (range_with_len a n)
sum_le f g a zero h = omega arith
sum_le f g a (suc n) h =
    omega (arith, sum_by-cons f a (range_with_len (a + 1) n), sum_by-cons g a (range_with_len (a + 1) n), h a, sum_le f g (a + 1) n h)

pub sum_plus : (f g : ℕ → ℕ) (a n : ℕ) → sum_by (λ i. f i + g i) (range_with_len a n) ≡ sum_by f (range_with_len a n) + sum_by g (range_with_len a n)
sum_plus f g a zero = refl
sum_plus f g a (suc n) =
    omega (
      arith,
      sum_by-cons (λ i. f i + g i) a (range_with_len (a + 1) n),
      sum_by-cons f a (range_with_len (a + 1) n),
      sum_by-cons g a (range_with_len (a + 1) n),
      sum_plus f g (a + 1) n,
    )

-- what comes behind adds nothing
pub sum_zero : (f : ℕ → ℕ) (a n : ℕ) → ((i : ℕ) → a ≤ i → f i ≡ 0) → sum_by f (range_with_len a n) ≡ 0
sum_zero f a zero h = refl
sum_zero f a (suc n) h =
    omega (arith, sum_by-cons f a (range_with_len (a + 1) n), h a (omega arith), sum_zero f (a + 1) n (λ i l. h i (omega arith)))

pub sum_longer : (f : ℕ → ℕ) (a n k : ℕ) → ((i : ℕ) → a + n ≤ i → f i ≡ 0) → sum_by f (range_with_len a (n + k)) ≡ sum_by f (range_with_len a n)
sum_longer f a zero k h =
    let size : 0 + k ≡ k = omega arith in
    ap (λ m. sum_by f (range_with_len a m)) size ∙ sum_zero f a k (λ i l. h i (omega arith))
sum_longer f a (suc n) k h =
    let size : suc n + k ≡ suc (n + k) = omega arith in
    ap (λ m. sum_by f (range_with_len a m)) size
    ∙ sum_by-cons f a (range_with_len (a + 1) (n + k))
    ∙ ap (λ m. f a + m) (sum_longer f (a + 1) n k (λ i l. h i (omega arith)))
    ∙ sym (sum_by-cons f a (range_with_len (a + 1) n))

-- one term alone
pub at_term : ℕ → ℕ → ℕ → ℕ
at_term p d i = cond (i == p) d 0

pub term_here : (p d i : ℕ) → i ≡ p → at_term p d i ≡ d
unfolding at_term
term_here p d i same = ap (λ b. cond b d 0) (eq-eqb i p same)

pub term_there : (p d i : ℕ) → (i ≡ p → ⊥) → at_term p d i ≡ 0
unfolding at_term
term_there p d i other = ap (λ b. cond b d 0) (ne_eqb i p other)

pub sum_term : (p d a n : ℕ) → a ≤ p → p < a + n → sum_by (at_term p d) (range_with_len a n) ≡ d
sum_term p d a zero l u = absurd (omega arith)
sum_term p d a (suc n) l u = ⊎_elim
    (λ (same : a ≡ p).
    omega (arith, sum_by-cons (at_term p d) a (range_with_len (a + 1) n), term_here p d a same, sum_zero (at_term p d) (a + 1) n (λ i past. term_there p d i (λ e. omega arith))))
    (λ (other : a ≡ p → ⊥).
    omega (arith, sum_by-cons (at_term p d) a (range_with_len (a + 1) n), term_there p d a other, sum_term p d (a + 1) n (omega (arith, other)) (omega arith)))
    (cases_eq a p)

-- The term at p loses d and gains e at most, and no other rises.
pub sum_place : (f g : ℕ → ℕ) (p d e n : ℕ) → p < n → ((i : ℕ) → (i ≡ p → ⊥) → f i ≤ g i) → f p + d ≤ g p + e
    → sum_by f (range_with_len 0 n) + d ≤ sum_by g (range_with_len 0 n) + e
sum_place f g p d e n made h at =
    let each : (i : ℕ) → f i + at_term p d i ≤ g i + at_term p e i = λ i. ⊎_elim
    (λ (same : i ≡ p). omega (arith, term_here p d i same, term_here p e i same, at, ap f same, ap g same))
    (λ (other : i ≡ p → ⊥). omega (arith, term_there p d i other, term_there p e i other, h i other))
    (cases_eq i p) in
    omega (
      arith,
      sum_le (λ i. f i + at_term p d i) (λ i. g i + at_term p e i) 0 n each,
      sum_plus f (at_term p d) 0 n,
      sum_plus g (at_term p e) 0 n,
      sum_term p d 0 n (omega arith) (omega arith),
      sum_term p e 0 n (omega arith) (omega arith),
    )

-- The term at r loses d, and that at p gains no more than d less e.
pub sum_moves : (f g : ℕ → ℕ) (p r d e n : ℕ) → p < n → r < n → (p ≡ r → ⊥) → ((i : ℕ) → (i ≡ p → ⊥) → (i ≡ r → ⊥) → f i ≤ g i) → f r + d ≤ g r → f p + e ≤ g p + d
    → sum_by f (range_with_len 0 n) + e ≤ sum_by g (range_with_len 0 n)
sum_moves f g p r d e n made_p made_r ne h at_r at_p =
    let gains : ℕ → ℕ = λ i. f i + at_term r d i in
    let first : sum_by gains (range_with_len 0 n) ≡ sum_by f (range_with_len 0 n) + d = sum_plus f (at_term r d) 0 n ∙ ap (λ k. sum_by f (range_with_len 0 n) + k) (sum_term r d 0 n (omega arith) (omega arith)) in
    let both : sum_by gains (range_with_len 0 n) + e ≤ sum_by g (range_with_len 0 n) + d = sum_place gains g p e d n made_p
    (λ i other. ⊎_elim
    (λ (same : i ≡ r). omega (arith, term_here r d i same, at_r, ap f same, ap g same))
    (λ (else_ : i ≡ r → ⊥). omega (arith, term_there r d i else_, h i other else_))
    (cases_eq i r))
    (omega (arith, term_there r d p ne, at_p)) in
    omega (arith, first, both)

-- a term that counts only where a test passes, after and before: where it counts after, it counted before
pub masked : (idle after before : Bool) (x y : ℕ) → (idle ≡ true → x ≡ 0) → (idle ≡ false → after ≡ true → before ≡ true) → x ≤ y → cond after x 0 ≤ cond before y 0
masked true after before x y zero_ was l =
    let none_ : x ≡ 0 = zero_ refl in
    ⊎_elim (λ (e : after ≡ true). rw e (omega arith)) (λ (e : after ≡ false). rw e (omega arith)) (cases_Bool after)
masked false true before x y zero_ was l = rw (was refl refl) l
masked false false before x y zero_ was l = omega arith

pub sum_same : (f g : ℕ → ℕ) (n : ℕ) → ((i : ℕ) → f i ≡ g i) → sum_by f (range_with_len 0 n) ≡ sum_by g (range_with_len 0 n)
sum_same f g n h = omega (arith, sum_le f g 0 n (λ i. omega (arith, h i)), sum_le g f 0 n (λ i. omega (arith, h i)))

pub one_each : {A : Type 0} (xs : List A) → sum_by (λ (_ : A). 1) xs ≡ length xs
one_each [] = refl
one_each {A} (x ∷ xs) = omega (arith, sum_by-cons (λ (_ : A). 1) x xs, one_each xs)

pub sum_taken : {A : Type 0} (f : A → ℕ) (xs : List A) (i : ℕ) (x : A) → slice_get xs i ≡ Some x → sum_by f (take i xs) + f x ≤ sum_by f xs
sum_taken f [] i x h = absurd (cc)
sum_taken f (y ∷ xs) zero x h =
    let e : y ≡ x = cc in
    rw (sum_by-cons f y xs) (subst (λ z. 0 + f z ≤ f y + sum_by f xs) e (omega arith))
sum_taken f (y ∷ xs) (suc i) x h =
    rw (sum_by-cons f y (take i xs), sum_by-cons f y xs) (omega (arith, sum_taken f xs i x h))

pub summed : {A : Type 0} (f : A → ℕ) (front back : List A) (x : A) → sum_by f (front ++ x ∷ back) ≡ f x + sum_by f (front ++ back)
summed f [] back x = sum_by-cons f x back
summed f (y ∷ front) back x = omega (arith, sum_by-cons f y (front ++ x ∷ back), summed f front back x, sum_by-cons f y (front ++ back))

-- ---- sums over logs

pub sum_both : {A : Type 0} (f g h : A → ℕ) → ((x : A) → f x + g x ≡ h x) → (xs : List A) → sum_by f xs + sum_by g xs ≡ sum_by h xs
sum_both f g h same [] = omega arith
sum_both f g h same (x ∷ xs) = let a = sum_by-cons f x xs in let b = sum_by-cons g x xs in let c = sum_by-cons h x xs in let later = sum_both f g h same xs in let here = same x in omega (arith, a, b, c, later, here)

pub sum_each : {A : Type 0} (f g : A → ℕ) (xs : List A) → ((x : A) → Contains xs x → f x ≡ g x) → sum_by f xs ≡ sum_by g xs
sum_each f g [] same = refl
sum_each f g (x ∷ xs) same = sum_by-cons f x xs ∙ (λ i. same x (Contains-here x xs) i + sum_each f g xs (λ y there. same y (Contains-there x y xs there)) i) ∙ sym (sum_by-cons g x xs)

pub sum_mapped : {A B : Type 0} (f : A → B) (g : B → ℕ) (xs : List A) → sum_by (λ x. g (f x)) xs ≡ sum_by g (map f xs)
sum_mapped f g [] = refl
sum_mapped f g (x ∷ xs) = sum_by-cons (λ x. g (f x)) x xs ∙ ap (λ k. g (f x) + k) (sum_mapped f g xs) ∙ sym (sum_by-cons g (f x) (map f xs))
