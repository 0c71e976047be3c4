-- A list that climbs and one that rises are one where they count the same: so what was seen is tested by sorting it.
use Rattle.std.proofs.Common.{◌≡◌, ◌∙◌, ℕ, suc, ◌+◌, ◌≤◌, get_or, Bool, true, false, ◌||◌, cond, List, [], ◌∷◌, refl, sym, ap, subst, ⊎_elim, arith}
use Rattle.std.specs.Prelude.{◌==◌, ◌↔◌, ◌++◌, IsTrue}
use Rattle.std.specs.List.{count_by, list_all, list_any}
use Rattle.std.specs.List.Sorted.{IsStrictlyIncreasing}
use Rattle.std.proofs.lemmas.Bool.{and_from, both_ways, cases_Bool, eq-eqb, eqb-true, false_from_ne_true, or_left, or_parts}
use Rattle.std.proofs.lemmas.List.Folds.{list_any-append}
use Rattle.std.proofs.lemmas.List.Sums.{sum_by-cons}
use Rattle.base.proofs.ContainsLaws.{contained}
use Rattle.base.proofs.ListLaws.{all_have, count_by-some, count_by-none}
use Rattle.base.proofs.RisingLaws.{rise_tail}
use Rattle.report_follows.specs.Fronts.{are_told_once}
use Rattle.report_follows.specs.Sorting.{Climb}

climb_tail : (a : ℕ) (xs : List ℕ) → Climb (a ∷ xs) → Climb xs
climb_tail a xs h k low =
    let f : suc k + 1 ≡ suc (k + 1) = omega arith in
    subst (λ n. get_or xs k 0 ≤ get_or (a ∷ xs) n 0) f (h (suc k) (omega (arith, low)))

rise_climbs : (xs : List ℕ) → IsStrictlyIncreasing xs → Climb xs
rise_climbs xs h k low = let up = h k low in omega (arith, up)

-- the first is the least
least : (x p : ℕ) (xs : List ℕ) → Climb (x ∷ xs) → list_any (λ q. q == p) (x ∷ xs) ≡ true → x ≤ p
least x p [] h has = ⊎_elim
    (λ (same : (x == p) ≡ true). let e = eqb-true x p same in omega (arith, e))
    (λ (other : (x == p) ≡ false). absurd (both_ways ((x == p) || false) (ap (λ b. b || false) other) has))
    (cases_Bool (x == p))
least x p (y ∷ xs) h has = ⊎_elim
    (λ (same : (x == p) ≡ true). let e = eqb-true x p same in omega (arith, e))
    (λ (other : (x == p) ≡ false).
    let low : y ≤ p = least y p xs (climb_tail x (y ∷ xs) h) (sym (ap (λ b. b || list_any (λ q. q == p) (y ∷ xs)) other) ∙ has) in
    let first : x ≤ y = h 0 (omega arith) in omega (arith, low, first))
    (cases_Bool (x == p))

counted_there : (x : ℕ) (xs : List ℕ) → 1 ≤ count_by (λ q. q == x) xs → list_any (λ q. q == x) xs ≡ true
counted_there x xs h = ⊎_elim
    (λ (there : list_any (λ q. q == x) xs ≡ true). there)
    (λ (none : list_any (λ q. q == x) xs ≡ false). absurd (let n = count_by-none (λ q. q == x) xs none in omega (arith, n, h)))
    (cases_Bool (list_any (λ q. q == x) xs))

abbrev of : ℕ → List ℕ → ℕ
of p xs = count_by (λ q. q == p) xs

first_of : (x p : ℕ) (xs : List ℕ) → of p (x ∷ xs) ≡ cond (x == p) 1 0 + of p xs
first_of x p xs = sum_by-cons (λ q. cond (q == p) 1 0) x xs

has_first : (x : ℕ) (xs : List ℕ) → 1 ≤ of x (x ∷ xs)
has_first x xs = count_by-some (λ q. q == x) (x ∷ xs) (or_left (x == x) (list_any (λ q. q == x) xs) (eq-eqb x x refl))

abbrev at_least_one : ℕ → Type 0
at_least_one n = 1 ≤ n

abbrev one_of : ℕ → ℕ → ℕ
one_of p z = cond (z == p) 1 0

pub one_sorted : (xs ys : List ℕ) → Climb xs → IsStrictlyIncreasing ys → ((p : ℕ) → of p xs ≡ of p ys) → xs ≡ ys
one_sorted [] [] hx hy same = refl
one_sorted [] (y ∷ ys) hx hy same = let a = same y in let b = has_first y ys in absurd (omega (arith, a, b))
one_sorted (x ∷ xs) [] hx hy same = let a = same x in let b = has_first x xs in absurd (omega (arith, a, b))
one_sorted (x ∷ xs) (y ∷ ys) hx hy same =
    let up = least y x ys (rise_climbs (y ∷ ys) hy) (counted_there x (y ∷ ys) (subst (λ (n : ℕ). at_least_one n) (same x) (has_first x xs))) in
    let down = least x y xs hx (counted_there y (x ∷ xs) (subst (λ (n : ℕ). at_least_one n) (sym (same y)) (has_first y ys))) in
    let one : x ≡ y = omega (arith, up, down) in
    let rest : (p : ℕ) → of p xs ≡ of p ys = λ p. rest_same p one in
    (λ i. one i ∷ one_sorted xs ys (climb_tail x xs hx) (rise_tail y ys hy) rest i)
  where
    rest_same : (p : ℕ) → x ≡ y → of p xs ≡ of p ys
    rest_same p one =
        let a = first_of x p xs in
        let b = first_of y p ys in
        let c = ap (one_of p) one in
        let d = same p in
        omega (arith, a, b, c, d)

-- ---- the same by a test of the ports that there are

never : (p : ℕ) (xs : List ℕ) → list_any (λ q. q == p) xs ≡ false → of p xs ≡ 0
never p xs h = count_by-none (λ q. q == p) xs h

pub once_if : (closed seen : List ℕ) → are_told_once closed seen ≡ true → (p : ℕ) → of p seen ≡ of p closed
once_if closed seen h p = ⊎_elim
    (λ (there : list_any (λ q. q == p) (closed ++ seen) ≡ true).
    let w = contained p (closed ++ seen) there in
    let passes : (of p seen == of p closed) ≡ true = all_have (λ q. of q seen == of q closed) (closed ++ seen) h p w in
    eqb-true (of p seen) (of p closed) passes)
    (λ (none : list_any (λ q. q == p) (closed ++ seen) ≡ false).
    let parts = or_parts (list_any (λ q. q == p) closed) (list_any (λ q. q == p) seen) (sym (list_any-append (λ q. q == p) closed seen) ∙ none) in
    never p seen parts.1 ∙ sym (never p closed parts.0))
    (cases_Bool (list_any (λ q. q == p) (closed ++ seen)))

pub if_once : (closed seen : List ℕ) → ((p : ℕ) → of p seen ≡ of p closed) → are_told_once closed seen ≡ true
if_once closed seen h = all_pass (closed ++ seen)
  where
    all_pass : (xs : List ℕ) → list_all (λ p. of p seen == of p closed) xs ≡ true
    all_pass [] = refl
    all_pass (x ∷ xs) = and_from (of x seen == of x closed) (list_all (λ p. of p seen == of p closed) xs) (eq-eqb (of x seen) (of x closed) (h x)) (all_pass xs)

pub told_once : (closed seen : List ℕ) (b : Bool) → (IsTrue b ↔ ((p : ℕ) → of p seen ≡ of p closed)) → b ≡ are_told_once closed seen
told_once closed seen true w = sym (if_once closed seen (w.0 refl))
told_once closed seen false w = sym (false_from_ne_true (are_told_once closed seen) (λ h. both_ways false refl (w.1 (once_if closed seen h))))
