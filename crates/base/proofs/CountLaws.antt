-- How many of a list pass a test, and where the one stands that does.
use Rattle.std.proofs.Common.{◌≡◌, ◌+◌, ◌≤◌, Bool, true, cond, List, [], ◌∷◌, ◌++◌, refl, ap, ◌∙◌, subst, arith, false, ◌||◌, ◌<◌, suc, sym}
use Rattle.std.specs.List.{count_by, list_any}
use Rattle.std.proofs.lemmas.List.Sums.{sum_by-cons}
use Rattle.base.proofs.PlaceLaws.{heads_are, tails_are}
use Rattle.base.proofs.MapLaws.{count_by-append}

-- what passes is counted
pub one_counted : {A : Type 0} (t : A → Bool) (front behind : List A) (y : A) → t y ≡ true → 1 ≤ count_by t (front ++ y ∷ behind)
one_counted t [] behind y h = omega (arith, sum_by-cons (λ z. cond (t z) 1 0) y behind ∙ ap (λ b. cond b 1 0 + count_by t behind) h)
one_counted t (f ∷ front) behind y h = omega (arith, sum_by-cons (λ z. cond (t z) 1 0) f (front ++ y ∷ behind), one_counted t front behind y h)

pub two_counted : {A : Type 0} (t : A → Bool) (x : A) (front behind : List A) (y : A) → t x ≡ true → t y ≡ true → count_by t (x ∷ (front ++ y ∷ behind)) ≤ 1 → ⊥
two_counted t x front behind y h g few =
    let first = sum_by-cons (λ z. cond (t z) 1 0) x (front ++ y ∷ behind) ∙ ap (λ b. cond b 1 0 + count_by t (front ++ y ∷ behind)) h in
    let second = one_counted t front behind y g in
    absurd (omega (arith, first, second, few))

-- where one member passes at most, it stands at one place
pub one_place :
    {A : Type 0} (t : A → Bool) (before after front behind : List A) (x y : A) → count_by t (before ++ x ∷ after) ≤ 1 → before ++ x ∷ after ≡ front ++ y ∷ behind → t x ≡ true → t y ≡ true
    → (before ≡ front) × (x ≡ y)
one_place t [] after [] behind x y few same h g = (refl, heads_are x y after behind same)
one_place t [] after (f ∷ front) behind x y few same h g =
    absurd (two_counted t x front behind y h g (subst (λ xs. count_by t (x ∷ xs) ≤ 1) (tails_are x f after (front ++ y ∷ behind) same) few))
one_place t (b ∷ before) after [] behind x y few same h g =
    absurd (two_counted t b before after x (ap t (heads_are b y (before ++ x ∷ after) behind same) ∙ g) h few)
one_place t (b ∷ before) after (f ∷ front) behind x y few same h g =
    let more_ = sum_by-cons (λ z. cond (t z) 1 0) b (before ++ x ∷ after) in
    let w = one_place t before after front behind x y (omega (arith, more_, few)) (tails_are b f (before ++ x ∷ after) (front ++ y ∷ behind) same) h g in
    (ap (λ z. z ∷ before) (heads_are b f (before ++ x ∷ after) (front ++ y ∷ behind) same) ∙ ap (λ zs. f ∷ zs) w.0, w.1)

-- counts of those that pass a test

pub counted_some : {A : Type 0} (t : A → Bool) (xs : List A) → 1 ≤ count_by t xs → list_any t xs ≡ true
counted_some t [] h = absurd (omega (arith, h))
counted_some t (x ∷ xs) h = by (t x) refl (counted_some t xs)
  where
    by : (b : Bool) → t x ≡ b → (1 ≤ count_by t xs → list_any t xs ≡ true) → list_any t (x ∷ xs) ≡ true
    by true e rest = ap (λ b. b || list_any t xs) e
    by false e rest =
        let one = sum_by-cons (λ y. cond (t y) 1 0) x xs ∙ ap (λ b. cond b 1 0 + count_by t xs) e in
        ap (λ b. b || list_any t xs) e ∙ rest (omega (arith, one, h))

-- ---- what is seen

pub more_counted : {A : Type 0} (test : A → Bool) (x : A) (xs : List A) → 0 < count_by test xs → 0 < count_by test (x ∷ xs)
more_counted test x xs some = omega (arith, some, sum_by-cons (λ y. cond (test y) 1 0) x xs)

-- ---- what is counted once stands at one place

pub counted : {A : Type 0} (t : A → Bool) (x : A) (xs : List A) → t x ≡ true → count_by t (x ∷ xs) ≡ suc (count_by t xs)
counted t x xs h =
    let more_ = count_by-append t (x ∷ []) xs in
    let one : count_by t (x ∷ []) ≡ 1 = ap (λ b. 0 + cond b 1 0) h ∙ omega arith in omega (arith, more_, one)

pub uncounted : {A : Type 0} (t : A → Bool) (x : A) (xs : List A) → t x ≡ false → count_by t (x ∷ xs) ≡ count_by t xs
uncounted t x xs h =
    let more_ = count_by-append t (x ∷ []) xs in
    let one : count_by t (x ∷ []) ≡ 0 = ap (λ b. 0 + cond b 1 0) h ∙ omega arith in omega (arith, more_, one)

pub never_counted : {A : Type 0} (t : A → Bool) (before after : List A) (x : A) → t x ≡ true → count_by t (before ++ x ∷ after) ≡ 0 → ⊥
never_counted t [] after x passes h = let one = counted t x after passes in absurd (omega (arith, one, h))
never_counted t (b ∷ before) after x passes h = by (t b) refl h (never_counted t before after x passes)
  where
    by : (c : Bool) → t b ≡ c → count_by t (b ∷ (before ++ x ∷ after)) ≡ 0 → (count_by t (before ++ x ∷ after) ≡ 0 → ⊥) → ⊥
    by true is h' later = let one = counted t b (before ++ x ∷ after) is in omega (arith, one, h')
    by false is h' later = let one = uncounted t b (before ++ x ∷ after) is in later (sym one ∙ h')

pub one_place_of : {A : Type 0} (t : A → Bool) (b c d e : List A) (x y : A) → b ++ x ∷ d ≡ c ++ y ∷ e → t x ≡ true → t y ≡ true → count_by t (b ++ x ∷ d) ≤ 1 → b ≡ c
one_place_of t [] [] d e x y h tx ty few = refl
one_place_of t [] (z ∷ c) d e x y h tx ty few =
    let rest = tails_are x z d (c ++ y ∷ e) h in
    let one = counted t x d tx in
    let same : count_by t d ≡ count_by t (c ++ y ∷ e) = ap (count_by t) rest in
    absurd (never_counted t c e y ty (omega (arith, one, few, same)))
one_place_of t (z ∷ b) [] d e x y h tx ty few =
    let head = heads_are z y (b ++ x ∷ d) e h in
    let one = counted t z (b ++ x ∷ d) (ap t head ∙ ty) in
    absurd (never_counted t b d x tx (omega (arith, one, few)))
one_place_of t (z ∷ b) (w ∷ c) d e x y h tx ty few =
    let rest = tails_are z w (b ++ x ∷ d) (c ++ y ∷ e) h in
    let less : count_by t (b ++ x ∷ d) ≤ count_by t (z ∷ (b ++ x ∷ d)) = fewer (t z) refl in
    λ i. heads_are z w (b ++ x ∷ d) (c ++ y ∷ e) h i ∷ one_place_of t b c d e x y rest tx ty (omega (arith, less, few)) i
  where
    fewer : (k : Bool) → t z ≡ k → count_by t (b ++ x ∷ d) ≤ count_by t (z ∷ (b ++ x ∷ d))
    fewer true is = let one = counted t z (b ++ x ∷ d) is in omega (arith, one)
    fewer false is = let one = uncounted t z (b ++ x ∷ d) is in omega (arith, one)
