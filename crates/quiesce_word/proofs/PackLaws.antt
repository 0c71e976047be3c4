-- Numbers that spell fields: what an operation on bits makes of two of them, and how a field is read.
use Rattle.std.proofs.Common.{◌≡◌, ℕ, ◌+◌, ◌-◌, ◌*◌, ◌/◌, ◌%◌, ◌^◌, ◌<◌, false, cond, Option, Some, None, List, [], ◌∷◌, refl, ap, sym, ◌∙◌, arith, add_comm, mul_comm}
use Rattle.std.specs.Prelude.{◌==◌, bit_and, bit_or, bit_xor}
use Rattle.std.proofs.lemmas.Bool.{ne_eqb}
use Rattle.std.proofs.lemmas.Nat.{div-mul-add, mod-mul-add, xor_block, or_block, and_block}
use Rattle.quiesce_word.specs.Packs.{spell, FitIn, by_fields, plus_one, less_one}

-- the operation works on the low bits and on the rest apart
abbrev IsApart : (ℕ → ℕ → ℕ) → Type 0
IsApart op = (k a b r s : ℕ) → r < 2 ^ k → s < 2 ^ k → op (a * 2 ^ k + r) (b * 2 ^ k + s) ≡ op a b * 2 ^ k + op r s

turned : (a b c : ℕ) → a + b * c ≡ c * b + a
turned a b c = add_comm a (b * c) ∙ ap (λ n. n + a) (mul_comm b c)

meet :
    (op : ℕ → ℕ → ℕ) → op 0 0 ≡ 0 → IsApart op → (widths xs ys : List ℕ) → FitIn widths xs → FitIn widths ys
    → op (spell widths xs) (spell widths ys) ≡ spell widths (by_fields op xs ys)
meet op none apart [] [] [] f g = none
meet op none apart [] [] (y ∷ ys) f g = absurd g
meet op none apart [] (x ∷ xs) ys f g = absurd f
meet op none apart (w ∷ widths) [] ys f g = absurd f
meet op none apart (w ∷ widths) (x ∷ xs) [] f g = absurd g
meet op none apart (w ∷ widths) (x ∷ xs) (y ∷ ys) f g =
    let a = spell widths xs in
    let b = spell widths ys in
    ap (λ n. op n (y + 2 ^ w * b)) (turned x (2 ^ w) a) ∙ ap (λ n. op (a * 2 ^ w + x) n) (turned y (2 ^ w) b) ∙ apart w a b x y f.0 g.0
    ∙ sym (turned (op x y) (2 ^ w) (op a b)) ∙ ap (λ n. op x y + 2 ^ w * n) (meet op none apart widths xs ys f.1 g.1)

pub xor_meets : (widths xs ys : List ℕ) → FitIn widths xs → FitIn widths ys
    → bit_xor (spell widths xs) (spell widths ys) ≡ spell widths (by_fields bit_xor xs ys)
xor_meets = meet bit_xor refl xor_block

pub or_meets : (widths xs ys : List ℕ) → FitIn widths xs → FitIn widths ys
    → bit_or (spell widths xs) (spell widths ys) ≡ spell widths (by_fields bit_or xs ys)
or_meets = meet bit_or refl or_block

pub and_meets : (widths xs ys : List ℕ) → FitIn widths xs → FitIn widths ys
    → bit_and (spell widths xs) (spell widths ys) ≡ spell widths (by_fields bit_and xs ys)
and_meets = meet bit_and refl and_block

-- the field of c places at a, with what is below it and above it
pub field : (n a c low mid high : ℕ) → n ≡ (high * c + mid) * a + low → low < a → mid < c → n / a % c ≡ mid
field n a c low mid high e below fits =
    ap (λ k. k / a % c) e ∙ ap (λ k. k % c) (div-mul-add (high * c + mid) a low below) ∙ mod-mul-add high c mid fits

-- what one more stands for

pub one_less_again : (o : Option ℕ) → less_one (plus_one o) ≡ o
one_less_again None = refl
one_less_again (Some n) =
    let some_ : (n + 1 == 0) ≡ false = ne_eqb (n + 1) 0 (λ e. omega arith) in
    let same : n + 1 - 1 ≡ n = omega arith in
    ap (λ b. cond b None (Some (n + 1 - 1))) some_ ∙ ap (λ k. Some k) same
