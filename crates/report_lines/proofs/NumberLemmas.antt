-- Which words write which numbers.
use Rattle.std.proofs.Common.{◌≡◌, ◌==◌, ◌<◌, ◌≤◌, ◌^◌, ◌&&◌, ◌||◌, not, nat_le, ℕ, zero, suc, true, false, List, [], ◌∷◌, length, get_or, Option, Some, None, option_map, decimal, refl, sym, ap, ◌∙◌, arith}
use Rattle.std.proofs.lemmas.Option.{same_Some}
use Rattle.std.specs.Option.{option_zip}
use Rattle.std.specs.List.{All, list_all}
use Rattle.std.specs.Char.{is_ascii_digit, digit_value}
use Rattle.std.specs.Str.{all_ascii_digits}
use Rattle.std.specs.Str.Parse.{AllDigits, IsNumeral, digits_value}
use Rattle.std.proofs.lemmas.Bool.{and_from, and_parts, cond-true}
use Rattle.std.proofs.lemmas.Bool.Decides.{nat_tests}
use Rattle.std.proofs.lemmas.Fmt.{decimal_is_IsNumeral, decimal-digits_value, decimal_digit, first_decimal}
use Rattle.std.proofs.lemmas.Str.Parse.{numerals_by_value, tells_all_ascii_digits}
use Rattle.report_lines.specs.Parts.{before, is_used_up}
use Rattle.report_lines.specs.Numbers.{is_plain, max32, one_in, plain, three_in, two_in, within}
use Rattle.base.proofs.NumberLaws.{at_most}
use Rattle.base.proofs.OptionLaws.{when_some}

pub record Mapped {A B : Type 0} (f : A → B) (o : Option A) (y : B) : Type 0 where
  pub value : A
  pub found : o ≡ Some value
  pub gives : f value ≡ y

pub mapped : {A B : Type 0} (f : A → B) (o : Option A) (y : B) → option_map f o ≡ Some y → Mapped f o y
mapped f None y e = let never : ⊥ = cc in absurd never
mapped f (Some x) y e = record { value = x; found = refl; gives = same_Some (f x) y e }

same_digits : (word : List ℕ) → list_all is_ascii_digit word ≡ all_ascii_digits word
same_digits [] = refl
same_digits (byte ∷ bytes) = ap (λ rest. is_ascii_digit byte && rest) (same_digits bytes)

lead_of : (first len : ℕ) → (not (first == 48) || len == 1) ≡ true → first ≡ 48 → len ≡ 1
lead_of first len holds is = grind (arith, nat_tests)

-- a word that is digits without leading zeros is what its value is written as
plain_word : (word : List ℕ) → is_plain word ≡ true → digits_value 10 word < 2 ^ 64 → decimal (digits_value 10 word) ≡ word
plain_word [] is small = let never : ⊥ = cc in absurd never
plain_word (first ∷ rest) is small =
    let word : List ℕ = first ∷ rest in
    let parts = and_parts (list_all is_ascii_digit word) (not (first == 48) || length word == 1) is in
    decimal-digits_value (numerals_by_value (λ ds. all_ascii_digits ds ≡ true) tells_all_ascii_digits) word (sym (same_digits word) ∙ parts.0) (omega arith) (lead_of first (length word) parts.1) small

high_of : (n most : ℕ) → n ≤ most → nat_le n most ≡ true
high_of n most low = grind (arith, nat_tests)

pub record Writes (most : ℕ) (word : List ℕ) (n : ℕ) : Type 0 where
  pub text : word ≡ decimal n
  pub low : n ≤ most

-- A word is a number only as this is written.
pub plain_is : (most : ℕ) (word : List ℕ) (n : ℕ) → most < 2 ^ 64 → plain most word ≡ Some n → Writes most word n
plain_is most word n small e =
    let outer = when_some (is_plain word) (within most (digits_value 10 word)) n e in
    let inner = when_some (nat_le (digits_value 10 word) most) (Some (digits_value 10 word)) n outer.1 in
    let value = same_Some (digits_value 10 word) n inner.1 in
    let low = at_most (digits_value 10 word) most inner.0 in
    record { text = sym (plain_word word outer.0 (omega arith)) ∙ ap decimal value; low = omega arith }

all_digits : (word : List ℕ) → AllDigits 10 word → list_all is_ascii_digit word ≡ true
all_digits [] all = refl
all_digits (byte ∷ bytes) all = and_from (is_ascii_digit byte) (list_all is_ascii_digit bytes) (grind (arith, nat_tests, all.0)) (all_digits bytes all.1)

no_zero : (first len : ℕ) → 48 < first → (not (first == 48) || len == 1) ≡ true
no_zero first len above = grind (arith, nat_tests)

is_plain_if : (word : List ℕ) → IsNumeral 10 word → 48 < get_or word 0 0 → is_plain word ≡ true
is_plain_if [] is above = let never : ⊥ = omega (arith, is.0) in absurd never
is_plain_if (first ∷ rest) is above =
    and_from (list_all is_ascii_digit (first ∷ rest)) (not (first == 48) || length (first ∷ rest) == 1) (all_digits (first ∷ rest) is.1) (no_zero first (length (first ∷ rest)) above)

decimal_is_plain : (n : ℕ) → n < 2 ^ 64 → is_plain (decimal n) ≡ true
decimal_is_plain zero small = ap is_plain (decimal_digit 0 (omega arith))
decimal_is_plain (suc n) small = is_plain_if (decimal (suc n)) (decimal_is_IsNumeral (suc n) small).0 (first_decimal (suc n) (omega arith) small)

-- A number is read from what it is written as.
pub plain_of : (most n : ℕ) → most < 2 ^ 64 → n ≤ most → plain most (decimal n) ≡ Some n
plain_of most n small low =
    cond-true _ _ _ (decimal_is_plain n (omega arith)) ∙ ap (within most) (decimal_is_IsNumeral n (omega arith)).1 ∙ cond-true _ _ _ (high_of n most low)

-- no byte of it is a space
abbrev pub Unspaced : List ℕ → Type 0
Unspaced word = All (λ byte. (byte == 32) ≡ false) word

digit_unspaced : (byte : ℕ) → digit_value byte < 10 → (byte == 32) ≡ false
digit_unspaced byte digit = grind (arith, nat_tests)

digits_unspaced : (word : List ℕ) → AllDigits 10 word → (k d : ℕ) → k < length word → (get_or word k d == 32) ≡ false
digits_unspaced [] all k d low = absurd (omega arith)
digits_unspaced (byte ∷ bytes) all zero d low = digit_unspaced byte all.0
digits_unspaced (byte ∷ bytes) all (suc k) d low = digits_unspaced bytes all.1 k d (omega arith)

pub decimal_unspaced : (n : ℕ) → n < 2 ^ 64 → Unspaced (decimal n)
decimal_unspaced n small = digits_unspaced (decimal n) (decimal_is_IsNumeral n small).0.1

pub ended_is : {A : Type 0} (left : List A) → is_used_up left ≡ true → left ≡ []
ended_is [] is = refl
ended_is (part ∷ more) is = let never : ⊥ = cc in absurd never

pub record WritesOne (most : ℕ) (words : List (List ℕ)) (n : ℕ) : Type 0 where
  pub texts : words ≡ decimal n ∷ []
  pub low : n ≤ most

pub one_is : (most : ℕ) (words : List (List ℕ)) (n : ℕ) → most < 2 ^ 64 → one_in most words ≡ Some n → WritesOne most words n
one_is most [] n small e = let never : ⊥ = cc in absurd never
one_is most (first ∷ rest) n small e =
    let outer = when_some (is_used_up rest) (plain most first) n e in
    let number = plain_is most first n small outer.1 in
    record { texts = ap (λ w. w ∷ rest) number.text ∙ ap (λ r. decimal n ∷ r) (ended_is rest outer.0); low = number.low }

pub one_of : (most n : ℕ) → most < 2 ^ 64 → n ≤ most → one_in most (decimal n ∷ []) ≡ Some n
one_of most n small low = plain_of most n small low

pub record Both {A B : Type 0} (o : Option A) (p : Option B) (r : A × B) : Type 0 where
  pub first : o ≡ Some r.0
  pub second : p ≡ Some r.1

pub both_are : {A B : Type 0} (o : Option A) (p : Option B) (r : A × B) → option_zip o p ≡ Some r → Both o p r
both_are None p r e = let never : ⊥ = cc in absurd never
both_are (Some a) None r e = let never : ⊥ = cc in absurd never
both_are (Some a) (Some b) r e =
    let is : (a, b) ≡ r = same_Some (a, b) r e in
    record { first = ap (λ q. Some q.0) is; second = ap (λ q. Some q.1) is }

pub record WritesTwo (most : ℕ) (words : List (List ℕ)) (n : ℕ × ℕ) : Type 0 where
  pub texts : words ≡ decimal n.0 ∷ decimal n.1 ∷ []
  pub first : n.0 ≤ max32
  pub second : n.1 ≤ most

pub two_are : (most : ℕ) (words : List (List ℕ)) (n : ℕ × ℕ) → most < 2 ^ 64 → two_in most words ≡ Some n → WritesTwo most words n
two_are most [] n small e = let never : ⊥ = cc in absurd never
two_are most (first ∷ rest) n small e =
    let parts = both_are (plain max32 first) (one_in most rest) n e in
    let number = plain_is max32 first n.0 (omega arith) parts.first in
    let more = one_is most rest n.1 small parts.second in
    record { texts = ap (λ w. w ∷ rest) number.text ∙ ap (λ r. decimal n.0 ∷ r) more.texts; first = number.low; second = more.low }

record Before {A B C : Type 0} (o : Option A) (p : Option (B × C)) (r : A × B × C) : Type 0 where
  first : o ≡ Some r.0
  more : p ≡ Some (r.1, r.2)

before_are : {A B C : Type 0} (o : Option A) (p : Option (B × C)) (r : A × B × C) → before o p ≡ Some r → Before o p r
before_are None p r e = let never : ⊥ = cc in absurd never
before_are (Some a) None r e = let never : ⊥ = cc in absurd never
before_are (Some a) (Some m) r e =
    let is : (a, m.0, m.1) ≡ r = same_Some (a, m.0, m.1) r e in
    record { first = ap (λ q. Some q.0) is; more = ap (λ q. Some (q.1, q.2)) is }

pub record WritesThree (words : List (List ℕ)) (n : ℕ × ℕ × ℕ) : Type 0 where
  pub texts : words ≡ decimal n.0 ∷ decimal n.1 ∷ decimal n.2 ∷ []
  pub first : n.0 ≤ max32
  pub second : n.1 ≤ max32
  pub third : n.2 ≤ max32

pub three_are : (words : List (List ℕ)) (n : ℕ × ℕ × ℕ) → three_in words ≡ Some n → WritesThree words n
three_are [] n e = let never : ⊥ = cc in absurd never
three_are (first ∷ rest) n e =
    let parts = before_are (plain max32 first) (two_in max32 rest) n e in
    let number = plain_is max32 first n.0 (omega arith) parts.first in
    let more = two_are max32 rest (n.1, n.2) (omega arith) parts.more in
    record {
      texts = ap (λ w. w ∷ rest) number.text ∙ ap (λ r. decimal n.0 ∷ r) more.texts;
      first = number.low;
      second = more.first;
      third = more.second;
    }

pub three_of : (a b c : ℕ) → a ≤ max32 → b ≤ max32 → c ≤ max32 → three_in (decimal a ∷ decimal b ∷ decimal c ∷ []) ≡ Some (a, b, c)
three_of a b c p q r = rw (plain_of max32 a (omega arith) p, plain_of max32 b (omega arith) q, plain_of max32 c (omega arith) r) refl

pub two_numbers_of : (most a b : ℕ) → most < 2 ^ 64 → a ≤ max32 → b ≤ most → two_in most (decimal a ∷ decimal b ∷ []) ≡ Some (a, b)
two_numbers_of most a b small p q = rw (plain_of max32 a (omega arith) p, plain_of most b small q) refl
