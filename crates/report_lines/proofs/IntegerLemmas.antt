-- Which words write which integers, and the arguments of a component.
use Rattle.std.proofs.Common.{◌≡◌, ◌==◌, ◌<◌, not, zero, suc, ℕ, ℤ, pos, negsuc, true, false, List, [], ◌∷◌, ◌++◌, length, drop, map, slice_index, Option, Some, None, option_map, decimal, refl, sym, ap, subst, ◌∙◌, arith, inl, inr}
use Rattle.std.proofs.lemmas.Option.{same_Some}
use Rattle.std.specs.Fmt.{signed_decimal}
use Rattle.std.specs.List.{join_with_byte, slice_split, AllByRecursion}
use Rattle.std.specs.Char.{digit_value}
use Rattle.std.specs.Str.Parse.{IsNumeral}
use Rattle.std.proofs.lemmas.Bool.{and_from, cond-true, cond-false, cases_Bool}
use Rattle.std.proofs.lemmas.Bool.Decides.{nat_tests}
use Rattle.std.proofs.lemmas.Fmt.{decimal_is_IsNumeral}
use Rattle.std.proofs.lemmas.List.{append-nil}
use Rattle.std.proofs.lemmas.List.Splits.{join_with_byte-slice_split, slice_split_none, slice_split_at}
use Rattle.report_writing.specs.Reports.{args_text}
use Rattle.change_script.specs.StatementTexts.{IsInteger}
use Rattle.report_lines.proofs.TextLaws.{lacks_append, lacks_at}
use Rattle.report_lines.specs.Parts.{all_of}
use Rattle.report_lines.specs.Numbers.{below_zero, plain_integer, plain}
use Rattle.report_lines.specs.Readings.{arguments_in}
use Rattle.report_lines.specs.ReportLines.{lacks}
use Rattle.report_lines.proofs.NumberLemmas.{mapped, plain_is, plain_of}
use Rattle.report_lines.proofs.LastLemmas.{follows}
use Rattle.report_lines.proofs.BracketLemmas.{digits_lack}
use Rattle.base.proofs.NumberLaws.{not_zero}

record IsBelow (value : Option ℕ) (z : ℤ) : Type 0 where
  before : ℕ
  found : value ≡ Some (suc before)
  gives : negsuc before ≡ z

is_below : (value : Option ℕ) (z : ℤ) → below_zero value ≡ Some z → IsBelow value z
is_below None z e = let never : ⊥ = cc in absurd never
is_below (Some zero) z e = let never : ⊥ = cc in absurd never
is_below (Some (suc n)) z e = record { before = n; found = refl; gives = same_Some (negsuc n) z (sym (cond-false _ _ _ (not_zero n)) ∙ e) }

pub record WritesInteger (word : List ℕ) (z : ℤ) : Type 0 where
  pub text : word ≡ signed_decimal z
  pub small : IsInteger z

same_byte : (byte at : ℕ) → (byte == at) ≡ true → byte ≡ at
same_byte byte at is = grind (arith, nat_tests)

minus_first : (word : List ℕ) → (slice_index word 0 == 45) ≡ true → word ≡ 45 ∷ drop 1 word
minus_first [] is = let never : ⊥ = cc in absurd never
minus_first (byte ∷ bytes) is = ap (λ b. b ∷ bytes) (same_byte byte 45 is)

pub integer_is : (word : List ℕ) (z : ℤ) → plain_integer word ≡ Some z → WritesInteger word z
integer_is word z e =
    elim (cases_Bool (slice_index word 0 == 45)) [
      | inl minus ↦
          let below = is_below (plain 2147483648 (drop 1 word)) z (sym (cond-true _ _ _ minus) ∙ e) in
          let number = plain_is 2147483648 (drop 1 word) (suc below.before) (omega arith) below.found in
          subst (λ y. WritesInteger word y) below.gives
          (record { text = minus_first word minus ∙ ap (λ text. 45 ∷ text) number.text; small = omega (arith, number.low) })
      | inr other ↦
          let m = mapped pos (plain 2147483647 word) z (sym (cond-false _ _ _ other) ∙ e) in
          let number = plain_is 2147483647 word m.value (omega arith) m.found in
          subst (λ y. WritesInteger word y) m.gives (record { text = number.text; small = omega (arith, number.low) })
    ]

digit_first : (byte : ℕ) → digit_value byte < 10 → (byte == 45) ≡ false
digit_first byte digit = grind (arith, nat_tests)

no_minus : (word : List ℕ) → IsNumeral 10 word → (slice_index word 0 == 45) ≡ false
no_minus [] is = let never : ⊥ = omega (arith, is.0) in absurd never
no_minus (byte ∷ bytes) is = digit_first byte is.1.0

pub integer_of : (z : ℤ) → IsInteger z → plain_integer (signed_decimal z) ≡ Some z
integer_of (pos n) small =
    cond-false _ _ _ (no_minus (decimal n) (decimal_is_IsNumeral n (omega (arith, small))).0) ∙ ap (option_map pos) (plain_of 2147483647 n (omega arith) (omega (arith, small)))
integer_of (negsuc n) small = ap below_zero (plain_of 2147483648 (suc n) (omega arith) (omega (arith, small))) ∙ cond-false _ _ _ (not_zero n)

-- an integer has no sign but `-`
pub integer_lacks : (at : ℕ) (z : ℤ) → at < 45 → IsInteger z → lacks at (signed_decimal z) ≡ true
integer_lacks at (pos n) low small = digits_lack at (decimal n) (omega arith) (decimal_is_IsNumeral n (omega (arith, small))).0.1
integer_lacks at (negsuc n) low small =
    let minus : not (45 == at) ≡ true = grind (arith, nat_tests) in
    and_from (not (45 == at)) (lacks at (decimal (suc n))) minus (digits_lack at (decimal (suc n)) (omega arith) (decimal_is_IsNumeral (suc n) (omega (arith, small))).0.1)

record AreWritten (words : List (List ℕ)) (integers : List ℤ) : Type 0 where
  texts : words ≡ map signed_decimal integers
  small : AllByRecursion IsInteger integers

integers_are : (words : List (List ℕ)) (integers : List ℤ) → all_of plain_integer words ≡ Some integers → AreWritten words integers
integers_are [] integers e = subst (λ zs. AreWritten [] zs) (same_Some [] integers e) (record { texts = refl; small = tt })
integers_are (word ∷ more) integers e =
    let parts = follows (plain_integer word) (all_of plain_integer more) integers e in
    let first = integer_is word parts.first parts.first_is in
    let rest = integers_are more parts.more parts.more_is in
    subst (λ zs. AreWritten (word ∷ more) zs) parts.parts (record {
      texts = ap (λ w. w ∷ more) first.text ∙ ap (λ ws. signed_decimal parts.first ∷ ws) rest.texts;
      small = (first.small, rest.small);
    })

integers_of : (integers : List ℤ) → AllByRecursion IsInteger integers → all_of plain_integer (map signed_decimal integers) ≡ Some integers
integers_of [] all = refl
integers_of (z ∷ more) all = rw (integer_of z all.0, integers_of more all.1) refl

joined_args : (z : ℤ) (more : List ℤ) → join_with_byte 44 (map signed_decimal (z ∷ more)) ≡ args_text (z ∷ more)
joined_args z [] = sym (append-nil (signed_decimal z))
joined_args z (y ∷ more) = ap (λ text. signed_decimal z ++ (44 ∷ text)) (joined_args y more)

all_joined : (integers : List ℤ) → join_with_byte 44 (map signed_decimal integers) ≡ args_text integers
all_joined [] = refl
all_joined (z ∷ more) = joined_args z more

pub record AreArguments (text : List ℕ) (args : List ℤ) : Type 0 where
  pub whole : text ≡ args_text args
  pub small : AllByRecursion IsInteger args

pub arguments_are : (text : List ℕ) (args : List ℤ) → arguments_in text ≡ Some args → AreArguments text args
arguments_are [] args e = subst (λ zs. AreArguments [] zs) (same_Some [] args e) (record { whole = refl; small = tt })
arguments_are (byte ∷ bytes) args e =
    let text : List ℕ = byte ∷ bytes in
    let all = integers_are (slice_split (λ b. b == 44) text) args e in
    record { whole = sym (join_with_byte-slice_split 44 text) ∙ ap (join_with_byte 44) all.texts ∙ all_joined args; small = all.small }

split_args : (z : ℤ) (more : List ℤ) → AllByRecursion IsInteger (z ∷ more) → slice_split (λ b. b == 44) (args_text (z ∷ more)) ≡ map signed_decimal (z ∷ more)
split_args z [] all =
    ap (slice_split (λ b. b == 44)) (append-nil (signed_decimal z)) ∙ slice_split_none (λ b. b == 44) (signed_decimal z) (lacks_at 44 (signed_decimal z) (integer_lacks 44 z (omega arith) all.0))
split_args z (y ∷ more) all =
    slice_split_at (λ b. b == 44) (signed_decimal z) 44 (args_text (y ∷ more)) (lacks_at 44 (signed_decimal z) (integer_lacks 44 z (omega arith) all.0)) refl
    ∙ ap (λ parts. signed_decimal z ∷ parts) (split_args y more all.1)

some_arguments : (text : List ℕ) (args : List ℤ) → 0 < length args → all_of plain_integer (slice_split (λ b. b == 44) text) ≡ Some args → arguments_in text ≡ Some args
some_arguments [] args some e = let never : ⊥ = cc in absurd never
some_arguments (byte ∷ bytes) args some e = e

pub arguments_of : (args : List ℤ) → AllByRecursion IsInteger args → arguments_in (args_text args) ≡ Some args
arguments_of [] all = refl
arguments_of (z ∷ more) all =
    some_arguments (args_text (z ∷ more)) (z ∷ more) (omega arith) (ap (all_of plain_integer) (split_args z more all) ∙ integers_of (z ∷ more) all)

-- arguments have no parenthesis and no space
pub args_lack : (at : ℕ) (args : List ℤ) → at < 44 → AllByRecursion IsInteger args → lacks at (args_text args) ≡ true
args_lack at [] low all = refl
args_lack at (z ∷ []) low all = lacks_append at (signed_decimal z) [] (integer_lacks at z (omega arith) all.0) refl
args_lack at (z ∷ y ∷ more) low all =
    let comma : not (44 == at) ≡ true = grind (arith, nat_tests) in
    lacks_append at (signed_decimal z) (44 ∷ args_text (y ∷ more)) (integer_lacks at z (omega arith) all.0)
    (and_from (not (44 == at)) (lacks at (args_text (y ∷ more))) comma (args_lack at (y ∷ more) low all.1))
