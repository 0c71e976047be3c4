-- What the definitions of fronts give at each byte that a loop looks at, and that a piece lies within its text.
use Rattle.std.proofs.Common.{◌≡◌, ℕ, suc, ◌+◌, ◌<◌, ◌≤◌, Bool, true, false, eqb, not, ◌||◌, nat_eq, nat_le, Option, Some, None, option_map, IfSome, List, [], ◌∷◌, length, get_or, take, drop, refl, ap, ◌∙◌, arith, drop-cons, add-one, length-drop, codes, lit<}
use Rattle.std.specs.List.{starts_with, prefix_len, find}
use Rattle.std.proofs.lemmas.Bool.{cond_both, cond-false}
use Rattle.std.proofs.lemmas.Bool.Decides.{Decides-eqb}
use Rattle.std.proofs.lemmas.List.Sums.{prefix_len-le-length}
use Rattle.std.proofs.lemmas.List.Prefix.{front_fits}
use Rattle.std.proofs.lemmas.Slice.Eq.{starts_is}
use Rattle.std.specs.Char.{is_ascii_digit}
use Rattle.std.specs.Str.Parse.{digits_value}
use Rattle.darwin_lexer.specs.declared.token.Sign.{Sign}
use Rattle.darwin_lexer.specs.declared.token.Sign.TheVariants as variants
use Rattle.darwin_lexer.specs.declared.front.Front.{Front}
use Rattle.darwin_lexer.specs.Keywords.{begins_name, continues_name, is_blank, sign_bytes, signs}
use Rattle.darwin_lexer.specs.Fronts.{through_close, line_comment, closed_or_open, block_comment, name, number, sign, sign_or_bad, IsFrontWithin, front_of}

-- What begins with some bytes has as many at least.
pub starts_long : (text front : List ℕ) → starts_with nat_eq text front ≡ true → length front ≤ length text
starts_long text front begins = front_fits text front _ ((starts_is Decides-eqb text front _ refl).0 begins)

map_more : (k : ℕ) (o : Option ℕ) → option_map (λ n. k + n) (option_map suc o) ≡ option_map (λ n. k + 1 + n) o
map_more k None = refl
map_more k (Some n) = ap Some (omega arith)

-- Where no comment ends at the first byte, its end is as far as from the next one.
through_close-later : (text : List ℕ) (byte : ℕ) (rest : List ℕ) → text ≡ byte ∷ rest → starts_with nat_eq text (codes "*/") ≡ false → through_close text ≡ option_map suc (through_close rest)
through_close-later [] byte rest is begins = cc
through_close-later (a ∷ text) byte rest is begins = cond-false _ _ _ begins ∙ ap (λ l. option_map suc (through_close l)) (let e : text ≡ rest = cc in e)

pub through_close-next : (text : List ℕ) (i : ℕ) → i < length text → starts_with nat_eq (drop i text) (codes "*/") ≡ false
    → option_map (λ n. i + n) (through_close (drop i text)) ≡ option_map (λ n. i + 1 + n) (through_close (drop (i + 1) text))
through_close-next text i within begins =
    let parts : drop i text ≡ get_or text i 0 ∷ drop (i + 1) text = rw (add-one) (drop-cons text i 0 within) in
    ap (λ o. option_map (λ n. i + n) o) (through_close-later (drop i text) _ _ parts begins) ∙ map_more i _

within_suc : (o : Option ℕ) (k : ℕ) → IfSome o (λ n. n ≤ k) → IfSome (option_map suc o) (λ n. n ≤ suc k)
within_suc None k h = tt
within_suc (Some n) k h = omega arith

pub through_close-within : (text : List ℕ) → IfSome (through_close text) (λ n. n ≤ length text)
through_close-within [] = tt
through_close-within (a ∷ text) =
    cond_both (starts_with nat_eq (a ∷ text) (codes "*/")) _ _ (λ o. IfSome o (λ n. n ≤ suc (length text))) (starts_long (a ∷ text) (codes "*/")) (λ _. within_suc _ _ (through_close-within text))

pub find_passes : {X : Type 0} (test : X → Bool) (xs : List X) → IfSome (find test xs) (λ x. test x ≡ true)
find_passes test [] = tt
find_passes test (x ∷ xs) = cond_both (test x) (Some x) (find test xs) (λ o. IfSome o (λ x. test x ≡ true)) (λ passes. passes) (λ _. find_passes test xs)

-- where the first byte passes, a byte at least does
pub prefix_within : (test : ℕ → Bool) (first : ℕ) (rest : List ℕ) → test first ≡ true → (0 < prefix_len test (first ∷ rest)) × (prefix_len test (first ∷ rest) ≤ length (first ∷ rest))
prefix_within test first rest passes = (rw passes (omega arith), prefix_len-le-length test (first ∷ rest))

line_comment_within : (first : ℕ) (rest : List ℕ) → starts_with nat_eq (first ∷ rest) (codes "//") ≡ true → IsFrontWithin (length (first ∷ rest)) (line_comment (first ∷ rest))
line_comment_within first rest begins =
    let is_slash : first ≡ 47 = ap (λ l. get_or l 0 0) ((starts_is Decides-eqb (first ∷ rest) (codes "//") _ refl).0 begins) in
    prefix_within (λ byte. not (eqb byte 10)) first rest (ap (λ byte. not (eqb byte 10)) is_slash)

closed_within : (text : List ℕ) (o : Option ℕ) → 2 ≤ length text → IfSome o (λ n. n ≤ length (drop 2 text)) → IsFrontWithin (length text) (closed_or_open o)
closed_within text None long within = omega arith
closed_within text (Some n) long within = (omega arith, omega (arith, within, length-drop 2 text))

block_comment_within : (first : ℕ) (rest : List ℕ) → starts_with nat_eq (first ∷ rest) (codes "/*") ≡ true → IsFrontWithin (length (first ∷ rest)) (block_comment (first ∷ rest))
block_comment_within first rest begins = closed_within (first ∷ rest) _ (starts_long (first ∷ rest) (codes "/*") begins) (through_close-within (drop 2 (first ∷ rest)))

name_within : (first : ℕ) (rest : List ℕ) → begins_name first ≡ true → IsFrontWithin (length (first ∷ rest)) (name (first ∷ rest))
name_within first rest begins =
    let n : ℕ = prefix_len continues_name (first ∷ rest) in
    cond_both (nat_le n 64) _ _ (IsFrontWithin (length (first ∷ rest))) (λ _. prefix_within continues_name first rest (ap (λ b. b || is_ascii_digit first) begins)) (λ _. omega arith)

number_within : (first : ℕ) (rest : List ℕ) → is_ascii_digit first ≡ true → IsFrontWithin (length (first ∷ rest)) (number (first ∷ rest))
number_within first rest digit =
    let n : ℕ = prefix_len is_ascii_digit (first ∷ rest) in
    cond_both (nat_le (digits_value 10 (take n (first ∷ rest))) 2147483647) _ _ (IsFrontWithin (length (first ∷ rest))) (λ _. prefix_within is_ascii_digit first rest digit) (λ _. omega arith)

sign_has_bytes : (sign : Sign) → 0 < length (sign_bytes sign)
sign_has_bytes variants.OpenBrace = lit< tt
sign_has_bytes _ = lit< tt

sign_or_bad_within : (text : List ℕ) (o : Option Sign) → 0 < length text → IfSome o (λ sign. starts_with nat_eq text (sign_bytes sign) ≡ true) → IsFrontWithin (length text) (sign_or_bad o)
sign_or_bad_within text None some begins = some
sign_or_bad_within text (Some sign) some begins = (sign_has_bytes sign, starts_long text (sign_bytes sign) begins)

sign_within : (first : ℕ) (rest : List ℕ) → IsFrontWithin (length (first ∷ rest)) (sign (first ∷ rest))
sign_within first rest = sign_or_bad_within (first ∷ rest) _ (omega arith) (find_passes (λ sign. starts_with nat_eq (first ∷ rest) (sign_bytes sign)) signs)

pub front_of_within : (text : List ℕ) → IsFrontWithin (length text) (front_of text)
front_of_within [] = refl
front_of_within (first ∷ rest) =
    let text : List ℕ = first ∷ rest in
    let P : Front → Type 0 = IsFrontWithin (length text) in
    cond_both (is_blank first) _ _ P (λ _. (omega arith, omega arith))
    (λ _. cond_both (starts_with nat_eq text (codes "//")) _ _ P (line_comment_within first rest)
    (λ _. cond_both (starts_with nat_eq text (codes "/*")) _ _ P (block_comment_within first rest)
    (λ _. cond_both (begins_name first) _ _ P (name_within first rest)
    (λ _. cond_both (is_ascii_digit first) _ _ P (number_within first rest)
    (λ _. sign_within first rest)))))
