-- What the tokens of a line are by its first byte, and by its first word.
use Rattle.std.proofs.Common.{◌≡◌, ℕ, zero, suc, ◌+◌, Bool, true, false, not, ◌||◌, ◌&&◌, ◌==◌, ◌-◌, ◌≤◌, length, inl, inr, List, [], ◌∷◌, ◌++◌, take, drop, refl, sym, ap, ◌∙◌, arith}
use Rattle.std.specs.List.{prefix_len, list_all}
use Rattle.std.proofs.lemmas.Bool.{cond-true, cond-false, and_parts, and_right, cases_Bool, not-true}
use Rattle.std.proofs.lemmas.Bool.Decides.{nat_tests}
use Rattle.std.proofs.lemmas.Grind.{common_steps}
use Rattle.change_script.specs.Tokens.{ScriptToken, word, opened, closed, comma, arrow, is_blank, begins_blank, is_sign, sign, is_word_byte, is_arrow, begins_word, is_word, word_len, onto_word, tokens, tokens_behind}

pub drop_one_more : {A : Type 0} (k : ℕ) (x : A) (xs : List A) → drop (1 + k) (x ∷ xs) ≡ drop k xs
drop_one_more k x xs = let e : 1 + k ≡ suc k = omega arith in ap (λ n. drop n (x ∷ xs)) e

pub at_blank : (b : ℕ) (bs : List ℕ) → is_blank b ≡ true → tokens (b ∷ bs) ≡ tokens bs
at_blank b bs holds = cond-true _ _ _ holds

at_sign : (b : ℕ) (bs : List ℕ) → is_blank b ≡ false → is_sign b ≡ true → tokens (b ∷ bs) ≡ sign b ∷ tokens bs
at_sign b bs fails holds = cond-false _ _ _ fails ∙ cond-true _ _ _ holds

at_arrow : (b : ℕ) (bs : List ℕ) → is_blank b ≡ false → is_sign b ≡ false → is_arrow b bs ≡ true → tokens (b ∷ bs) ≡ arrow ∷ tokens_behind true bs
at_arrow b bs fails none holds = cond-false _ _ _ fails ∙ cond-false _ _ _ none ∙ cond-true _ _ _ holds

at_word : (b : ℕ) (bs : List ℕ) → is_blank b ≡ false → is_sign b ≡ false → is_arrow b bs ≡ false → tokens (b ∷ bs) ≡ onto_word b (begins_word bs) (tokens bs)
at_word b bs fails none no_arrow = cond-false _ _ _ fails ∙ cond-false _ _ _ none ∙ cond-false _ _ _ no_arrow

skip_yes : (b : ℕ) (bs : List ℕ) → is_blank b ≡ true → tokens (drop (prefix_len is_blank bs) bs) ≡ tokens bs
    → tokens (drop (prefix_len is_blank (b ∷ bs)) (b ∷ bs)) ≡ tokens (b ∷ bs)
skip_yes b bs holds rest = ap (λ n. tokens (drop n (b ∷ bs))) (cond-true _ _ _ holds) ∙ ap tokens (drop_one_more (prefix_len is_blank bs) b bs) ∙ rest ∙ sym (at_blank b bs holds)

skip_no : (b : ℕ) (bs : List ℕ) → is_blank b ≡ false → tokens (drop (prefix_len is_blank (b ∷ bs)) (b ∷ bs)) ≡ tokens (b ∷ bs)
skip_no b bs fails = ap (λ n. tokens (drop n (b ∷ bs))) (cond-false _ _ _ fails)

-- Blanks before a line's first token change nothing.
pub blanks_skipped : (line : List ℕ) → tokens (drop (prefix_len is_blank line) line) ≡ tokens line
blanks_skipped [] = refl
blanks_skipped (b ∷ bs) = elim (cases_Bool (is_blank b)) [ inl holds ↦ skip_yes b bs holds (blanks_skipped bs) | inr fails ↦ skip_no b bs fails ]

-- A byte of a word is none of the others.
pub record Apart (b : ℕ) (bs : List ℕ) : Type 0 where
  pub no_blank : is_blank b ≡ false
  pub no_sign : is_sign b ≡ false
  pub no_arrow : is_arrow b bs ≡ false

not_either : (blank sign : Bool) → not (blank || sign) ≡ true → (blank ≡ false) × (sign ≡ false)
not_either true sign h = cc
not_either false true h = cc
not_either false false h = (refl, refl)

apart_of : (b : ℕ) (bs : List ℕ) → is_word_byte b ≡ true → is_arrow b bs ≡ false → Apart b bs
apart_of b bs byte no_arrow = let both = not_either (is_blank b) (is_sign b) byte in record { no_blank = both.0; no_sign = both.1; no_arrow = no_arrow }

apart : (b : ℕ) (bs : List ℕ) → begins_word (b ∷ bs) ≡ true → Apart b bs
apart b bs h = let both = and_parts (is_word_byte b) (not (is_arrow b bs)) h in apart_of b bs both.0 (not-true (is_arrow b bs) both.1)

no_word : (b : ℕ) (bs : List ℕ) → Apart b bs → begins_word (b ∷ bs) ≡ true
no_word b bs a = ap (λ blank. not (blank || is_sign b) && not (is_arrow b bs)) a.no_blank ∙ ap (λ sign. not sign && not (is_arrow b bs)) a.no_sign ∙ ap not a.no_arrow

pub no_len : (bs : List ℕ) → begins_word bs ≡ false → word_len bs ≡ 0
no_len [] fails = refl
no_len (b ∷ bs) fails = cond-false _ _ _ fails

pub one_more_len : (b : ℕ) (bs : List ℕ) → begins_word (b ∷ bs) ≡ true → word_len (b ∷ bs) ≡ suc (word_len bs)
one_more_len b bs holds = cond-true _ _ _ holds

-- The word at the front of a line has all the word's bytes.
pub word_first : (line : List ℕ) → begins_word line ≡ true → tokens line ≡ word (take (word_len line) line) ∷ tokens (drop (word_len line) line)
word_first [] holds = cc
word_first (b ∷ bs) holds =
    let a = apart b bs holds in
    let n : ℕ = word_len bs in
    let here = at_word b bs a.no_blank a.no_sign a.no_arrow in
    let front : word (take (word_len (b ∷ bs)) (b ∷ bs)) ∷ tokens (drop (word_len (b ∷ bs)) (b ∷ bs)) ≡ word (b ∷ take n bs) ∷ tokens (drop n bs) =
    ap (λ k. word (take k (b ∷ bs)) ∷ tokens (drop k (b ∷ bs))) (cond-true _ _ _ holds) in
    elim (cases_Bool (begins_word bs)) [
      | inl more ↦ here ∙ ap (λ g. onto_word b g (tokens bs)) more ∙ ap (onto_word b true) (word_first bs more) ∙ sym front
      | inr last ↦ here ∙ ap (λ g. onto_word b g (tokens bs)) last ∙ sym (front ∙ ap (λ k. word (b ∷ take k bs) ∷ tokens (drop k bs)) (no_len bs last))
    ]

-- A line whose first byte begins a word has that word first.
onto_word_is : (b : ℕ) (goes_on : Bool) (ts : List ScriptToken) → (bytes : List ℕ) × (more : List ScriptToken) × (onto_word b goes_on ts ≡ word bytes ∷ more)
onto_word_is b true (word bytes ∷ ts) = (b ∷ bytes, ts, refl)
onto_word_is b true [] = (b ∷ [], [], refl)
onto_word_is b true (opened ∷ ts) = (b ∷ [], opened ∷ ts, refl)
onto_word_is b true (closed ∷ ts) = (b ∷ [], closed ∷ ts, refl)
onto_word_is b true (comma ∷ ts) = (b ∷ [], comma ∷ ts, refl)
onto_word_is b true (arrow ∷ ts) = (b ∷ [], arrow ∷ ts, refl)
onto_word_is b false ts = (b ∷ [], ts, refl)

abbrev token_code : ScriptToken → ℕ
token_code (word bytes) = 0
token_code opened = 40
token_code closed = 41
token_code comma = 44
token_code arrow = 45

pub sign_code : (b : ℕ) → is_sign b ≡ true → token_code (sign b) ≡ b
sign_code b holds = grind (arith, nat_tests)

sign_no_word : (b : ℕ) (bytes : List ℕ) → is_sign b ≡ true → sign b ≡ word bytes → ⊥
sign_no_word b bytes holds e = let zero : b ≡ 0 = sym (sign_code b holds) ∙ ap token_code e in absurd (grind (arith, nat_tests))

sign_no_arrow : (b : ℕ) → is_sign b ≡ true → sign b ≡ arrow → ⊥
sign_no_arrow b holds e = let dash : b ≡ 45 = sym (sign_code b holds) ∙ ap token_code e in absurd (grind (arith, nat_tests))

-- What comes first in a line that has no blank there: nothing, a sign, an arrow, or a word.
pub data First : List ℕ → Type 0 where
  at_end : First []
  a_sign : (b : ℕ) (bs : List ℕ) → is_sign b ≡ true → tokens (b ∷ bs) ≡ sign b ∷ tokens bs → First (b ∷ bs)
  an_arrow : (b : ℕ) (bs : List ℕ) → is_arrow b bs ≡ true → tokens (b ∷ bs) ≡ arrow ∷ tokens_behind true bs → First (b ∷ bs)
  a_word : (b : ℕ) (bs bytes : List ℕ) (more : List ScriptToken) → Apart b bs → tokens (b ∷ bs) ≡ word bytes ∷ more → First (b ∷ bs)

pub first_of_line : (line : List ℕ) → begins_blank line ≡ false → First line
first_of_line [] fails = at_end
first_of_line (b ∷ bs) fails =
    elim (cases_Bool (is_sign b)) [
      | inl holds ↦ a_sign b bs holds (at_sign b bs fails holds)
      | inr none ↦ elim (cases_Bool (is_arrow b bs)) [
        | inl holds ↦ an_arrow b bs holds (at_arrow b bs fails none holds)
        | inr no_arrow ↦
            let found = onto_word_is b (begins_word bs) (tokens bs) in
            a_word b bs found.0 found.1 (record { no_blank = fails; no_sign = none; no_arrow = no_arrow }) (at_word b bs fails none no_arrow ∙ found.2)
      ]
    ]

no_sign_at : (line : List ℕ) (byte : ℕ) (more : List ScriptToken) → First line → is_sign byte ≡ true → ((bytes : List ℕ) → line ≡ byte ∷ bytes → ⊥) → tokens line ≡ sign byte ∷ more → ⊥
no_sign_at line byte more at_end is other e = cc
no_sign_at line byte more (a_sign b bs holds here) is other e =
    let both : sign b ∷ tokens bs ≡ sign byte ∷ more = sym here ∙ e in
    let same : sign b ≡ sign byte = cc in
    other bs (ap (λ x. x ∷ bs) (sym (sign_code b holds) ∙ ap token_code same ∙ sign_code byte is))
no_sign_at line byte more (an_arrow b bs holds here) is other e =
    let both : arrow ∷ tokens_behind true bs ≡ sign byte ∷ more = sym here ∙ e in
    sign_no_arrow byte is cc
no_sign_at line byte more (a_word b bs bytes rest a here) is other e =
    let both : word bytes ∷ rest ≡ sign byte ∷ more = sym here ∙ e in
    sign_no_word byte bytes is cc

-- No other sign is at the front of a line than its first byte.
pub no_sign_first : (line : List ℕ) (byte : ℕ) (more : List ScriptToken) → begins_blank line ≡ false → is_sign byte ≡ true → ((bytes : List ℕ) → line ≡ byte ∷ bytes → ⊥)
    → tokens line ≡ sign byte ∷ more → ⊥
no_sign_first line byte more fails is other e = no_sign_at line byte more (first_of_line line fails) is other e

no_word_at : (line : List ℕ) (bytes : List ℕ) (more : List ScriptToken) → First line → word_len line ≡ 0 → tokens line ≡ word bytes ∷ more → ⊥
no_word_at line bytes more at_end none e = cc
no_word_at line bytes more (a_sign b bs holds here) none e =
    let both : sign b ∷ tokens bs ≡ word bytes ∷ more = sym here ∙ e in
    sign_no_word b bytes holds cc
no_word_at line bytes more (an_arrow b bs holds here) none e = let both : arrow ∷ tokens_behind true bs ≡ word bytes ∷ more = sym here ∙ e in cc
no_word_at line bytes more (a_word b bs found rest a here) none e = let some : suc (word_len bs) ≡ 0 = sym (one_more_len b bs (no_word b bs a)) ∙ none in absurd (omega arith)

-- No word is at the front of a line that doesn't begin with one.
pub no_word_first : (line : List ℕ) (bytes : List ℕ) (more : List ScriptToken) → begins_blank line ≡ false → word_len line ≡ 0 → tokens line ≡ word bytes ∷ more → ⊥
no_word_first line bytes more fails none e = no_word_at line bytes more (first_of_line line fails) none e

something_at : (line : List ℕ) → First line → (line ≡ [] → ⊥) → tokens line ≡ [] → ⊥
something_at line at_end some e = some refl
something_at line (a_sign b bs holds here) some e = let both : sign b ∷ tokens bs ≡ [] = sym here ∙ e in cc
something_at line (an_arrow b bs holds here) some e = let both : arrow ∷ tokens_behind true bs ≡ [] = sym here ∙ e in cc
something_at line (a_word b bs bytes rest a here) some e = let both : word bytes ∷ rest ≡ [] = sym here ∙ e in cc

-- Nothing but blanks has no token, and all else has one.
pub blank_ends : (line : List ℕ) → list_all is_blank line ≡ true → tokens line ≡ []
blank_ends [] all = refl
blank_ends (b ∷ bs) all = let both = and_parts (is_blank b) (list_all is_blank bs) all in at_blank b bs both.0 ∙ blank_ends bs both.1

pub ends_blank : (line : List ℕ) → tokens line ≡ [] → list_all is_blank line ≡ true
ends_blank [] e = refl
ends_blank (b ∷ bs) e =
    elim (cases_Bool (is_blank b)) [
      | inl holds ↦ ap (λ blank. blank && list_all is_blank bs) holds ∙ ends_blank bs (sym (at_blank b bs holds) ∙ e)
      | inr fails ↦ absurd (something_at (b ∷ bs) (first_of_line (b ∷ bs) fails) (λ none. cc) e)
    ]

not_blank : (b : ℕ) (bs : List ℕ) → is_blank b ≡ false → begins_blank (drop (prefix_len is_blank (b ∷ bs)) (b ∷ bs)) ≡ false
not_blank b bs fails = ap (λ n. begins_blank (drop n (b ∷ bs))) (cond-false _ _ _ fails) ∙ fails

-- No blank is left at the front.
pub no_blank_left : (line : List ℕ) → begins_blank (drop (prefix_len is_blank line) line) ≡ false
no_blank_left [] = refl
no_blank_left (b ∷ bs) =
    elim (cases_Bool (is_blank b)) [
      | inl holds ↦ ap (λ n. begins_blank (drop n (b ∷ bs))) (cond-true _ _ _ holds) ∙ ap begins_blank (drop_one_more (prefix_len is_blank bs) b bs) ∙ no_blank_left bs
      | inr fails ↦ not_blank b bs fails
    ]

-- what the code's word and the rest behind it are
pub word_at : (line : List ℕ) (n : ℕ) → n ≡ word_len line → n ≤ length line → (n ≡ 0 → ⊥) → tokens line ≡ word (take n line) ∷ tokens (take (length line - n) (drop n line))
word_at line n is within some =
    let rest : take (length line - n) (drop n line) ≡ drop n line = grind (arith, common_steps) in
    elim (cases_Bool (begins_word line)) [
      | inl holds ↦ let first = word_first line holds in rw (rest, is) first
      | inr fails ↦ absurd (some (is ∙ no_len line fails))
    ]

drop_next : (line : List ℕ) (n b : ℕ) (bs : List ℕ) → drop n line ≡ b ∷ bs → drop (n + 1) line ≡ bs
drop_next [] n b bs e = let none : drop n [] ≡ [] = grind (arith, common_steps) in let both : [] ≡ b ∷ bs = sym none ∙ e in cc
drop_next (x ∷ xs) zero b bs e = let same : xs ≡ bs = cc in same
drop_next (x ∷ xs) (suc n) b bs e = let step : suc n + 1 ≡ suc (n + 1) = omega arith in ap (λ k. drop k (x ∷ xs)) step ∙ drop_next xs n b bs e

goes_on : (line : List ℕ) (n : ℕ) (rest : List ℕ) → rest ≡ drop n line → begins_word rest ≡ true → word_len (drop n line) ≡ suc (word_len (drop (n + 1) line))
goes_on line n [] is holds = cc
goes_on line n (b ∷ bs) is holds =
    let behind : drop (n + 1) line ≡ bs = drop_next line n b bs (sym is) in
    ap word_len (sym is) ∙ one_more_len b bs holds ∙ ap (λ l. suc (word_len l)) (sym behind)

-- how far a word reaches, one byte further
pub word_goes_on : (line : List ℕ) (n : ℕ) → begins_word (drop n line) ≡ true → word_len (drop n line) ≡ suc (word_len (drop (n + 1) line))
word_goes_on line n holds = goes_on line n (drop n line) refl holds

in_word : (rest : List ℕ) → begins_word rest ≡ true → 1 ≤ length rest
in_word [] holds = cc
in_word (b ∷ bs) holds = omega arith

pub within_word : (line : List ℕ) (n : ℕ) → begins_word (drop n line) ≡ true → n + 1 ≤ length line
within_word line n holds = let some = in_word (drop n line) holds in grind (arith, common_steps)

sign_no_blank : (b : ℕ) → is_sign b ≡ true → is_blank b ≡ false
sign_no_blank b holds = grind (arith, nat_tests)

pub sign_front : (b : ℕ) (bs : List ℕ) → is_sign b ≡ true → tokens (b ∷ bs) ≡ sign b ∷ tokens bs
sign_front b bs holds = at_sign b bs (sign_no_blank b holds) holds

pub arrow_front : (bs : List ℕ) → tokens (45 ∷ 62 ∷ bs) ≡ arrow ∷ tokens bs
arrow_front bs = refl

head_is : (b : ℕ) → (b == 62) ≡ true → (is_blank b ≡ false) × (is_sign b ≡ false) × ((b == 45) ≡ false)
head_is b h = (grind (arith, nat_tests), grind (arith, nat_tests), grind (arith, nat_tests))

no_dash : (b : ℕ) (rest : List ℕ) → (b == 45) ≡ false → is_arrow b rest ≡ false
no_dash b [] h = refl
no_dash b (next ∷ rest) h = ap (λ x. x && (next == 62)) h

head_word : (b : ℕ) (rest : List ℕ) → (b == 62) ≡ true → begins_word (b ∷ rest) ≡ false → ⊥
head_word b rest holds ends = let is = head_is b holds in let no = no_word b rest (record { no_blank = is.0; no_sign = is.1; no_arrow = no_dash b rest is.2 }) in let e : true ≡ false = sym no ∙ ends in cc

-- No arrow goes past the end of a word.
no_arrow_over : (b : ℕ) (rest : List ℕ) → begins_word rest ≡ false → is_arrow b rest ≡ false
no_arrow_over b [] ends = refl
no_arrow_over b (next ∷ rest) ends = elim (cases_Bool (next == 62)) [ inl holds ↦ absurd (head_word next rest holds ends) | inr fails ↦ and_right (b == 45) (next == 62) fails ]

-- The bytes of a word stay those of one before what begins no word.
last_apart : (b : ℕ) (rest : List ℕ) → begins_word (b ∷ []) ≡ true → begins_word rest ≡ false → Apart b rest
last_apart b rest byte ends = apart_of b rest (and_parts (is_word_byte b) true byte).0 (no_arrow_over b rest ends)

more_apart : (b next : ℕ) (bs rest : List ℕ) → begins_word (b ∷ next ∷ bs) ≡ true → Apart b ((next ∷ bs) ++ rest)
more_apart b next bs rest byte = let both = and_parts (is_word_byte b) (not (is_arrow b (next ∷ bs))) byte in apart_of b ((next ∷ bs) ++ rest) both.0 (not-true (is_arrow b (next ∷ bs)) both.1)

word_begins : (b : ℕ) (bs rest : List ℕ) → is_word (b ∷ bs) ≡ true → begins_word rest ≡ false → begins_word ((b ∷ bs) ++ rest) ≡ true
word_begins b [] rest all ends = no_word b rest (last_apart b rest (and_parts (begins_word (b ∷ [])) true all).0 ends)
word_begins b (next ∷ bs) rest all ends = no_word b ((next ∷ bs) ++ rest) (more_apart b next bs rest (and_parts (begins_word (b ∷ next ∷ bs)) (is_word (next ∷ bs)) all).0)

-- The bytes of a word up to a byte that is none are one word.
pub word_front : (b : ℕ) (bs rest : List ℕ) → is_word (b ∷ bs) ≡ true → begins_word rest ≡ false → tokens ((b ∷ bs) ++ rest) ≡ word (b ∷ bs) ∷ tokens rest
word_front b [] rest all ends =
    let a = last_apart b rest (and_parts (begins_word (b ∷ [])) true all).0 ends in
    at_word b rest a.no_blank a.no_sign a.no_arrow ∙ ap (λ g. onto_word b g (tokens rest)) ends
word_front b (next ∷ bs) rest all ends =
    let split = and_parts (begins_word (b ∷ next ∷ bs)) (is_word (next ∷ bs)) all in
    let a = more_apart b next bs rest split.0 in
    at_word b ((next ∷ bs) ++ rest) a.no_blank a.no_sign a.no_arrow ∙ ap (λ g. onto_word b g (tokens ((next ∷ bs) ++ rest))) (word_begins next bs rest split.1 ends)
    ∙ ap (onto_word b true) (word_front next bs rest split.1 ends)

-- A byte of a word that begins no arrow goes before the bytes of a word.
pub onto_is_word : (b : ℕ) (bs : List ℕ) → is_word_byte b ≡ true → (b == 45) ≡ false → is_word bs ≡ true → is_word (b ∷ bs) ≡ true
onto_is_word b bs byte dash all = ap (λ begins. begins && is_word bs) (no_word b bs (apart_of b bs byte (no_dash b bs dash))) ∙ all
