-- What stands at the front of a text is decided by its spelling alone.
use Rattle.std.proofs.Common.{◌≡◌, ℕ, ◌-◌, ◌<◌, ◌≤◌, ◌⊎◌, inl, inr, ⊎_elim, Bool, true, false, eqb, not, nat_eq, nat_le, if◌then◌else◌, Option, Some, None, List, [], ◌∷◌, ◌++◌, length, get_or, take, drop, refl, sym, ap, ◌∙◌, arith, codes}
use Rattle.std.specs.List.{starts_with}
use Rattle.std.specs.Char.{is_ascii_digit}
use Rattle.std.specs.Str.Parse.{digits_value}
use Rattle.std.proofs.lemmas.Bool.{le-leb, lt-leb, cond-true, cond-false, false≢true, false_from_ne_true}
use Rattle.std.proofs.lemmas.Bool.Decides.{nat_tests, Decides-eqb}
use Rattle.std.proofs.lemmas.List.{get_or-take, length-take-le}
use Rattle.std.proofs.lemmas.Slice.Eq.{starts_is}
use Rattle.std.proofs.Math.Nat.{eq-or-lt_of_le}
use Rattle.darwin_lexer.specs.declared.token.Keyword.{Keyword}
use Rattle.darwin_lexer.specs.declared.token.Keyword.TheVariants as words
use Rattle.darwin_lexer.specs.declared.token.Sign.{Sign}
use Rattle.darwin_lexer.specs.declared.token.Sign.TheVariants as variants
use Rattle.darwin_lexer.specs.declared.token.TokenKind.{TokenKind}
use Rattle.darwin_lexer.specs.declared.token.TokenKind.TheVariants as kinds
use Rattle.darwin_lexer.specs.declared.front.Front.{Front}
use Rattle.darwin_lexer.specs.declared.front.Front.TheVariants.{End, Gap, Lexeme, Broken}
use Rattle.darwin_lexer.specs.declared.front.LexicalFault.TheVariants.{BadByte, OpenComment, LongName, BigNumber}
use Rattle.darwin_lexer.specs.Keywords.{begins_name, is_blank, keyword_bytes, keyword_of, kind_or_name, word_kind, sign_at, sign_bytes}
use Rattle.darwin_lexer.specs.Fronts.{line_comment, block_comment, front_of}
use Rattle.darwin_lexer.specs.Spelling.{Spells, KeepsLimit, IsLongest, BeginsNothing, opens_line_comment, opens_block_comment, IsLineComment, IsBlockComment, NeverCloses, Means}
use Rattle.darwin_lexer.proofs.SpellingLemmas.{spelled_as, letters_first, digits_first, sign_first, sign_length, found_is, line_is, block_or_open, front_means}
use Rattle.base.proofs.NumberLaws.{at_most, above}

-- Two numbers of which neither is less are one.
same_by : (n m : ℕ) → (n < m → ⊥) → (m < n → ⊥) → n ≡ m
same_by n m not_less not_more = go (nat_le n m) refl
  where
    go : (b : Bool) → nat_le n m ≡ b → n ≡ m
    go true is = ⊎_elim (λ same. same) (λ less. absurd (not_less less)) (eq-or-lt_of_le (at_most n m is))
    go false is = absurd (not_more (above n m is))

-- the kind that bytes spell

abbrev sign_or_name : Option Sign → TokenKind
sign_or_name None = kinds.Name
sign_or_name (Some sign) = kinds.Sign sign

abbrev kind_of : List ℕ → TokenKind
kind_of bytes = if begins_name (get_or bytes 0 0) then word_kind bytes else (if is_ascii_digit (get_or bytes 0 0) then kinds.Number (digits_value 10 bytes) else sign_or_name (sign_at bytes))

keyword_kind : (keyword : Keyword) → kind_of (keyword_bytes keyword) ≡ kinds.Word keyword
keyword_kind words.Component = refl
keyword_kind _ = refl

sign_kind : (sign : Sign) → kind_of (sign_bytes sign) ≡ kinds.Sign sign
sign_kind variants.OpenBrace = refl
sign_kind _ = refl

no_keyword : (word : List ℕ) (found : Option Keyword) → keyword_of word ≡ found → ((keyword : Keyword) → word ≡ keyword_bytes keyword → ⊥) → found ≡ None
no_keyword word None is own = refl
no_keyword word (Some keyword) is own = absurd (own keyword (found_is word keyword is))

digit_begins_no_name : (byte : ℕ) → is_ascii_digit byte ≡ true → begins_name byte ≡ false
digit_begins_no_name byte digit = grind (arith, nat_tests)

spelled_kind : (kind : TokenKind) (bytes : List ℕ) → Spells kind bytes → kind_of bytes ≡ kind
spelled_kind kinds.Name bytes is = cond-true _ _ _ is.begins ∙ ap kind_or_name (no_keyword bytes (keyword_of bytes) refl is.own)
spelled_kind (kinds.Number value) bytes is =
    let digit = is.digits 0 0 is.some in
    cond-false _ _ _ (digit_begins_no_name (get_or bytes 0 0) digit) ∙ cond-true _ _ _ digit ∙ ap kinds.Number (sym is.written)
spelled_kind (kinds.Word keyword) bytes is = ap kind_of is ∙ keyword_kind keyword
spelled_kind (kinds.Sign sign) bytes is = ap kind_of is ∙ sign_kind sign

-- a longest token is one

same_length : (text : List ℕ) (kind other : TokenKind) (n m : ℕ) → IsLongest text kind n → IsLongest text other m → n ≡ m
same_length text kind other n m one two = same_by n m (λ less. one.longest other m less two.within two.spelled) (λ less. two.longest kind n less one.within one.spelled)

same_kind : (text : List ℕ) (kind other : TokenKind) (n m : ℕ) → IsLongest text kind n → IsLongest text other m → kind ≡ other
same_kind text kind other n m one two =
    let same = same_length text kind other n m one two in
    sym (spelled_kind kind (take n text) one.spelled) ∙ ap (λ k. kind_of (take k text)) same ∙ spelled_kind other (take m text) two.spelled

-- and doesn't begin with a blank

letter_is_no_blank : (byte : ℕ) → begins_name byte ≡ true → is_blank byte ≡ false
letter_is_no_blank byte letter = grind (arith, nat_tests)

digit_is_no_blank : (byte : ℕ) → is_ascii_digit byte ≡ true → is_blank byte ≡ false
digit_is_no_blank byte digit = grind (arith, nat_tests)

sign_is_no_blank : (sign : Sign) → is_blank (get_or (sign_bytes sign) 0 0) ≡ false
sign_is_no_blank variants.OpenBrace = refl
sign_is_no_blank _ = refl

token_no_blank : (text : List ℕ) (kind : TokenKind) (n : ℕ) → Spells kind (take n text) → is_blank (get_or text 0 0) ≡ false
token_no_blank text kind n is = ⊎_elim
    (λ letters. letter_is_no_blank (get_or text 0 0) (letters_first n text letters))
    (λ others. ⊎_elim
    (λ digits. digit_is_no_blank (get_or text 0 0) (digits_first n text digits))
    (λ signed. ap is_blank (sign_first n text signed.0 signed.1) ∙ sign_is_no_blank signed.0)
    others)
    (spelled_as kind (take n text) is)

spelled_some : (kind : TokenKind) (bytes : List ℕ) → Spells kind bytes → 0 < length bytes
spelled_some kind [] is = absurd (⊎_elim
    (λ letters. false≢true letters.0)
    (λ others. ⊎_elim (λ digits. (let none : ⊥ = omega (arith, digits.0) in none)) (λ signed. (let none : ⊥ = omega (arith, ap length signed.1, (sign_length signed.0).0) in none)) others)
    (spelled_as kind [] is))
spelled_some kind (byte ∷ bytes) is = omega arith

token_some : (text : List ℕ) (kind : TokenKind) (n : ℕ) → n ≤ length text → Spells kind (take n text) → 0 < length text
token_some text kind n within is = omega (arith, length-take-le n text within, spelled_some kind (take n text) is)

-- what stands where no blank and no comment does

-- the front of a longest token, by the limits
abbrev verdict : TokenKind → ℕ → Front
verdict kinds.Name n = if nat_le n 64 then Lexeme kinds.Name n else Broken LongName
verdict (kinds.Number value) n = if nat_le value 2147483647 then Lexeme (kinds.Number value) n else Broken BigNumber
verdict (kinds.Word keyword) n = Lexeme (kinds.Word keyword) n
verdict (kinds.Sign sign) n = Lexeme (kinds.Sign sign) n

kept : (kind : TokenKind) (n : ℕ) → KeepsLimit kind n → Lexeme kind n ≡ verdict kind n
kept kinds.Name n short = sym (cond-true _ _ _ (le-leb n 64 short))
kept (kinds.Number value) n small = sym (cond-true _ _ _ (le-leb value 2147483647 small))
kept (kinds.Word keyword) n _ = refl
kept (kinds.Sign sign) n _ = refl

too_long : (n : ℕ) → 64 < n → Broken LongName ≡ verdict kinds.Name n
too_long n long = sym (cond-false _ _ _ (lt-leb n 64 long))

too_big : (value n : ℕ) → 2147483647 < value → Broken BigNumber ≡ verdict (kinds.Number value) n
too_big value n big = sym (cond-false _ _ _ (lt-leb value 2147483647 big))

abbrev IsTokenOrBad : List ℕ → Front → Type 0
IsTokenOrBad text front = ((kind : TokenKind) × (n : ℕ) × IsLongest text kind n × (front ≡ verdict kind n)) ⊎ (BeginsNothing text × (front ≡ Broken BadByte))

token_or_bad : (text : List ℕ) (front : Front) → 0 < length text → is_blank (get_or text 0 0) ≡ false → opens_line_comment text ≡ false → opens_block_comment text ≡ false → Means text front → IsTokenOrBad text front
token_or_bad text End some no_blank no_line no_block is = absurd (let none : ⊥ = omega (arith, ap length is, some) in none)
token_or_bad text (Gap n) some no_blank no_line no_block is = absurd (⊎_elim
    (λ blank. false≢true (sym no_blank ∙ blank.1))
    (λ comment. ⊎_elim (λ line. false≢true (sym no_line ∙ line.opens)) (λ block. false≢true (sym no_block ∙ block.opens)) comment)
    is)
token_or_bad text (Lexeme kind n) some no_blank no_line no_block is = inl (kind, n, is.0, kept kind n is.1)
token_or_bad text (Broken BadByte) some no_blank no_line no_block is = inr (is, refl)
token_or_bad text (Broken OpenComment) some no_blank no_line no_block is = absurd (false≢true (sym no_block ∙ is.opens))
token_or_bad text (Broken LongName) some no_blank no_line no_block is = inl (kinds.Name, is.n, is.token, too_long is.n is.long)
token_or_bad text (Broken BigNumber) some no_blank no_line no_block is = inl (kinds.Number is.value, is.n, is.token, too_big is.value is.n is.big)

token_decides : (text : List ℕ) (kind : TokenKind) (n : ℕ) → IsLongest text kind n → verdict kind n ≡ front_of text
token_decides text kind n is = ⊎_elim
    (λ token. ap (λ k. verdict k n) (same_kind text kind token.0 n token.1 is token.2) ∙ ap (verdict token.0) (same_length text kind token.0 n token.1 is token.2) ∙ sym token.3)
    (λ bad. absurd (bad.0.no_token kind n is.within is.spelled))
    (token_or_bad text (front_of text) (token_some text kind n is.within is.spelled) (token_no_blank text kind n is.spelled) is.no_line_comment is.no_block_comment (front_means text))

nothing_decides : (text : List ℕ) → BeginsNothing text → Broken BadByte ≡ front_of text
nothing_decides text is = ⊎_elim
    (λ token. absurd (is.no_token token.0 token.1 token.2.within token.2.spelled))
    (λ bad. sym bad.1)
    (token_or_bad text (front_of text) is.some is.no_blank is.no_line_comment is.no_block_comment (front_means text))

-- blanks and comments

blank_decides : (text : List ℕ) → is_blank (get_or text 0 0) ≡ true → Gap 1 ≡ front_of text
blank_decides [] blank = absurd (false≢true blank)
blank_decides (first ∷ rest) blank = sym (cond-true _ _ _ blank)

opens_front : (text front : List ℕ) → starts_with nat_eq text front ≡ true → text ≡ front ++ drop (length front) text
opens_front text front begins = (starts_is Decides-eqb text front _ refl).0 begins

line_front : (text : List ℕ) → opens_line_comment text ≡ true → front_of text ≡ line_comment text
line_front [] opens = absurd (false≢true opens)
line_front (first ∷ rest) opens =
    let slash : first ≡ 47 = ap (λ l. get_or l 0 0) (opens_front (first ∷ rest) (codes "//") opens) in
    cond-false _ _ _ (ap is_blank slash) ∙ cond-true _ _ _ opens

block_front : (text : List ℕ) → opens_block_comment text ≡ true → front_of text ≡ block_comment text
block_front [] opens = absurd (false≢true opens)
block_front (first ∷ rest) opens =
    let begins = opens_front (first ∷ rest) (codes "/*") opens in
    let slash : first ≡ 47 = ap (λ l. get_or l 0 0) begins in
    let no_line = false_from_ne_true (opens_line_comment (first ∷ rest)) (λ line. (let both : 47 ≡ 42 = ap (λ l. get_or l 1 0) (sym (opens_front (first ∷ rest) (codes "//") line) ∙ begins) in omega (arith, both))) in
    cond-false _ _ _ (ap is_blank slash) ∙ cond-false _ _ _ no_line ∙ cond-true _ _ _ opens

-- A line comment goes on where a longer one has no line feed.
no_longer_line : (text : List ℕ) (n m : ℕ) → IsLineComment text n → IsLineComment text m → n < m → ⊥
no_longer_line text n m one two less =
    let passes = two.one_line n 0 (omega (arith, length-take-le m text two.within)) in
    let feed = one.to_its_end (omega (arith, two.within)) in
    false≢true (sym (ap (λ byte. not (eqb byte 10)) (get_or-take m text n 0 less ∙ feed)) ∙ passes)

line_decides : (text : List ℕ) (n : ℕ) → IsLineComment text n → Gap n ≡ front_of text
line_decides text n is =
    let other = line_is text is.opens in
    ap Gap (same_by n _ (no_longer_line text n _ is other) (no_longer_line text _ n other is)) ∙ sym (line_front text is.opens)

no_longer_block : (text : List ℕ) (n m : ℕ) → IsBlockComment text n → IsBlockComment text m → n < m → ⊥
no_longer_block text n m one two less = false≢true (sym (two.first (n - 2) (omega (arith, one.after)) (omega (arith, one.after))) ∙ one.closes)

block_decides : (text : List ℕ) (n : ℕ) → IsBlockComment text n → Gap n ≡ front_of text
block_decides text n is = ⊎_elim
    (λ closed. ap Gap (same_by n closed.0 (no_longer_block text n closed.0 is closed.1) (no_longer_block text closed.0 n closed.1 is)) ∙ sym (block_front text is.opens ∙ closed.2))
    (λ open_one. absurd (false≢true (sym (open_one.0.never (n - 2) (omega (arith, is.after))) ∙ is.closes)))
    (block_or_open text is.opens)

open_decides : (text : List ℕ) → NeverCloses text → Broken OpenComment ≡ front_of text
open_decides text is = ⊎_elim
    (λ closed. absurd (false≢true (sym (is.never (closed.0 - 2) (omega (arith, closed.1.after))) ∙ closed.1.closes)))
    (λ open_one. sym (block_front text is.opens ∙ open_one.1))
    (block_or_open text is.opens)

pub meaning_decides : (text : List ℕ) (front : Front) → Means text front → front ≡ front_of text
meaning_decides text End is = sym (ap front_of is)
meaning_decides text (Gap n) is = ⊎_elim
    (λ blank. ap Gap blank.0 ∙ blank_decides text blank.1)
    (λ comment. ⊎_elim (line_decides text n) (block_decides text n) comment)
    is
meaning_decides text (Lexeme kind n) is = kept kind n is.1 ∙ token_decides text kind n is.0
meaning_decides text (Broken BadByte) is = nothing_decides text is
meaning_decides text (Broken OpenComment) is = open_decides text is
meaning_decides text (Broken LongName) is = too_long is.n is.long ∙ token_decides text kinds.Name is.n is.token
meaning_decides text (Broken BigNumber) is = too_big is.value is.n is.big ∙ token_decides text (kinds.Number is.value) is.n is.token
