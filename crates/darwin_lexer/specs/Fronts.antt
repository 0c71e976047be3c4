-- To be believed (definitions.md).
-- What stands at the front of a text: a blank, a comment, the longest token, or what is wrong there.
use Rattle.std.specs.Prelude.{◌≡◌, ℕ, suc, ◌+◌, ◌<◌, ◌≤◌, ◌==◌, not, nat_eq, nat_le, if◌then◌else◌, Option, Some, None, option_map, List, [], ◌∷◌, take, drop, length, codes}
use Rattle.std.specs.List.{starts_with, prefix_len}
use Rattle.std.specs.Char.{is_ascii_digit}
use Rattle.std.specs.Str.Parse.{digits_value}
use Rattle.darwin_lexer.specs.declared.token.Sign.{Sign}
use Rattle.darwin_lexer.specs.declared.token.TokenKind.TheVariants as kinds
use Rattle.darwin_lexer.specs.declared.front.Front.{Front}
use Rattle.darwin_lexer.specs.declared.front.Front.TheVariants.{End, Gap, Lexeme, Broken}
use Rattle.darwin_lexer.specs.declared.front.LexicalFault.TheVariants.{BadByte, OpenComment, LongName, BigNumber}
use Rattle.darwin_lexer.specs.Keywords.{is_blank, begins_name, continues_name, word_kind, sign_at, sign_bytes}

-- a comment that ends before the next line feed, or with the text
abbrev pub line_comment : List ℕ → Front
line_comment text = Gap (prefix_len (λ byte. not (byte == 10)) text)

-- how many bytes a text has up to its first `*/` and with it
abbrev pub through_close : List ℕ → Option ℕ
through_close [] = None
through_close (byte ∷ bytes) = if starts_with nat_eq (byte ∷ bytes) (codes "*/") then Some 2 else option_map suc (through_close bytes)

-- a comment from `/*` through the first `*/` after it
abbrev pub closed_or_open : Option ℕ → Front
closed_or_open None = Broken OpenComment
closed_or_open (Some n) = Gap (2 + n)

abbrev pub block_comment : List ℕ → Front
block_comment text = closed_or_open (through_close (drop 2 text))

-- all the letters, digits and `_` that follow one another: a keyword or a name of at most 64 bytes
abbrev pub name : List ℕ → Front
name text = let n = prefix_len continues_name text in if nat_le n 64 then Lexeme (word_kind (take n text)) n else Broken LongName

-- a number of that many digits, at most 2,147,483,647
abbrev pub number_or_big : ℕ → ℕ → Front
number_or_big value n = if nat_le value 2147483647 then Lexeme (kinds.Number value) n else Broken BigNumber

-- all the digits that follow one another, with the number that they write
abbrev pub number : List ℕ → Front
number text = let n = prefix_len is_ascii_digit text in number_or_big (digits_value 10 (take n text)) n

-- the longest sign
abbrev pub sign_or_bad : Option Sign → Front
sign_or_bad None = Broken BadByte
sign_or_bad (Some sign) = Lexeme (kinds.Sign sign) (length (sign_bytes sign))

abbrev pub sign : List ℕ → Front
sign text = sign_or_bad (sign_at text)

-- The one piece at the front: comments come before the sign `/`.
abbrev pub front_of : List ℕ → Front
front_of [] = End
front_of (first ∷ rest) = let text = first ∷ rest in
    if is_blank first then Gap 1
    else (if starts_with nat_eq text (codes "//") then line_comment text
    else (if starts_with nat_eq text (codes "/*") then block_comment text
    else (if begins_name first then name text
    else (if is_ascii_digit first then number text
    else sign text))))

-- A piece has a byte at least, and lies within a text of that many bytes.
abbrev pub IsFrontWithin : ℕ → Front → Type 0
IsFrontWithin all End = all ≡ 0
IsFrontWithin all (Gap n) = (0 < n) × (n ≤ all)
IsFrontWithin all (Lexeme kind n) = (0 < n) × (n ≤ all)
IsFrontWithin all (Broken fault) = 0 < all
