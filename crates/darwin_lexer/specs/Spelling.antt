-- What each piece of a text is, apart from how it is found: how the tokens are spelled, what a blank and a comment
-- are, and when a front is at fault.
use Rattle.std.specs.Prelude.{◌≡◌, ◌≢◌, ℕ, ◌+◌, ◌-◌, ◌<◌, ◌≤◌, ◌⊎◌, ◌==◌, Bool, true, false, not, nat_eq, List, [], ◌∷◌, take, drop, length, codes, slice_index}
use Rattle.std.specs.List.{starts_with, AllPass}
use Rattle.std.specs.Char.{is_ascii_digit}
use Rattle.std.specs.Str.Parse.{digits_value}
use Rattle.darwin_lexer.specs.declared.token.Keyword.{Keyword}
use Rattle.darwin_lexer.specs.declared.token.At.{At}
use Rattle.darwin_lexer.specs.declared.token.Token.{Token}
use Rattle.darwin_lexer.specs.declared.token.TokenKind.{TokenKind}
use Rattle.darwin_lexer.specs.declared.token.TokenKind.TheVariants.{Name, Number, Word, Sign}
use Rattle.darwin_lexer.specs.declared.front.Front.{Front}
use Rattle.darwin_lexer.specs.declared.front.Front.TheVariants.{End, Gap, Lexeme, Broken}
use Rattle.darwin_lexer.specs.declared.front.LexicalFault.{LexicalFault}
use Rattle.darwin_lexer.specs.declared.front.LexicalFault.TheVariants.{BadByte, OpenComment, LongName, BigNumber}
use Rattle.darwin_lexer.specs.Positions.{place_of}
use Rattle.darwin_lexer.specs.Keywords.{is_blank, begins_name, continues_name, keyword_bytes, sign_bytes}

-- a letter or `_`, then letters, digits and `_`, and no keyword
pub record SpellsName (bytes : List ℕ) : Type 0 where
  pub begins : begins_name (slice_index bytes 0) ≡ true
  pub goes_on : AllPass continues_name bytes
  pub own : (keyword : Keyword) → bytes ≢ keyword_bytes keyword

-- digits that write a number
pub record SpellsNumber (bytes : List ℕ) (value : ℕ) : Type 0 where
  pub some : 0 < length bytes
  pub digits : AllPass is_ascii_digit bytes
  pub written : value ≡ digits_value 10 bytes

-- These bytes are a token of this kind, however long its name or great its number.
abbrev pub Spells : TokenKind → List ℕ → Type 0
Spells Name bytes = SpellsName bytes
Spells (Number value) bytes = SpellsNumber bytes value
Spells (Word keyword) bytes = bytes ≡ keyword_bytes keyword
Spells (Sign sign) bytes = bytes ≡ sign_bytes sign

-- A name has at most 64 bytes, and a number is at most 2,147,483,647.
abbrev pub KeepsLimit : TokenKind → ℕ → Type 0
KeepsLimit Name n = n ≤ 64
KeepsLimit (Number value) n = value ≤ 2147483647
KeepsLimit (Word keyword) n = Unit {0}
KeepsLimit (Sign sign) n = Unit {0}

abbrev pub opens_line_comment : List ℕ → Bool
opens_line_comment text = starts_with nat_eq text (codes "//")

abbrev pub opens_block_comment : List ℕ → Bool
opens_block_comment text = starts_with nat_eq text (codes "/*")

-- No comment begins a text, its first n bytes are a token of this kind, and no more bytes of it are a token of any
-- kind.
pub record IsLongest (text : List ℕ) (kind : TokenKind) (n : ℕ) : Type 0 where
  pub no_line_comment : opens_line_comment text ≡ false
  pub no_block_comment : opens_block_comment text ≡ false
  pub within : n ≤ length text
  pub spelled : Spells kind (take n text)
  pub longest : (other : TokenKind) (more : ℕ) → n < more → more ≤ length text → Spells other (take more text) → ⊥

-- A `*/` stands at this offset.
abbrev pub closes_at : List ℕ → ℕ → Bool
closes_at text offset = starts_with nat_eq (drop offset text) (codes "*/")

-- The first n bytes are a comment to the next line feed or the end.
pub record IsLineComment (text : List ℕ) (n : ℕ) : Type 0 where
  pub within : n ≤ length text
  pub opens : opens_line_comment text ≡ true
  pub one_line : AllPass (λ byte. not (byte == 10)) (take n text)
  pub to_its_end : n < length text → slice_index text n ≡ 10

-- The first n bytes are a comment to the first `*/` that stands after the whole `/*`.
pub record IsBlockComment (text : List ℕ) (n : ℕ) : Type 0 where
  pub opens : opens_block_comment text ≡ true
  pub after : 4 ≤ n
  pub closes : closes_at text (n - 2) ≡ true
  pub first : (offset : ℕ) → 2 ≤ offset → offset + 2 < n → closes_at text offset ≡ false

-- The first n bytes are a blank or a comment.
abbrev pub IsGap : List ℕ → ℕ → Type 0
IsGap text n = ((n ≡ 1) × (is_blank (slice_index text 0) ≡ true)) ⊎ (IsLineComment text n ⊎ IsBlockComment text n)

-- No token, blank or comment begins a text that isn't empty.
pub record BeginsNothing (text : List ℕ) : Type 0 where
  pub some : 0 < length text
  pub no_blank : is_blank (slice_index text 0) ≡ false
  pub no_line_comment : opens_line_comment text ≡ false
  pub no_block_comment : opens_block_comment text ≡ false
  pub no_token : (kind : TokenKind) (n : ℕ) → n ≤ length text → Spells kind (take n text) → ⊥

-- A text begins with `/*`, and no `*/` stands after it.
pub record NeverCloses (text : List ℕ) : Type 0 where
  pub opens : opens_block_comment text ≡ true
  pub never : (offset : ℕ) → 2 ≤ offset → closes_at text offset ≡ false

-- The longest token at the front of a text is a name of more than 64 bytes.
pub record IsLongName (text : List ℕ) : Type 0 where
  pub n : ℕ
  pub token : IsLongest text Name n
  pub long : 64 < n

-- The longest token at the front of a text is a number above 2,147,483,647.
pub record IsBigNumber (text : List ℕ) : Type 0 where
  pub value : ℕ
  pub n : ℕ
  pub token : IsLongest text (Number value) n
  pub big : 2147483647 < value

abbrev pub IsFault : List ℕ → LexicalFault → Type 0
IsFault text BadByte = BeginsNothing text
IsFault text OpenComment = NeverCloses text
IsFault text LongName = IsLongName text
IsFault text BigNumber = IsBigNumber text

-- The first n bytes of a text are its longest token, of this kind, and within the limits.
abbrev pub IsToken : List ℕ → TokenKind → ℕ → Type 0
IsToken text kind n = IsLongest text kind n × KeepsLimit kind n

-- what a front says of its text
abbrev pub Means : List ℕ → Front → Type 0
Means text End = text ≡ []
Means text (Gap n) = IsGap text n
Means text (Lexeme kind n) = IsToken text kind n
Means text (Broken fault) = IsFault text fault

-- From one offset to another only blanks and comments stand.
pub data OnlyGaps (text : List ℕ) : ℕ → ℕ → Type 0 where
  nothing : (offset : ℕ) → OnlyGaps text offset offset
  one_more : (offset n end : ℕ) → IsGap (drop offset text) n → OnlyGaps text (offset + n) end → OnlyGaps text offset end

-- A token stands behind an offset, after blanks and comments alone; its bytes spell it, and are as many as they can be.
pub record Stands (text : List ℕ) (from : ℕ) (token : Token) : Type 0 where
  pub gaps : OnlyGaps text from token.start
  pub behind : from ≤ token.start
  pub some : token.start < token.end
  pub within : token.end ≤ length text
  pub longest : IsToken (drop token.start text) token.kind (token.end - token.start)
  pub place : token.at ≡ place_of text token.start

-- Tokens stand one behind the other between two offsets, and only blanks and comments follow the last.
abbrev pub InOrder : List ℕ → ℕ → ℕ → List Token → Type 0
InOrder text from to [] = OnlyGaps text from to
InOrder text from to (token ∷ tokens) = Stands text from token × InOrder text token.end to tokens

-- Behind tokens in order a text is at fault, at this place.
pub record FaultStands (text : List ℕ) (fault : LexicalFault) (at : At) : Type 0 where
  pub offset : ℕ
  pub tokens : List Token
  pub before : InOrder text 0 offset tokens
  pub broken : IsFault (drop offset text) fault
  pub place : at ≡ place_of text offset
