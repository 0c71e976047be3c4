-- To be believed (definitions.md).
-- The words of the language with their bytes: which bytes are blanks, letters and digits, the eleven keywords, and
-- the twenty-three signs.
use Rattle.std.specs.Prelude.{ℕ, Bool, ◌==◌, ◌||◌, nat_eq, Option, Some, None, List, [], ◌∷◌, ◌++◌, find, codes}
use Rattle.std.specs.List.{starts_with}
use Rattle.std.specs.Str.{bytes_eq}
use Rattle.std.specs.Char.{is_ascii_alphabetic, is_ascii_digit}
use Rattle.darwin_lexer.specs.declared.token.Keyword.{Keyword}
use Rattle.darwin_lexer.specs.declared.token.Keyword.TheVariants.{Component, Provide, Require, Inst, Array, Bind, Forall, When, Int, And, Or}
use Rattle.darwin_lexer.specs.declared.token.Sign.{Sign}
use Rattle.darwin_lexer.specs.declared.token.Sign.TheVariants.{OpenBrace, CloseBrace, OpenParen, CloseParen, OpenBracket, CloseBracket, Semicolon, Colon, Comma, Dot, DotDot, DashDash, Less, Greater, LessEq, GreaterEq, EqEq, NotEq, Plus, Minus, Star, Slash, Percent}
use Rattle.darwin_lexer.specs.declared.token.TokenKind.{TokenKind}
use Rattle.darwin_lexer.specs.declared.token.TokenKind.TheVariants.{Name, Word}

-- space, tab, line feed and carriage return
abbrev pub is_blank : ℕ → Bool
is_blank byte = (byte == 32) || (byte == 9) || (byte == 10) || (byte == 13)

-- a letter or `_`
abbrev pub begins_name : ℕ → Bool
begins_name byte = is_ascii_alphabetic byte || (byte == 95)

-- a letter, a digit or `_`
abbrev pub continues_name : ℕ → Bool
continues_name byte = begins_name byte || is_ascii_digit byte

abbrev pub keyword_bytes : Keyword → List ℕ
keyword_bytes Component = codes "component"
keyword_bytes Provide = codes "provide"
keyword_bytes Require = codes "require"
keyword_bytes Inst = codes "inst"
keyword_bytes Array = codes "array"
keyword_bytes Bind = codes "bind"
keyword_bytes Forall = codes "forall"
keyword_bytes When = codes "when"
keyword_bytes Int = codes "int"
keyword_bytes And = codes "and"
keyword_bytes Or = codes "or"

abbrev pub keywords : List Keyword
keywords = Component ∷ Provide ∷ Require ∷ Inst ∷ Array ∷ Bind ∷ Forall ∷ When ∷ Int ∷ And ∷ Or ∷ []

abbrev pub sign_bytes : Sign → List ℕ
sign_bytes OpenBrace = codes "{"
sign_bytes CloseBrace = codes "}"
sign_bytes OpenParen = codes "("
sign_bytes CloseParen = codes ")"
sign_bytes OpenBracket = codes "["
sign_bytes CloseBracket = codes "]"
sign_bytes Semicolon = codes ";"
sign_bytes Colon = codes ":"
sign_bytes Comma = codes ","
sign_bytes Dot = codes "."
sign_bytes DotDot = codes ".."
sign_bytes DashDash = codes "--"
sign_bytes Less = codes "<"
sign_bytes Greater = codes ">"
sign_bytes LessEq = codes "<="
sign_bytes GreaterEq = codes ">="
sign_bytes EqEq = codes "=="
sign_bytes NotEq = codes "!="
sign_bytes Plus = codes "+"
sign_bytes Minus = codes "-"
sign_bytes Star = codes "*"
sign_bytes Slash = codes "/"
sign_bytes Percent = codes "%"

abbrev pub two_byte_signs : List Sign
two_byte_signs = DotDot ∷ DashDash ∷ LessEq ∷ GreaterEq ∷ EqEq ∷ NotEq ∷ []

abbrev pub one_byte_signs : List Sign
one_byte_signs =
    OpenBrace ∷ CloseBrace ∷ OpenParen ∷ CloseParen ∷ OpenBracket ∷ CloseBracket ∷ Semicolon ∷ Colon ∷ Comma ∷ Dot ∷
    Less ∷ Greater ∷ Plus ∷ Minus ∷ Star ∷ Slash ∷ Percent ∷ []

-- the signs, those of two bytes first, so that the first that fits is the longest
abbrev pub signs : List Sign
signs = two_byte_signs ++ one_byte_signs

-- the keyword with these bytes
abbrev pub keyword_of : List ℕ → Option Keyword
keyword_of word = find (λ keyword. bytes_eq (keyword_bytes keyword) word) keywords

-- a keyword's letters are that keyword, and any others a name
abbrev pub kind_or_name : Option Keyword → TokenKind
kind_or_name None = Name
kind_or_name (Some keyword) = Word keyword

abbrev pub word_kind : List ℕ → TokenKind
word_kind word = kind_or_name (keyword_of word)

-- the first of these signs that stands at the front of a text
abbrev pub sign_in : List ℕ → List Sign → Option Sign
sign_in text some = find (λ sign. starts_with nat_eq text (sign_bytes sign)) some

-- the sign at the front of a text, the longest
abbrev pub sign_at : List ℕ → Option Sign
sign_at text = sign_in text signs
