-- Texts and tokens each of which is refused for one fault.
use Rattle.std.specs.Prelude.{ℕ, List, [], ◌∷◌, ◌++◌, codes, replicate}
use Rattle.std.specs.List.{flat_map, range_with_len}
use Rattle.darwin_lexer.specs.declared.front.LexicalFault.{LexicalFault}
use Rattle.darwin_lexer.specs.declared.front.LexicalFault.TheVariants.{BadByte, OpenComment, LongName, BigNumber}
use Rattle.darwin_lexer.specs.declared.token.Keyword.TheVariants.{Component, Forall, When}
use Rattle.darwin_lexer.specs.declared.token.Sign.TheVariants.{Colon, DotDot, Minus, OpenBrace, OpenParen, Semicolon}
use Rattle.darwin_lexer.specs.declared.token.Token.{Token}
use Rattle.darwin_lexer.specs.declared.token.TokenKind.{TokenKind}
use Rattle.darwin_lexer.specs.declared.token.TokenKind.TheVariants.{Name, Number, Word, Sign}
use Rattle.darwin_parser.specs.Trees.{here}

-- the text of a fault
abbrev pub text_of : LexicalFault → List ℕ
text_of BadByte = codes "?"
text_of OpenComment = codes "/*"
text_of LongName = replicate 65 97
text_of BigNumber = codes "2147483648"

-- a token of a text that doesn't matter
abbrev token : TokenKind → Token
token kind = record { kind = kind; start = 0; end = 0; at = here }

-- `;`
abbrev pub unexpected : List Token
unexpected = token (Sign Semicolon) ∷ []

-- `component`
abbrev pub unfinished : List Token
unfinished = token (Word Component) ∷ []

-- these tokens so many times
abbrev times : ℕ → List Token → List Token
times count tokens = flat_map (λ n. tokens) (range_with_len 0 count)

-- `component A {` and these
abbrev in_component : List Token → List Token
in_component tokens = token (Word Component) ∷ token Name ∷ token (Sign OpenBrace) ∷ tokens

abbrev test : List Token
test = token (Word When) ∷ token (Number 0) ∷ []

-- seventeen times `when 0 {`, `when 0` and `forall i : 0 .. 0 {`
abbrev pub too_nested : List Token
too_nested = in_component (times 17 (test ++ token (Sign OpenBrace) ∷ []))

abbrev pub without_braces : List Token
without_braces = in_component (times 17 test)

abbrev pub ranges : List Token
ranges =
    in_component (times 17 (
    token (Word Forall) ∷ token Name ∷ token (Sign Colon)
    ∷ token (Number 0) ∷ token (Sign DotDot) ∷ token (Number 0) ∷ token (Sign OpenBrace) ∷ []
    ))

-- `when` and thirty-three times `(` and `-`
abbrev pub parentheses : List Token
parentheses = in_component (token (Word When) ∷ times 33 (token (Sign OpenParen) ∷ []))

abbrev pub signs : List Token
signs = in_component (token (Word When) ∷ times 33 (token (Sign Minus) ∷ []))
