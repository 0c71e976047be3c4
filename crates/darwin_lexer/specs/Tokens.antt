-- To be believed (definitions.md).
-- The tokens of a text: the one way to part it, from its first byte to its last, into blanks, comments and longest
-- tokens; or its first fault.
use Rattle.std.specs.Prelude.{◌≡◌, ℕ, ◌+◌, ◌-◌, List, [], ◌∷◌, take, drop, length, Result, IsErrOf, ◌⊎◌}
use Rattle.darwin_lexer.specs.declared.token.At.{At}
use Rattle.darwin_lexer.specs.declared.token.Token.{Token}
use Rattle.darwin_lexer.specs.declared.token.TokenKind.{TokenKind}
use Rattle.darwin_lexer.specs.declared.front.Front.TheVariants.{Gap, Lexeme, Broken}
use Rattle.darwin_lexer.specs.declared.front.LexicalFault.{LexicalFault}
use Rattle.darwin_lexer.specs.declared.front.LexicalFault.TheVariants.{BadByte, OpenComment, LongName, BigNumber}
use Rattle.darwin_lexer.specs.declared.token.LexError.{LexError}
use Rattle.darwin_lexer.specs.declared.token.LexError.TheVariants as errors
use Rattle.darwin_lexer.specs.Positions.{place_of}
use Rattle.darwin_lexer.specs.Fronts.{front_of}

-- the bytes of a token's span
abbrev pub bytes_of : List ℕ → Token → List ℕ
bytes_of text token = take (token.end - token.start) (drop token.start text)

-- the token of this kind and length at an offset
abbrev pub token_at : List ℕ → ℕ → TokenKind → ℕ → Token
token_at text offset kind n = record { kind = kind; start = offset; end = offset + n; at = place_of text offset }

-- From one offset to another a text is, piece by piece, blanks, comments and these tokens.
pub data Tokenizes (text : List ℕ) : ℕ → ℕ → List Token → Type 0 where
  ended : (offset : ℕ) → Tokenizes text offset offset []
  gap : (offset n end : ℕ) (tokens : List Token) → front_of (drop offset text) ≡ Gap n
      → Tokenizes text (offset + n) end tokens → Tokenizes text offset end tokens
  token : (offset n end : ℕ) (kind : TokenKind) (tokens : List Token) → front_of (drop offset text) ≡ Lexeme kind n
      → Tokenizes text (offset + n) end tokens
      → Tokenizes text offset end (token_at text offset kind n ∷ tokens)

-- the tokens of a text
abbrev pub IsTokens : List ℕ → List Token → Type 0
IsTokens text tokens = Tokenizes text 0 (length text) tokens

-- A text has this fault at this place, and all that stands before it is blanks, comments and tokens.
abbrev pub FirstFault : List ℕ → LexicalFault → At → Type 0
FirstFault text fault at = (offset : ℕ) × (tokens : List Token) × Tokenizes text 0 offset tokens
    × (front_of (drop offset text) ≡ Broken fault) × (at ≡ place_of text offset)

-- the refusal that names a fault and its place
abbrev pub refusal : LexicalFault → At → LexError
refusal BadByte at = errors.BadByte at
refusal OpenComment at = errors.OpenComment at
refusal LongName at = errors.LongName at
refusal BigNumber at = errors.BigNumber at

-- An answer is a fault's refusal exactly where this fault is the first of the text, unless memory ran out.
abbrev pub RefusesExactly : {T : Type 0} → List ℕ → Result T LexError → LexicalFault → Type 0
RefusesExactly text answer fault = (at : At) → (IsErrOf answer (refusal fault at) → FirstFault text fault at)
    × (FirstFault text fault at → IsErrOf answer (refusal fault at) ⊎ IsErrOf answer errors.NoMemory)
