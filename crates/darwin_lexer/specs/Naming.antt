-- To be believed (definitions.md).
-- Words that are names by themselves, with nothing before or behind.
use Rattle.std.specs.Prelude.{◌≡◌, ℕ, List, length}
use Rattle.darwin_lexer.specs.declared.front.Front.TheVariants.{Lexeme}
use Rattle.darwin_lexer.specs.declared.token.TokenKind.TheVariants.{Name}
use Rattle.darwin_lexer.specs.Fronts.{front_of}

-- the whole word is a name, and no keyword
abbrev pub IsName : List ℕ → Type 0
IsName word = front_of word ≡ Lexeme Name (length word)
