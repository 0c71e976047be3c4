-- To be believed (definitions.md).
-- Why tokens are no unit: which token is refused, and when it is one that opens a level of nesting too many.
use Rattle.std.specs.Prelude.{◌≡◌, ℕ, ◌+◌, ◌<◌, ◌≤◌, List, ◌++◌, length, take, Result, Ok, Err}
use Rattle.base.specs.Answers.{Answers}
use Rattle.darwin_lexer.specs.declared.token.Token.{Token}
use Rattle.darwin_parser.specs.declared.tree.Unit as code
use Rattle.darwin_parser.specs.declared.error.ParseError.{ParseError}
use Rattle.darwin_parser.specs.declared.error.ParseError.TheVariants.{NoMemory}
use Rattle.darwin_parser.specs.Tree.{Tree, tree_of}
use Rattle.darwin_parser.specs.Grammar.{IsUnitWithin}

-- a unit, where each limit of nesting is lifted by so many levels
abbrev pub IsUnitLifted : ℕ → List ℕ → List Token → Tree → Type 0
IsUnitLifted levels = IsUnitWithin (32 + levels) (16 + levels)

-- some unit begins with these tokens, where each limit of nesting is lifted by so many levels
pub record UnitBegins (levels : ℕ) (text : List ℕ) (front : List Token) : Type 0 where
  pub others : List Token
  pub tree : Tree
  pub unit : IsUnitLifted levels text (front ++ others) tree

-- Token n can't stand there: a unit begins with the tokens before it, and none does with it as well, however deep
-- units may nest. Where n is the count of tokens, they aren't a unit yet.
pub record IsUnexpected (text : List ℕ) (tokens : List Token) (n : ℕ) : Type 0 where
  pub within : n ≤ length tokens
  pub before : UnitBegins 0 text (take n tokens)
  pub refused : n < length tokens → (levels : ℕ) → UnitBegins levels text (take (n + 1) tokens) → ⊥
  pub unfinished : n ≡ length tokens → (levels : ℕ) (tree : Tree) → IsUnitLifted levels text tokens tree → ⊥

-- Token n opens one level too many: a unit begins with the tokens before it, none does with it as well, and one would
-- if units nested one level deeper.
pub record IsTooNested (text : List ℕ) (tokens : List Token) (n : ℕ) : Type 0 where
  pub within : n < length tokens
  pub before : UnitBegins 0 text (take n tokens)
  pub refused : UnitBegins 0 text (take (n + 1) tokens) → ⊥
  pub deeper : UnitBegins 1 text (take (n + 1) tokens)

-- The call gives this outcome, a tree or a refusal, unless memory runs out.
abbrev pub Gives : Result code.Unit ParseError → Result Tree ParseError → Type 0
Gives result outcome = Answers NoMemory (λ unit. Ok (tree_of unit) ≡ outcome) (λ refusal. Err refusal ≡ outcome) result
