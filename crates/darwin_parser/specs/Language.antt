-- To be believed (definitions.md).
-- Languages: which lists of tokens spell which values, and how longer spellings are made of shorter ones.
use Rattle.std.specs.Prelude.{◌≡◌, ◌⊎◌, List, [], ◌∷◌, ◌++◌, Option, Some, None}
use Rattle.darwin_lexer.specs.declared.token.Token.{Token}
use Rattle.darwin_lexer.specs.declared.token.TokenKind.{TokenKind}
use Rattle.darwin_lexer.specs.declared.token.Sign.TheVariants.{Comma}
use Rattle.darwin_lexer.specs.declared.token.TokenKind.TheVariants as kinds

abbrev pub Lang : Type 0 → Type 1
Lang A = List Token → A → Type 0

-- no token, for this value
abbrev pub give : {A : Type 0} → A → Lang A
give a = λ tokens b. (tokens ≡ []) × (b ≡ a)

-- one token of this kind, whose value it is itself
abbrev pub token : TokenKind → Lang Token
token kind = λ tokens t. (tokens ≡ t ∷ []) × (t.kind ≡ kind)

-- a spelling, and after it one that may depend on the first one's value
pub record Joined {A B : Type 0} (L : Lang A) (M : A → Lang B) (tokens : List Token) (b : B) : Type 0 where
  pub front : List Token
  pub rest : List Token
  pub value : A
  pub whole : tokens ≡ front ++ rest
  pub begins : L front value
  pub goes_on : M value rest b

infixl 10 ◌>>=◌
abbrev pub ◌>>=◌ : {A B : Type 0} → Lang A → (A → Lang B) → Lang B
L >>= M = λ tokens b. Joined L M tokens b

infixl 10 ◌>>◌
abbrev pub ◌>>◌ : {A B : Type 0} → Lang A → Lang B → Lang B
L >> M = L >>= (λ _. M)

-- one or the other
infixr 9 ◌or◌
abbrev pub ◌or◌ : {A : Type 0} → Lang A → Lang A → Lang A
L or M = λ tokens a. L tokens a ⊎ M tokens a

abbrev pub optional : {A : Type 0} → Lang A → Lang (Option A)
optional L = (do a ← L; give (Some a)) or give None

-- any number, one after the other
abbrev pub many : {A : Type 0} → Lang A → Lang (List A)
many L tokens [] = tokens ≡ []
many L tokens (a ∷ others) = Joined L (λ b rest _. (b ≡ a) × many L rest others) tokens a

-- one or more
abbrev pub some : {A : Type 0} → Lang A → Lang (List A)
some L = do
  first ← L
  others ← many L
  give (first ∷ others)

-- one or more, with commas between
abbrev pub separated : {A : Type 0} → Lang A → Lang (List A)
separated L = do
  first ← L
  others ← many (token (kinds.Sign Comma) >> L)
  give (first ∷ others)
