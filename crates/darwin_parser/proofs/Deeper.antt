-- One level of nesting: what a rule with a limit reads, by the rule one level below.
use Rattle.std.proofs.Common.{◌≡◌, ℕ, zero, suc, ◌-◌, ◌<◌, true, false, cond, List, Err, refl, ap, sym, ◌∙◌, arith, length}
use Rattle.darwin_lexer.specs.declared.token.Token.{Token}
use Rattle.darwin_parser.specs.declared.cursor.Stop.TheVariants.{TooNested}
use Rattle.darwin_parser.specs.Reading as reading

factor_is : (text : List ℕ) (n : ℕ) (tokens : List Token) → reading.factor text n tokens ≡ cond (reading.sees_nested tokens) (reading.nested text n tokens) (reading.simple text tokens)
unfolding reading.factor reading.nested
factor_is text zero tokens = refl
factor_is text (suc n) tokens = refl

pub factor_nested : (text : List ℕ) (n : ℕ) (tokens : List Token) → reading.sees_nested tokens ≡ true → reading.nested text n tokens ≡ reading.factor text n tokens
factor_nested text n tokens e = sym (factor_is text n tokens ∙ ap (λ b. cond b (reading.nested text n tokens) (reading.simple text tokens)) e)

pub factor_simple : (text : List ℕ) (n : ℕ) (tokens : List Token) → reading.sees_nested tokens ≡ false → reading.simple text tokens ≡ reading.factor text n tokens
factor_simple text n tokens e = sym (factor_is text n tokens ∙ ap (λ b. cond b (reading.nested text n tokens) (reading.simple text tokens)) e)

pub nested_limit : (text : List ℕ) (n : ℕ) (tokens : List Token) → n ≡ 0 → reading.nested text n tokens ≡ Err (TooNested (length tokens))
unfolding reading.nested
nested_limit text n tokens e = ap (λ m. reading.nested text m tokens) e

pub nested_deeper : (text : List ℕ) (n : ℕ) (tokens : List Token) → 0 < n → reading.nested_over (reading.factor text (n - 1)) tokens ≡ reading.nested text n tokens
unfolding reading.nested
nested_deeper text n tokens some = let e : n ≡ suc (n - 1) = omega arith in sym (ap (λ m. reading.nested text m tokens) e)

statement_is : (text : List ℕ) (e n : ℕ) (tokens : List Token)
    → reading.statement text e n tokens ≡ cond (reading.sees_block tokens) (reading.block text e n tokens) (reading.listing text e tokens)
unfolding reading.statement reading.block
statement_is text e zero tokens = refl
statement_is text e (suc n) tokens = refl

pub statement_block : (text : List ℕ) (e n : ℕ) (tokens : List Token) → reading.sees_block tokens ≡ true → reading.block text e n tokens ≡ reading.statement text e n tokens
statement_block text e n tokens h = sym (statement_is text e n tokens ∙ ap (λ b. cond b (reading.block text e n tokens) (reading.listing text e tokens)) h)

pub statement_listing : (text : List ℕ) (e n : ℕ) (tokens : List Token) → reading.sees_block tokens ≡ false → reading.listing text e tokens ≡ reading.statement text e n tokens
statement_listing text e n tokens h = sym (statement_is text e n tokens ∙ ap (λ b. cond b (reading.block text e n tokens) (reading.listing text e tokens)) h)

pub block_limit : (text : List ℕ) (e n : ℕ) (tokens : List Token) → n ≡ 0 → reading.block text e n tokens ≡ Err (TooNested (length tokens))
unfolding reading.block
block_limit text e n tokens h = ap (λ m. reading.block text e m tokens) h

pub block_deeper : (text : List ℕ) (e n : ℕ) (tokens : List Token) → 0 < n → reading.block_over text e (reading.statement text e (n - 1)) tokens ≡ reading.block text e n tokens
unfolding reading.block
block_deeper text e n tokens some = let h : n ≡ suc (n - 1) = omega arith in sym (ap (λ m. reading.block text e m tokens) h)
