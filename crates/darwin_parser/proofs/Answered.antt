-- What the call answers where reading stopped.
use Rattle.std.proofs.Common.{◌≡◌, ◌≢◌, ℕ, ◌-◌, List, length, Result, Err, refl, ap, subst}
use Rattle.darwin_lexer.specs.declared.token.Token.{Token}
use Rattle.darwin_parser.specs.declared.cursor.Stop.{Stop}
use Rattle.darwin_parser.specs.declared.cursor.Stop.TheVariants as stops
use Rattle.darwin_parser.specs.declared.error.ParseError.{ParseError}
use Rattle.darwin_parser.specs.declared.error.ParseError.TheVariants as errors
use Rattle.darwin_parser.specs.declared.tree.Unit as code
use Rattle.darwin_parser.specs.Tree.{Tree}
use Rattle.darwin_parser.specs.Grammar.{IsUnit}
use Rattle.darwin_parser.specs.Reading as reading
use Rattle.darwin_parser.specs.Refusals.{IsUnexpected, IsTooNested}
use Rattle.darwin_parser.specs.Views.{refusal_of}
use Rattle.darwin_parser.proofs.UnitLaws.{unexpected_read, too_nested_read, not_unexpected, not_too_nested, one_unexpected, one_too_nested, not_both}

pub err_is : (a b : ParseError) → ◌≡◌ {A = Result code.Unit ParseError} (Err a) (Err b) → a ≡ b
err_is a b e = cc

expected_is : (m n : ℕ) → errors.Expected m ≡ errors.Expected n → m ≡ n
expected_is m n e = cc

nested_is : (m n : ℕ) → errors.TooNested m ≡ errors.TooNested n → m ≡ n
nested_is m n e = cc

module _ (text : List ℕ) (tokens : List Token) where
  pub stopped_unit : (stop : Stop) → (stop ≢ stops.NoMemory → reading.unit text 32 16 tokens ≡ Err stop) → (tree : Tree) → IsUnit text tokens tree → refusal_of (length tokens) stop ≡ errors.NoMemory
  stopped_unit (stops.Expected k) e tree unit = absurd (not_unexpected text tokens tree (length tokens - k) unit (unexpected_read text tokens k (e (λ q. cc))))
  stopped_unit (stops.TooNested k) e tree unit = absurd (not_too_nested text tokens tree (length tokens - k) unit (too_nested_read text tokens k (e (λ q. cc))))
  stopped_unit stops.NoMemory e tree unit = refl

  pub stopped_unexpected : (stop : Stop) → (stop ≢ stops.NoMemory → reading.unit text 32 16 tokens ≡ Err stop) → (n : ℕ) → refusal_of (length tokens) stop ≡ errors.Expected n → IsUnexpected text tokens n
  stopped_unexpected (stops.Expected k) e n is = subst (IsUnexpected text tokens) (expected_is (length tokens - k) n is) (unexpected_read text tokens k (e (λ q. cc)))
  stopped_unexpected (stops.TooNested k) e n is = absurd cc
  stopped_unexpected stops.NoMemory e n is = absurd cc

  pub every_unexpected : (stop : Stop) → (stop ≢ stops.NoMemory → reading.unit text 32 16 tokens ≡ Err stop) → (n : ℕ) → IsUnexpected text tokens n
      → refusal_of (length tokens) stop ≢ errors.NoMemory → refusal_of (length tokens) stop ≡ errors.Expected n
  every_unexpected (stops.Expected k) e n is _ = ap errors.Expected (one_unexpected text tokens (length tokens - k) n (unexpected_read text tokens k (e (λ q. cc))) is)
  every_unexpected (stops.TooNested k) e n is _ = absurd (not_both text tokens n (length tokens - k) is (too_nested_read text tokens k (e (λ q. cc))))
  every_unexpected stops.NoMemory e n is ne = absurd (ne refl)

  pub stopped_nested : (stop : Stop) → (stop ≢ stops.NoMemory → reading.unit text 32 16 tokens ≡ Err stop) → (n : ℕ) → refusal_of (length tokens) stop ≡ errors.TooNested n → IsTooNested text tokens n
  stopped_nested (stops.TooNested k) e n is = subst (IsTooNested text tokens) (nested_is (length tokens - k) n is) (too_nested_read text tokens k (e (λ q. cc)))
  stopped_nested (stops.Expected k) e n is = absurd cc
  stopped_nested stops.NoMemory e n is = absurd cc

  pub every_nested : (stop : Stop) → (stop ≢ stops.NoMemory → reading.unit text 32 16 tokens ≡ Err stop) → (n : ℕ) → IsTooNested text tokens n
      → refusal_of (length tokens) stop ≢ errors.NoMemory → refusal_of (length tokens) stop ≡ errors.TooNested n
  every_nested (stops.TooNested k) e n is _ = ap errors.TooNested (one_too_nested text tokens (length tokens - k) n (too_nested_read text tokens k (e (λ q. cc))) is)
  every_nested (stops.Expected k) e n is _ = absurd (not_both text tokens (length tokens - k) n (unexpected_read text tokens k (e (λ q. cc))) is)
  every_nested stops.NoMemory e n is ne = absurd (ne refl)
