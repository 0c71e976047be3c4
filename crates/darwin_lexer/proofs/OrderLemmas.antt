-- The tokens of a parting stand in order, each the longest, with only blanks and comments between; and tokens that stand so are a parting.
use Rattle.std.proofs.Common.{◌≡◌, ℕ, ◌+◌, ◌-◌, List, [], ◌∷◌, length, drop, refl, sym, subst, arith, length-drop}
use Rattle.darwin_lexer.specs.declared.token.At.{At}
use Rattle.darwin_lexer.specs.declared.token.Token.{Token}
use Rattle.darwin_lexer.specs.declared.front.LexicalFault.{LexicalFault}
use Rattle.darwin_lexer.specs.declared.front.Front.TheVariants.{Gap, Lexeme, Broken}
use Rattle.darwin_lexer.specs.Fronts.{IsFrontWithin}
use Rattle.darwin_lexer.specs.Positions.{place_of}
use Rattle.darwin_lexer.specs.Tokens.{Tokenizes, ended, gap, token, token_at, FirstFault}
use Rattle.darwin_lexer.specs.Spelling.{Means, IsGap, IsToken, OnlyGaps, nothing, one_more, Stands, InOrder, FaultStands}
use Rattle.darwin_lexer.proofs.FrontLemmas.{front_of_within}
use Rattle.darwin_lexer.proofs.SpellingLemmas.{front_means}
use Rattle.darwin_lexer.proofs.MeaningLemmas.{meaning_decides}

after_gap : (text : List ℕ) (from n to : ℕ) (tokens : List Token) → IsGap (drop from text) n → InOrder text (from + n) to tokens → InOrder text from to tokens
after_gap text from n to [] is rest = one_more from n to is rest
after_gap text from n to (first ∷ tokens) is rest = (
  record {
    gaps = one_more from n first.start is rest.0.gaps;
    behind = omega (arith, rest.0.behind);
    some = rest.0.some;
    within = rest.0.within;
    longest = rest.0.longest;
    place = rest.0.place;
  },
  rest.1,
)

pub in_order : (text : List ℕ) (from to : ℕ) (tokens : List Token) → Tokenizes text from to tokens → InOrder text from to tokens
in_order text _ _ _ (ended from) = nothing from
in_order text _ _ _ (gap from n to tokens is rest) = after_gap text from n to tokens (subst (Means (drop from text)) is (front_means (drop from text))) (in_order text (from + n) to tokens rest)
in_order text _ _ _ (token from n to kind tokens is rest) =
    let fits = subst (IsFrontWithin (length (drop from text))) is (front_of_within (drop from text)) in
    let long : n ≡ from + n - from = omega arith in (
      record {
        gaps = nothing from;
        behind = omega arith;
        some = omega (arith, fits.0);
        within = omega (arith, fits.0, fits.1, length-drop from text);
        longest = subst (IsToken (drop from text) kind) long (subst (Means (drop from text)) is (front_means (drop from text)));
        place = refl;
      },
      in_order text (from + n) to tokens rest,
    )

-- the other way

before_parts : (text : List ℕ) (from at to : ℕ) (tokens : List Token) → OnlyGaps text from at → Tokenizes text at to tokens → Tokenizes text from to tokens
before_parts text _ _ to tokens (nothing from) rest = rest
before_parts text _ _ to tokens (one_more from n at is more) rest = gap from n to tokens (sym (meaning_decides (drop from text) (Gap n) is)) (before_parts text (from + n) at to tokens more rest)

same_token : (text : List ℕ) (first : Token) (n : ℕ) → first.start + n ≡ first.end → first.at ≡ place_of text first.start → token_at text first.start first.kind n ≡ first
same_token text first n far place = rw (far, sym place) refl

token_stands : (text : List ℕ) (from to : ℕ) (first : Token) (tokens : List Token) → Stands text from first → Tokenizes text first.end to tokens → Tokenizes text from to (first ∷ tokens)
token_stands text from to first tokens is rest =
    let n : ℕ = first.end - first.start in
    let far : first.start + n ≡ first.end = omega (arith, is.some) in
    before_parts text from first.start to (first ∷ tokens) is.gaps
    (subst (λ one. Tokenizes text first.start to (one ∷ tokens)) (same_token text first n far is.place)
    (token first.start n to first.kind tokens (sym (meaning_decides (drop first.start text) (Lexeme first.kind n) is.longest)) (subst (λ k. Tokenizes text k to tokens) (sym far) rest)))

pub parted : (text : List ℕ) (from to : ℕ) (tokens : List Token) → InOrder text from to tokens → Tokenizes text from to tokens
parted text from to [] is = before_parts text from to to [] is (ended to)
parted text from to (first ∷ tokens) is = token_stands text from to first tokens is.0 (parted text first.end to tokens is.1)

pub fault_stands : (text : List ℕ) (fault : LexicalFault) (at : At) → FirstFault text fault at → FaultStands text fault at
fault_stands text fault at is = record {
  offset = is.0;
  tokens = is.1;
  before = in_order text 0 is.0 is.1 is.2;
  broken = subst (Means (drop is.0 text)) is.3 (front_means (drop is.0 text));
  place = is.4;
}

pub first_fault : (text : List ℕ) (fault : LexicalFault) (at : At) → FaultStands text fault at → FirstFault text fault at
first_fault text fault at is = (is.offset, is.tokens, parted text 0 is.offset is.tokens is.before, sym (meaning_decides (drop is.offset text) (Broken fault) is.broken), is.place)
