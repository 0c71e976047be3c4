-- How a parting goes on by one piece more, and that a text has one parting or one first fault.
use Rattle.std.proofs.Common.{inr, zero, suc, ◌-◌, ◌<◌, ◌≤◌, ◌⊎◌, arith, length-drop, ◌≡◌, ℕ, ◌+◌, List, [], ◌∷◌, ◌++◌, length, take, drop, fold, refl, sym, ap, subst, ◌∙◌, Ok, Err, inl}
use Rattle.std.proofs.Math.Seq.{take-add, drop-length}
use Rattle.std.proofs.lemmas.Grind.{fold-append}
use Rattle.darwin_lexer.specs.declared.token.At.{At}
use Rattle.darwin_lexer.specs.declared.token.Token.{Token}
use Rattle.darwin_lexer.specs.declared.token.TokenKind.{TokenKind}
use Rattle.darwin_lexer.specs.declared.token.LexError.{LexError}
use Rattle.darwin_lexer.specs.declared.front.LexicalFault.{LexicalFault}
use Rattle.darwin_lexer.specs.declared.front.LexicalFault.TheVariants.{BadByte, OpenComment, LongName, BigNumber}
use Rattle.darwin_lexer.specs.declared.front.Front.{Front}
use Rattle.darwin_lexer.specs.declared.front.Front.TheVariants.{End, Gap, Lexeme, Broken}
use Rattle.darwin_lexer.specs.Positions.{start, next, place_of}
use Rattle.darwin_lexer.specs.Fronts.{front_of, IsFrontWithin}
use Rattle.darwin_lexer.proofs.FrontLemmas.{front_of_within}
use Rattle.darwin_lexer.specs.Tokens.{token_at, Tokenizes, ended, gap, token, IsTokens, FirstFault, refusal, RefusesExactly}

pub parts_gap : (text : List ℕ) (from to n : ℕ) (tokens : List Token) → Tokenizes text from to tokens → front_of (drop to text) ≡ Gap n → Tokenizes text from (to + n) tokens
parts_gap text _ _ n _ (ended from) is = gap from n (from + n) [] is (ended (from + n))
parts_gap text _ _ n _ (gap from m to tokens at rest) is = gap from m (to + n) tokens at (parts_gap text (from + m) to n tokens rest is)
parts_gap text _ _ n _ (token from m to kind tokens at rest) is = token from m (to + n) kind tokens at (parts_gap text (from + m) to n tokens rest is)

pub parts_token : (text : List ℕ) (from to n : ℕ) (kind : TokenKind) (tokens : List Token) → Tokenizes text from to tokens → front_of (drop to text) ≡ Lexeme kind n → Tokenizes text from (to + n) (tokens ++ token_at text to kind n ∷ [])
parts_token text _ _ n kind _ (ended from) is = token from n (from + n) kind [] is (ended (from + n))
parts_token text _ _ n kind _ (gap from m to tokens at rest) is = gap from m (to + n) _ at (parts_token text (from + m) to n kind tokens rest is)
parts_token text _ _ n kind _ (token from m to first tokens at rest) is = token from m (to + n) first _ at (parts_token text (from + m) to n kind tokens rest is)

-- The same, where the piece was found in a slice of the text, and what is kept has names of its own.
pub gap_more : (text rest : List ℕ) (to n m : ℕ) (tokens more : List Token) → Tokenizes text 0 to tokens → rest ≡ drop to text → Gap n ≡ front_of rest → m ≡ n → more ≡ tokens → Tokenizes text 0 (to + m) more
gap_more text rest to n m tokens more parts rest_is is m_is more_is = rw (m_is, more_is) (parts_gap text 0 to n tokens parts (sym (is ∙ ap front_of rest_is)))

pub token_more : (text rest : List ℕ) (to n m : ℕ) (kind : TokenKind) (at : At) (tokens more : List Token) → Tokenizes text 0 to tokens → rest ≡ drop to text → Lexeme kind n ≡ front_of rest → m ≡ n → at ≡ place_of text to
    → more ≡ tokens ++ (record { kind = kind; start = to; end = to + n; at = at }) ∷ [] → Tokenizes text 0 (to + m) more
token_more text rest to n m kind at tokens more parts rest_is is m_is at_is more_is = rw (m_is, more_is, at_is) (parts_token text 0 to n kind tokens parts (sym (is ∙ ap front_of rest_is)))

-- the place after a piece
pub place_of-add : (text : List ℕ) (offset n : ℕ) → fold next (place_of text offset) (take n (drop offset text)) ≡ place_of text (offset + n)
place_of-add text offset n = sym (ap (λ l. fold next start l) (take-add offset n text) ∙ fold-append next start (take offset text) (take n (drop offset text)))

-- where a parting can't go on
abbrev IsStop : Front → Type 0
IsStop End = Unit {0}
IsStop (Gap n) = ⊥
IsStop (Lexeme kind n) = ⊥
IsStop (Broken fault) = Unit {0}

-- Two partings that can't go on end at one offset, with the same tokens.
same_parts : (text : List ℕ) (from to other : ℕ) (tokens others : List Token) → Tokenizes text from to tokens → Tokenizes text from other others → IsStop (front_of (drop to text)) → IsStop (front_of (drop other text)) → (to ≡ other) × (tokens ≡ others)
same_parts text _ _ _ _ _ (ended from) (ended _) stop halt = (refl, refl)
same_parts text _ _ _ _ _ (ended from) (gap _ n to tokens is rest) stop halt = absurd (subst IsStop is stop)
same_parts text _ _ _ _ _ (ended from) (token _ n to kind tokens is rest) stop halt = absurd (subst IsStop is stop)
same_parts text _ _ _ _ _ (gap from n to tokens is rest) (ended _) stop halt = absurd (subst IsStop is halt)
same_parts text _ _ _ _ _ (gap from n to tokens is rest) (gap _ m other others at more) stop halt =
    let same : m ≡ n = cc in same_parts text (from + n) to other tokens others rest (subst (λ k. Tokenizes text (from + k) other others) same more) stop halt
same_parts text _ _ _ _ _ (gap from n to tokens is rest) (token _ m other kind others at more) stop halt = cc
same_parts text _ _ _ _ _ (token from n to kind tokens is rest) (ended _) stop halt = absurd (subst IsStop is halt)
same_parts text _ _ _ _ _ (token from n to kind tokens is rest) (gap _ m other others at more) stop halt = cc
same_parts text _ _ _ _ _ (token from n to kind tokens is rest) (token _ m other sort others at more) stop halt =
    let same : m ≡ n = cc in
    let alike : sort ≡ kind = cc in
    let both = same_parts text (from + n) to other tokens others rest (subst (λ k. Tokenizes text (from + k) other others) same more) stop halt in
    (both.0, cc)

-- a text's end
at_end : (text : List ℕ) → front_of (drop (length text) text) ≡ End
at_end text = ap front_of (drop-length text)

pub one_parting : (text : List ℕ) (tokens others : List Token) → IsTokens text tokens → IsTokens text others → tokens ≡ others
one_parting text tokens others parts more = (same_parts text 0 _ _ _ _ parts more (subst IsStop (sym (at_end text)) tt) (subst IsStop (sym (at_end text)) tt)).1

pub never_both : (text : List ℕ) (tokens : List Token) (fault : LexicalFault) (at : At) → IsTokens text tokens → FirstFault text fault at → ⊥
never_both text tokens fault at parts first =
    let both = same_parts text 0 _ _ _ _ parts first.2 (subst IsStop (sym (at_end text)) tt) (subst IsStop (sym first.3) tt) in
    let ends : front_of (drop first.0 text) ≡ End = subst (λ k. front_of (drop k text) ≡ End) both.0 (at_end text) in
    let breaks = first.3 in
    cc

pub one_first_fault : (text : List ℕ) (fault other : LexicalFault) (at place : At) → FirstFault text fault at → FirstFault text other place → (fault ≡ other) × (at ≡ place)
one_first_fault text fault other at place first more =
    let both = same_parts text 0 _ _ _ _ first.2 more.2 (subst IsStop (sym first.3) tt) (subst IsStop (sym more.3) tt) in
    let breaks : front_of (drop more.0 text) ≡ Broken fault = subst (λ k. front_of (drop k text) ≡ Broken fault) both.0 first.3 in
    let again = more.3 in
    (cc, first.4 ∙ ap (λ k. place_of text k) both.0 ∙ sym more.4)

refusal_one : (fault other : LexicalFault) (at place : At) → refusal fault at ≡ refusal other place → (fault ≡ other) × (at ≡ place)
refusal_one BadByte BadByte at place is = (refl, cc)
refusal_one OpenComment OpenComment at place is = (refl, cc)
refusal_one LongName LongName at place is = (refl, cc)
refusal_one BigNumber BigNumber at place is = (refl, cc)
refusal_one _ _ at place is = absurd (let no_way : ⊥ = cc in no_way)

-- what the two answers other than want of memory say of each fault
pub refuses_tokens : {T : Type 0} (text : List ℕ) (tokens : List Token) (value : T) (fault : LexicalFault) → IsTokens text tokens → RefusesExactly text (Ok value) fault
refuses_tokens text tokens value fault parts at = (λ is. absurd (let no_way : ⊥ = cc in no_way), λ first. absurd (never_both text tokens fault at parts first))

pub refuses_fault : {T : Type 0} (text : List ℕ) (error : LexError) (fault other : LexicalFault) (at : At) → error ≡ refusal fault at → FirstFault text fault at → RefusesExactly {T = T} text (Err error) other
refuses_fault text error fault other at error_is first place = (
  λ is.
      let same = refusal_one fault other at place (sym error_is ∙ (let e : error ≡ refusal other place = cc in e)) in
      subst (λ f. FirstFault text f place) same.0 (subst (FirstFault text fault) same.1 first),
  λ more.
      let same = one_first_fault text fault other at place first more in
      inl (ap Err (error_is ∙ ap (λ f. refusal f at) same.0 ∙ ap (refusal other) same.1)),
)

-- a text from an offset on, with so much left
data Ends (text : List ℕ) (from : ℕ) : Type 0 where
  parted : (tokens : List Token) → Tokenizes text from (length text) tokens → Ends text from
  broken : (to : ℕ) (tokens : List Token) (fault : LexicalFault) → Tokenizes text from to tokens → front_of (drop to text) ≡ Broken fault → Ends text from

before_gap : (text : List ℕ) (from n : ℕ) → front_of (drop from text) ≡ Gap n → Ends text (from + n) → Ends text from
before_gap text from n is (parted tokens rest) = parted tokens (gap from n (length text) tokens is rest)
before_gap text from n is (broken to tokens fault rest breaks) = broken to tokens fault (gap from n to tokens is rest) breaks

before_token : (text : List ℕ) (from n : ℕ) (kind : TokenKind) → front_of (drop from text) ≡ Lexeme kind n → Ends text (from + n) → Ends text from
before_token text from n kind is (parted tokens rest) = parted _ (token from n (length text) kind tokens is rest)
before_token text from n kind is (broken to tokens fault rest breaks) = broken to _ fault (token from n to kind tokens is rest) breaks

before_front : (text : List ℕ) (from : ℕ) (front : Front) → from ≤ length text → front_of (drop from text) ≡ front → IsFrontWithin (length text - from) front
    → ((n : ℕ) → 0 < n → from + n ≤ length text → Ends text (from + n)) → Ends text from
before_front text from End within is fits again = parted [] (subst (λ k. Tokenizes text from k []) (omega arith) (ended from))
before_front text from (Gap n) within is fits again = before_gap text from n is (again n fits.0 (omega (arith, fits.1)))
before_front text from (Lexeme kind n) within is fits again = before_token text from n kind is (again n fits.0 (omega (arith, fits.1)))
before_front text from (Broken fault) within is fits again = broken from [] fault (ended from) is

-- by how much is left at most
ends_from : (text : List ℕ) (left from : ℕ) → from ≤ length text → length text ≤ from + left → Ends text from
ends_from text zero from within enough = parted [] (subst (λ k. Tokenizes text from k []) (omega arith) (ended from))
ends_from text (suc left) from within enough =
    before_front text from _ within refl (subst (λ k. IsFrontWithin k (front_of (drop from text))) (length-drop from text) (front_of_within (drop from text)))
    (λ n some fits. ends_from text left (from + n) fits (omega arith))

pub always_one : (text : List ℕ) → ((tokens : List Token) × IsTokens text tokens) ⊎ ((fault : LexicalFault) × (at : At) × FirstFault text fault at)
always_one text = go (ends_from text (length text) 0 (omega arith) (omega arith))
  where
    go : Ends text 0 → ((tokens : List Token) × IsTokens text tokens) ⊎ ((fault : LexicalFault) × (at : At) × FirstFault text fault at)
    go (parted tokens parts) = inl (tokens, parts)
    go (broken to tokens fault parts is) = inr (fault, place_of text to, (to, tokens, parts, is, refl))
