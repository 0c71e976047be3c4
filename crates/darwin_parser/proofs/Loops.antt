-- A loop beside the recursion that says what it reads: the turns so far and those to come make the whole.
use Rattle.std.proofs.Common.{◌≡◌, ◌≢◌, ℕ, zero, suc, ◌<◌, ◌≤◌, Bool, true, false, List, [], ◌∷◌, length, Result, Ok, Err, refl, ap, sym, subst, ◌∙◌, arith, drop}
use Rattle.std.specs.Result.{IsErrAnd}
use Rattle.darwin_lexer.specs.declared.token.Token.{Token}
use Rattle.darwin_lexer.specs.declared.token.TokenKind.{TokenKind}
use Rattle.darwin_lexer.specs.declared.token.TokenKind.TheVariants as kinds
use Rattle.darwin_lexer.specs.declared.token.Sign.TheVariants.{Comma}
use Rattle.darwin_parser.specs.declared.cursor.Stop.{Stop}
use Rattle.darwin_parser.specs.declared.cursor.Stop.TheVariants.{Expected, NoMemory}
use Rattle.darwin_parser.specs.declared.cursor.Level.{Level}
use Rattle.darwin_parser.specs.Reading.{operator_at, sees_operator, at_end, Reader, Outcome, Reads, and_then, turns, turns_up_to, repeated, up_to, pushed, sees, after, expect, ◌>>=◌, ◌>>◌}

abbrev pub comma : TokenKind
comma = kinds.Sign Comma

-- an error that is passed on
pub passes_on : {A B : Type 0} (view : B → A) (outcome : Outcome A) {e : Stop} (rest : List Token) (r : Result B Stop) → IsErrAnd r (λ y. y ≡ e)
    → (e ≢ NoMemory → outcome ≡ Err e) → Reads view outcome r rest
passes_on view outcome rest (Ok b) h f = absurd h
passes_on view outcome rest (Err y) h f = λ ne. f (λ q. ne (h ∙ q)) ∙ ap Err (sym h)

pub record Turning {S A : Type 0} (test : List Token → Bool) (step : S → A → S) (p : Reader A) (whole : Outcome S) (s : S) (tokens : List Token) : Type 0 where
  pub bound : ℕ
  pub enough : length tokens ≤ bound
  pub same : turns test step p bound s tokens ≡ whole

module _ {S A : Type 0} (test : List Token → Bool) (step : S → A → S) (p : Reader A) where
  turn : (n : ℕ) (s : S) (tokens : List Token) → test tokens ≡ true → turns test step p (suc n) s tokens ≡ (p >>= (λ a. turns test step p n (step s a))) tokens
  unfolding turns
  turn n s tokens e = rw e refl

  stop : (n : ℕ) (s : S) (tokens : List Token) → test tokens ≡ false → turns test step p n s tokens ≡ Ok (s, tokens)
  unfolding turns
  stop zero s tokens e = refl
  stop (suc n) s tokens e = rw e refl

  next_at : (n : ℕ) (s : S) (tokens : List Token) (whole : Outcome S) (a : A) (rest : List Token) → test tokens ≡ true → p tokens ≡ Ok (a, rest) → length rest < length tokens
      → length tokens ≤ n → turns test step p n s tokens ≡ whole → Turning test step p whole (step s a) rest
  next_at zero s tokens whole a rest t e shorter enough same = absurd (omega arith)
  next_at (suc n) s tokens whole a rest t e shorter enough same =
      record { bound = n; enough = omega arith; same = sym (turn n s tokens t ∙ ap (λ o. and_then o (λ b. turns test step p n (step s b))) e) ∙ same }

  fail_at : (n : ℕ) (s : S) (tokens : List Token) (whole : Outcome S) (e : Stop) → 0 < length tokens → test tokens ≡ true → p tokens ≡ Err e
      → length tokens ≤ n → turns test step p n s tokens ≡ whole → whole ≡ Err e
  fail_at zero s tokens whole e some t f enough same = absurd (omega arith)
  fail_at (suc n) s tokens whole e some t f enough same =
      sym same ∙ (turn n s tokens t ∙ ap (λ o. and_then o (λ b. turns test step p n (step s b))) f)

module _ {S A : Type 0} {test : List Token → Bool} {step : S → A → S} {p : Reader A} {whole : Outcome S} {s : S} {tokens : List Token} (h : Turning test step p whole s tokens) where
  pub next : {s' : S} {a : A} {rest : List Token} → test tokens ≡ true → p tokens ≡ Ok (a, rest) → length rest < length tokens → s' ≡ step s a → Turning test step p whole s' rest
  next {rest = rest} t e shorter same = subst (λ x. Turning test step p whole x rest) (sym same) (next_at test step p h.bound s tokens whole _ _ t e shorter h.enough h.same)

  pub stops : test tokens ≡ false → whole ≡ Ok (s, tokens)
  stops t = sym h.same ∙ stop test step p h.bound s tokens t

  pub fails : {e : Stop} → test tokens ≡ true → 0 < length tokens → p tokens ≡ Err e → whole ≡ Err e
  fails t some f = fail_at test step p h.bound s tokens whole _ some t f h.enough h.same

-- ---- a loop that reads one, and then asks whether more come

-- the one that comes next and the turns after it make the whole
pub record Owing {S A : Type 0} (test : List Token → Bool) (step : S → A → S) (p first : Reader A) (whole : Outcome S) (s : S) (tokens : List Token) : Type 0 where
  pub bound : List Token → ℕ
  pub enough : (rest : List Token) → length rest < length tokens → length rest ≤ bound rest
  pub same : and_then (first tokens) (λ a rest. turns test step p (bound rest) (step s a) rest) ≡ whole

pub owes_first : {A : Type 0} (test : List Token → Bool) (p first : Reader A) (items : List A) (tokens : List Token) → items ≡ [] → Owing test pushed p first ((first >>= (λ a. repeated test pushed p (a ∷ []))) tokens) items tokens
owes_first test p first items tokens e = subst (λ s. Owing test pushed p first ((first >>= (λ a. repeated test pushed p (a ∷ []))) tokens) s tokens) (sym e)
    (record { bound = length; enough = λ rest shorter. omega arith; same = refl })

module _ {S A : Type 0} {test : List Token → Bool} {step : S → A → S} {p first : Reader A} {whole : Outcome S} {s : S} {tokens : List Token} (h : Owing test step p first whole s tokens) where
  pub read_one : {s' : S} {a : A} {rest : List Token} → first tokens ≡ Ok (a, rest) → length rest < length tokens → s' ≡ step s a → Turning test step p whole s' rest
  read_one {rest = rest} e shorter same = subst (λ x. Turning test step p whole x rest) (sym same)
      (record { bound = h.bound rest; enough = h.enough rest shorter; same = sym (ap (λ o. and_then o (λ a rest. turns test step p (h.bound rest) (step s a) rest)) e) ∙ h.same })

  pub fails_at_one : {e : Stop} → first tokens ≡ Err e → whole ≡ Err e
  fails_at_one f = sym h.same ∙ ap (λ o. and_then o (λ a rest. turns test step p (h.bound rest) (step s a) rest)) f

module _ {S A : Type 0} {test : List Token → Bool} {step : S → A → S} {p : Reader A} {whole : Outcome S} where
  owes_at : (n : ℕ) (s : S) (tokens : List Token) → 0 < length tokens → test tokens ≡ true → length tokens ≤ n → turns test step p n s tokens ≡ whole → Owing test step p p whole s tokens
  owes_at zero s tokens some t enough same = absurd (omega arith)
  owes_at (suc n) s tokens some t enough same = record { bound = λ rest. n; enough = λ rest shorter. omega arith; same = sym (turn test step p n s tokens t) ∙ same }

  pub owes : {s : S} {tokens : List Token} → Turning test step p whole s tokens → test tokens ≡ true → 0 < length tokens → Owing test step p p whole s tokens
  owes {s} {tokens} h t some = owes_at h.bound s tokens some t h.enough h.same

-- ---- a loop that goes on after a token of one kind

pub sees_some : (kind : TokenKind) (tokens : List Token) → sees kind tokens ≡ true → 0 < length tokens
unfolding sees
sees_some kind [] e = absurd cc
sees_some kind (t ∷ tokens) e = omega arith

after_seen : (kind : TokenKind) (tokens : List Token) → sees kind tokens ≡ true → length (after kind tokens) < length tokens
unfolding sees after
after_seen kind [] e = absurd cc
after_seen kind (t ∷ tokens) e = rw e (omega arith)

pub after_not : (kind : TokenKind) (tokens : List Token) → sees kind tokens ≡ false → after kind tokens ≡ tokens
unfolding after
after_not kind tokens e = rw e refl

pub taken : {A : Type 0} (kind : TokenKind) (p : Reader A) (tokens : List Token) → sees kind tokens ≡ true → (expect kind >> p) tokens ≡ p (after kind tokens)
unfolding sees after expect
taken kind p [] e = absurd cc
taken kind p (t ∷ tokens) e = rw e refl

module _ {S A : Type 0} (kind : TokenKind) {step : S → A → S} (p : Reader A) {whole : Outcome S} {s : S} {tokens now : List Token}
    (h : Turning (sees kind) step (expect kind >> p) whole s tokens) (now_is : now ≡ after kind tokens) where
  pub stops_after : sees kind tokens ≡ false → whole ≡ Ok (s, now)
  stops_after t = stops h t ∙ ap (λ ts. Ok (s, ts)) (sym (now_is ∙ after_not kind tokens t))

  pub owes_after : sees kind tokens ≡ true → Owing (sees kind) step (expect kind >> p) p whole s now
  owes_after t =
      let owing = owes h t (sees_some kind tokens t) in
      let fewer = after_seen kind tokens t in
      let fewer' = ap length now_is in
      record {
        bound = owing.bound;
        enough = λ rest shorter. owing.enough rest (omega arith);
        same = ap (λ o. and_then o (λ a rest. turns (sees kind) step (expect kind >> p) (owing.bound rest) (step s a) rest)) (ap p now_is ∙ sym (taken kind p tokens t)) ∙ owing.same;
      }

pub operator_some : (level : Level) (tokens : List Token) → sees_operator level tokens ≡ true → 0 < length tokens
unfolding operator_at
operator_some level [] e = absurd cc
operator_some level (t ∷ tokens) e = omega arith

-- ---- a loop up to a token of one kind, which is taken

pub record TurningUpTo {S A : Type 0} (close : TokenKind) (step : S → A → S) (p : Reader A) (whole : Outcome S) (s : S) (tokens : List Token) : Type 0 where
  pub bound : ℕ
  pub enough : length tokens < bound
  pub same : turns_up_to close step p bound s tokens ≡ whole

pub after_is : (kind : TokenKind) (tokens : List Token) → sees kind tokens ≡ true → after kind tokens ≡ drop 1 tokens
unfolding after
after_is kind tokens e = rw e refl

module _ {S A : Type 0} (close : TokenKind) (step : S → A → S) (p : Reader A) where
  turn_up_to : (n : ℕ) (s : S) (tokens : List Token) → sees close tokens ≡ false → turns_up_to close step p (suc n) s tokens ≡ (p >>= (λ a. turns_up_to close step p n (step s a))) tokens
  unfolding turns_up_to
  turn_up_to n s tokens e = rw e refl

  stop_up_to : (n : ℕ) (s : S) (tokens : List Token) → sees close tokens ≡ true → turns_up_to close step p (suc n) s tokens ≡ Ok (s, drop 1 tokens)
  unfolding turns_up_to
  stop_up_to n s tokens e = rw e refl

  next_up_to_at : (n : ℕ) (s : S) (tokens : List Token) (whole : Outcome S) (a : A) (rest : List Token) → sees close tokens ≡ false → p tokens ≡ Ok (a, rest) → length rest < length tokens
      → length tokens < n → turns_up_to close step p n s tokens ≡ whole → TurningUpTo close step p whole (step s a) rest
  next_up_to_at zero s tokens whole a rest t e shorter enough same = absurd (omega arith)
  next_up_to_at (suc n) s tokens whole a rest t e shorter enough same =
      record { bound = n; enough = omega arith; same = sym (turn_up_to n s tokens t ∙ ap (λ o. and_then o (λ b. turns_up_to close step p n (step s b))) e) ∙ same }

  fail_up_to_at : (n : ℕ) (s : S) (tokens : List Token) (whole : Outcome S) (e : Stop) → sees close tokens ≡ false → p tokens ≡ Err e
      → length tokens < n → turns_up_to close step p n s tokens ≡ whole → whole ≡ Err e
  fail_up_to_at zero s tokens whole e t f enough same = absurd (omega arith)
  fail_up_to_at (suc n) s tokens whole e t f enough same =
      sym same ∙ (turn_up_to n s tokens t ∙ ap (λ o. and_then o (λ b. turns_up_to close step p n (step s b))) f)

  stop_up_to_at : (n : ℕ) (s : S) (tokens : List Token) (whole : Outcome S) → sees close tokens ≡ true → length tokens < n → turns_up_to close step p n s tokens ≡ whole
      → whole ≡ Ok (s, drop 1 tokens)
  stop_up_to_at zero s tokens whole t enough same = absurd (omega arith)
  stop_up_to_at (suc n) s tokens whole t enough same = sym same ∙ stop_up_to n s tokens t

module _ {S A : Type 0} {close : TokenKind} {step : S → A → S} {p : Reader A} {whole : Outcome S} {s : S} {tokens now : List Token}
    (h : TurningUpTo close step p whole s tokens) (now_is : now ≡ after close tokens) where
  pub next_up_to : {s' : S} {a : A} {rest : List Token} → sees close tokens ≡ false → p now ≡ Ok (a, rest) → length rest < length now → s' ≡ step s a → TurningUpTo close step p whole s' rest
  next_up_to {rest = rest} t e shorter same =
      let is : now ≡ tokens = now_is ∙ after_not close tokens t in
      subst (λ x. TurningUpTo close step p whole x rest) (sym same)
      (next_up_to_at close step p h.bound s tokens whole _ _ t (ap p (sym is) ∙ e) (subst (λ ts. length rest < length ts) is shorter) h.enough h.same)

  pub stops_up_to : sees close tokens ≡ true → whole ≡ Ok (s, now)
  stops_up_to t = stop_up_to_at close step p h.bound s tokens whole t h.enough h.same ∙ ap (λ ts. Ok (s, ts)) (sym (now_is ∙ after_is close tokens t))

  pub fails_up_to : {e : Stop} → sees close tokens ≡ false → p now ≡ Err e → whole ≡ Err e
  fails_up_to t f = fail_up_to_at close step p h.bound s tokens whole _ t (ap p (sym (now_is ∙ after_not close tokens t)) ∙ f) h.enough h.same

-- the one that comes next and the turns after it, up to that token, make the whole
pub record OwingUpTo {S A : Type 0} (close : TokenKind) (step : S → A → S) (p : Reader A) (whole : Outcome S) (s : S) (tokens : List Token) : Type 0 where
  pub bound : List Token → ℕ
  pub enough : (rest : List Token) → length rest < length tokens → length rest < bound rest
  pub same : and_then (p tokens) (λ a rest. turns_up_to close step p (bound rest) (step s a) rest) ≡ whole

pub owes_first_up_to : {A : Type 0} (close : TokenKind) (p : Reader A) (items : List A) (tokens : List Token) → items ≡ [] → OwingUpTo close pushed p ((p >>= (λ a. up_to close pushed p (a ∷ []))) tokens) items tokens
owes_first_up_to close p items tokens e = subst (λ s. OwingUpTo close pushed p ((p >>= (λ a. up_to close pushed p (a ∷ []))) tokens) s tokens) (sym e)
    (record { bound = λ rest. suc (length rest); enough = λ rest shorter. omega arith; same = refl })

module _ {S A : Type 0} {close : TokenKind} {step : S → A → S} {p : Reader A} {whole : Outcome S} {s : S} {tokens : List Token} (h : OwingUpTo close step p whole s tokens) where
  pub read_one_up_to : {s' : S} {a : A} {rest : List Token} → p tokens ≡ Ok (a, rest) → length rest < length tokens → s' ≡ step s a → TurningUpTo close step p whole s' rest
  read_one_up_to {rest = rest} e shorter same = subst (λ x. TurningUpTo close step p whole x rest) (sym same)
      (record { bound = h.bound rest; enough = h.enough rest shorter; same = sym (ap (λ o. and_then o (λ a rest. turns_up_to close step p (h.bound rest) (step s a) rest)) e) ∙ h.same })

  pub fails_at_one_up_to : {e : Stop} → p tokens ≡ Err e → whole ≡ Err e
  fails_at_one_up_to f = sym h.same ∙ ap (λ o. and_then o (λ a rest. turns_up_to close step p (h.bound rest) (step s a) rest)) f

module _ {S A : Type 0} {close : TokenKind} {step : S → A → S} {p : Reader A} {whole : Outcome S} where
  owes_up_to_at : (n : ℕ) (s : S) (tokens : List Token) → sees close tokens ≡ false → length tokens < n → turns_up_to close step p n s tokens ≡ whole → OwingUpTo close step p whole s tokens
  owes_up_to_at zero s tokens t enough same = absurd (omega arith)
  owes_up_to_at (suc n) s tokens t enough same = record { bound = λ rest. n; enough = λ rest shorter. omega arith; same = sym (turn_up_to close step p n s tokens t) ∙ same }

  pub owes_up_to : {s : S} {tokens now : List Token} → TurningUpTo close step p whole s tokens → now ≡ after close tokens → sees close tokens ≡ false → OwingUpTo close step p whole s now
  owes_up_to {s} {tokens} {now} h now_is t = subst (OwingUpTo close step p whole s) (sym (now_is ∙ after_not close tokens t)) (owes_up_to_at h.bound s tokens t h.enough h.same)

-- ---- the end of the tokens

pub at_end_empty : {A : Type 0} (a : A) (rest : List Token) → rest ≡ [] → at_end a rest ≡ Ok (a, rest)
at_end_empty a [] e = refl
at_end_empty a (t ∷ rest) e = absurd cc

pub at_end_more : {A : Type 0} (a : A) (rest : List Token) → (rest ≡ [] → ⊥) → at_end a rest ≡ Err (Expected (length rest))
at_end_more a [] f = absurd (f refl)
at_end_more a (t ∷ rest) f = refl
