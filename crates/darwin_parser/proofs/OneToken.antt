-- Readers of one token, and the tests of the next one, are exact.
use Rattle.std.proofs.Common.{◌≡◌, ℕ, Bool, true, false, ◌||◌, ◌&&◌, cond, List, [], ◌∷◌, ◌++◌, length, Ok, Err, refl, ap, sym, subst, ◌∙◌, inl, inr, ◌⊎◌, Option, Some, None, is_some, drop}
use Rattle.std.proofs.lemmas.Option.{none-some, same_Some}
use Rattle.std.proofs.lemmas.Bool.{or_cases, or_parts, or_from}
use Rattle.base.proofs.PlaceLaws.{heads_are}
use Rattle.darwin_lexer.specs.declared.token.Token.{Token}
use Rattle.darwin_lexer.specs.declared.token.TokenKind.{TokenKind}
use Rattle.darwin_lexer.specs.declared.token.TokenKind.TheVariants as kinds
use Rattle.darwin_lexer.specs.declared.token.Keyword.TheVariants as words
use Rattle.darwin_lexer.specs.declared.token.Sign.TheVariants as signs
use Rattle.darwin_parser.specs.declared.cursor.Level.{Level}
use Rattle.darwin_parser.specs.declared.cursor.Level.TheVariants as levels
use Rattle.darwin_parser.specs.declared.tree.Op.TheVariants as ops
use Rattle.darwin_parser.specs.Grammar as grammar
use Rattle.darwin_parser.specs.declared.cursor.Stop.TheVariants.{Expected}
use Rattle.darwin_parser.specs.Language as lang
use Rattle.darwin_parser.specs.Language.{Lang, Joined}
use Rattle.darwin_parser.specs.Reading as reading
use Rattle.darwin_parser.specs.Reading.{Reader, Outcome, and_then, same_kind}
use Rattle.darwin_parser.proofs.KindSets.{class_of, member, or_false, same_self, same_sound, sum_of, within_is}
use Rattle.darwin_parser.proofs.Exact.{Answer, Begun, Exact, SameHead, StartsOr, Stops, Tells, decides, exact_if, exact_reads, exact_same}

-- one token of which f tells the value
abbrev pub one : {A : Type 0} → (Token → Option A) → Lang A
one f = λ tokens a. (t : Token) × (tokens ≡ t ∷ []) × (f t ≡ Some a)

pub record Example {A : Type 0} (f : Token → Option A) : Type 0 where
  pub token : Token
  pub value : A
  pub is : f token ≡ Some value

abbrev pub one_reads : {A : Type 0} → (Token → Option A) → Reader A
one_reads f [] = Err (Expected 0)
one_reads f (t ∷ ts) = reading.value_or_refuse (f t) (t ∷ ts) ts

pub dead_end : (t : Token) (v x : List Token) → t ∷ v ≡ x → SameHead x [] → ⊥
dead_end t v [] e h = absurd cc
dead_end t v (y ∷ x) e h = h

pub head_is : (t u : Token) (v x ts : List Token) → t ∷ v ≡ x → SameHead x (u ∷ ts) → t ≡ u
head_is t u v [] ts e h = absurd h
head_is t u v (y ∷ x) ts e h = heads_are t y v x e ∙ h

module _ {A : Type 0} (f : Token → Option A) (ex : Example f) where
  pub one_begun : (i : ℕ) → Begun (one f) []
  one_begun i = record { others = ex.token ∷ []; value = ex.value; spelled = (ex.token, refl, ex.is) }

  pub one_at : (t : Token) (ts : List Token) (o : Option A) → f t ≡ o → Answer [] (λ i. one f) (t ∷ ts) (reading.value_or_refuse o (t ∷ ts) ts)
  one_at t ts None is = record {
    front = [];
    rest = t ∷ ts;
    whole = refl;
    left = refl;
    dead = λ i u v x b l stops same head.
        let same_token : l.0 ≡ t = head_is l.0 t v x ts (ap (λ w. w ++ v) (sym l.1) ∙ same) head in
        none-some b (sym is ∙ (ap f (sym same_token) ∙ l.2));
    begun = one_begun 0;
  }
  one_at t ts (Some a) is = record {
    front = t ∷ [];
    whole = refl;
    spelled = (t, refl, is);
    only = λ i u v x b l stops same head.
        let same_token : l.0 ≡ t = heads_are l.0 t v x (ap (λ w. w ++ v) (sym l.1) ∙ same) in
        (l.1 ∙ ap (λ z. z ∷ []) same_token, same_Some b a (sym l.2 ∙ (ap f same_token ∙ is)));
  }

  pub one_answers : (tokens : List Token) → Answer [] (λ i. one f) tokens (one_reads f tokens)
  one_answers [] = record {
    front = [];
    rest = [];
    whole = refl;
    left = refl;
    dead = λ i u v x b l stops same head. dead_end l.0 v x (ap (λ w. w ++ v) (sym l.1) ∙ same) head;
    begun = one_begun 0;
  }
  one_answers (t ∷ ts) = one_at t ts (f t) refl

  pub exact_one : (F : List TokenKind) → ((t : Token) (a : A) → f t ≡ Some a → member (class_of t.kind) F ≡ true) → Exact F false [] (λ i. one f) (one_reads f)
  exact_one F tells = record {
    shape = record { starts = λ i w a l. subst (StartsOr F false) (sym l.1) (tells l.0 a l.2); inhabited = one_begun; grows = λ w a l. l };
    answers = one_answers;
  }

abbrev pub of_kind : TokenKind → Token → Option Token
of_kind kind t = cond (same_kind t.kind kind) (Some t) None

pub of_kind_at : (b : Bool) (t u : Token) → cond b (Some t) None ≡ Some u → (b ≡ true) × (t ≡ u)
of_kind_at true t u e = (refl, same_Some t u e)
of_kind_at false t u e = absurd (none-some u e)

pub class_same : (k kind : TokenKind) → k ≡ kind → member (class_of k) (class_of kind ∷ []) ≡ true
class_same k kind e = ap (λ z. same_kind (class_of z) (class_of kind) || false) e ∙ ap (λ b. b || false) (same_self (class_of kind))

abbrev pub example_of : TokenKind → Token
example_of kind = record { kind = kind; start = 0; end = 0; at = record { line = 1; column = 1 } }

pub expect_is : (kind : TokenKind) (tokens : List Token) → one_reads (of_kind kind) tokens ≡ reading.expect kind tokens
unfolding reading.expect
expect_is kind [] = refl
expect_is kind (t ∷ ts) = elim (same_kind t.kind kind) as (λ b. reading.value_or_refuse (cond b (Some t) None) (t ∷ ts) ts ≡ cond b (Ok (t, ts)) (Err (Expected (length (t ∷ ts))))) [ true ↦ refl | false ↦ refl ]

pub exact_token : (kind : TokenKind) → Exact (class_of kind ∷ []) false [] (λ i. lang.token kind) (reading.expect kind)
exact_token kind =
    let ex : Example (of_kind kind) = record { token = example_of kind; value = example_of kind; is = ap (λ b. cond b (Some (example_of kind)) None) (same_self kind) } in
    exact_same {L = λ i. one (of_kind kind)} {L' = λ i. lang.token kind}
    (exact_reads (exact_one (of_kind kind) ex (class_of kind ∷ []) (λ t u e. let h = of_kind_at (same_kind t.kind kind) t u e in class_same t.kind kind (same_sound t.kind kind h.0))) (expect_is kind))
    (λ i w u l. let h = of_kind_at (same_kind l.0.kind kind) l.0 u l.2 in (l.1 ∙ ap (λ z. z ∷ []) h.1, ap (λ z. z.kind) (sym h.1) ∙ same_sound l.0.kind kind h.0))
    (λ i w u l. (u, l.0, ap (λ b. cond b (Some u) None) (ap (λ k. same_kind k kind) l.1 ∙ same_self kind)))

abbrev pub plain : TokenKind → Bool
plain kinds.Name = true
plain (kinds.Number n) = false
plain (kinds.Word w) = true
plain (kinds.Sign s) = true

pub class_differs : (k kind : TokenKind) → plain kind ≡ true → same_kind k kind ≡ false → same_kind (class_of k) kind ≡ false
class_differs kinds.Name kind p e = e
class_differs (kinds.Word w) kind p e = e
class_differs (kinds.Sign s) kind p e = e
class_differs (kinds.Number n) kinds.Name p e = refl
class_differs (kinds.Number n) (kinds.Word w) p e = refl
class_differs (kinds.Number n) (kinds.Sign s) p e = refl
class_differs (kinds.Number n) (kinds.Number m) p e = absurd cc

pub on_plain : (kind k : TokenKind) → plain kind ≡ true → k ≡ kind → member (class_of k) (kind ∷ []) ≡ true
on_plain kinds.Name k p e = ap (λ z. same_kind (class_of z) kinds.Name || false) e
on_plain (kinds.Word w) k p e = ap (λ z. same_kind (class_of z) (kinds.Word w) || false) e ∙ ap (λ b. b || false) (same_self (kinds.Word w))
on_plain (kinds.Sign w) k p e = ap (λ z. same_kind (class_of z) (kinds.Sign w) || false) e ∙ ap (λ b. b || false) (same_self (kinds.Sign w))
on_plain (kinds.Number n) k p e = absurd cc

pub sees_on : (kind : TokenKind) (tokens : List Token) → plain kind ≡ true → reading.sees kind tokens ≡ true → StartsOr (kind ∷ []) false tokens
unfolding reading.sees
sees_on kind [] p e = absurd cc
sees_on kind (t ∷ ts) p e = on_plain kind t.kind p (same_sound t.kind kind e)

pub sees_off : (kind : TokenKind) (tokens : List Token) → plain kind ≡ true → reading.sees kind tokens ≡ false → Stops (kind ∷ []) tokens
unfolding reading.sees
sees_off kind [] p e = tt
sees_off kind (t ∷ ts) p e = or_false (same_kind (class_of t.kind) kind) (class_differs t.kind kind p e)

pub tells_sees : (kind : TokenKind) → plain kind ≡ true → Tells (reading.sees kind) (kind ∷ [])
tells_sees kind p = record { on = λ tokens. sees_on kind tokens p; off = λ tokens. sees_off kind tokens p }

pub starts_two : (a b : TokenKind) (tokens : List Token) → StartsOr (a ∷ []) false tokens ⊎ StartsOr (b ∷ []) false tokens → StartsOr (a ∷ b ∷ []) false tokens
starts_two a b [] (inl h) = h
starts_two a b [] (inr h) = h
starts_two a b (t ∷ ts) (inl h) = within_is (a ∷ []) (a ∷ b ∷ []) (class_of t.kind) (ap (λ c. (c || (same_kind a b || false)) && true) (same_self a)) h
starts_two a b (t ∷ ts) (inr h) = elim (same_kind (class_of t.kind) a) as (λ c. (c || (same_kind (class_of t.kind) b || false)) ≡ true) [ true ↦ refl | false ↦ h ]

pub stops_two : (a b : TokenKind) (tokens : List Token) → Stops (a ∷ []) tokens → Stops (b ∷ []) tokens → Stops (a ∷ b ∷ []) tokens
stops_two a b [] s t = tt
stops_two a b (x ∷ ts) s t = or_from (same_kind (class_of x.kind) a) (same_kind (class_of x.kind) b || false) (or_parts (same_kind (class_of x.kind) a) false s).0 t

pub tells_either : {p q : List Token → Bool} (a b : TokenKind) → Tells p (a ∷ []) → Tells q (b ∷ []) → Tells (λ tokens. p tokens || q tokens) (a ∷ b ∷ [])
tells_either {p = p} {q = q} a b s t = record {
  on = λ tokens e. starts_two a b tokens (elim (or_cases (p tokens) (q tokens) e) as (λ _. StartsOr (a ∷ []) false tokens ⊎ StartsOr (b ∷ []) false tokens) [ inl h ↦ inl (s.on tokens h) | inr h ↦ inr (t.on tokens h) ]);
  off = λ tokens e. let h = or_parts (p tokens) (q tokens) e in stops_two a b tokens (s.off tokens h.0) (t.off tokens h.1);
}

pub number_is : (k : TokenKind) (n : ℕ) → reading.number_of k ≡ Some n → k ≡ kinds.Number n
number_is (kinds.Number m) n e = ap kinds.Number (same_Some m n e)
number_is kinds.Name n e = absurd (none-some n e)
number_is (kinds.Word w) n e = absurd (none-some n e)
number_is (kinds.Sign s) n e = absurd (none-some n e)

pub number_reads : (tokens : List Token) → one_reads (λ t. reading.number_of t.kind) tokens ≡ reading.number tokens
unfolding reading.number
number_reads [] = refl
number_reads (t ∷ ts) = refl

pub exact_number : Exact (kinds.Number 0 ∷ []) false [] (λ i. grammar.number) reading.number
exact_number =
    let ex : Example (λ t. reading.number_of t.kind) = record { token = example_of (kinds.Number 0); value = 0; is = refl } in
    exact_same {L = λ i. one (λ t. reading.number_of t.kind)} {L' = λ i. grammar.number}
    (exact_reads (exact_one (λ t. reading.number_of t.kind) ex (kinds.Number 0 ∷ []) (λ t n e. ap (λ k. member (class_of k) (kinds.Number 0 ∷ [])) (number_is t.kind n e))) number_reads)
    (λ i w n l. (l.0, l.1, number_is l.0.kind n l.2)) (λ i w n l. (l.0, l.1, ap reading.number_of l.2))

pub number_on : (k : TokenKind) → is_some (reading.number_of k) ≡ true → member (class_of k) (kinds.Number 0 ∷ []) ≡ true
number_on (kinds.Number m) e = refl
number_on kinds.Name e = absurd cc
number_on (kinds.Word w) e = absurd cc
number_on (kinds.Sign s) e = absurd cc

pub number_off : (k : TokenKind) → is_some (reading.number_of k) ≡ false → member (class_of k) (kinds.Number 0 ∷ []) ≡ false
number_off (kinds.Number m) e = absurd cc
number_off kinds.Name e = refl
number_off (kinds.Word w) e = refl
number_off (kinds.Sign s) e = refl

pub sees_number_on : (tokens : List Token) → reading.sees_number tokens ≡ true → StartsOr (kinds.Number 0 ∷ []) false tokens
unfolding reading.sees_number
sees_number_on [] e = absurd cc
sees_number_on (t ∷ ts) e = number_on t.kind e

pub sees_number_off : (tokens : List Token) → reading.sees_number tokens ≡ false → Stops (kinds.Number 0 ∷ []) tokens
unfolding reading.sees_number
sees_number_off [] e = tt
sees_number_off (t ∷ ts) e = number_off t.kind e

pub tells_number : Tells reading.sees_number (kinds.Number 0 ∷ [])
tells_number = record { on = sees_number_on; off = sees_number_off }

-- the tokens that are operators of a level
abbrev pub operators : Level → List TokenKind
operators levels.Or = kinds.Word words.Or ∷ []
operators levels.And = kinds.Word words.And ∷ []
operators levels.Comparison =
    kinds.Sign signs.EqEq ∷ kinds.Sign signs.NotEq ∷ kinds.Sign signs.Less ∷ kinds.Sign signs.LessEq ∷ kinds.Sign signs.Greater ∷ kinds.Sign signs.GreaterEq ∷ []
operators levels.Sum = kinds.Sign signs.Plus ∷ kinds.Sign signs.Minus ∷ []
operators levels.Term = kinds.Sign signs.Star ∷ kinds.Sign signs.Slash ∷ kinds.Sign signs.Percent ∷ []

-- whether a kind is an operator, by both
pub operator_kinds : (level : Level) (k : TokenKind) → is_some (grammar.operation level k) ≡ member (class_of k) (operators level)
operator_kinds levels.Or (kinds.Word words.Or) = refl
operator_kinds levels.Or _ = refl
operator_kinds levels.And (kinds.Word words.And) = refl
operator_kinds levels.And _ = refl
operator_kinds levels.Comparison (kinds.Sign signs.EqEq) = refl
operator_kinds levels.Comparison _ = refl
operator_kinds levels.Sum (kinds.Sign signs.Plus) = refl
operator_kinds levels.Sum _ = refl
operator_kinds levels.Term (kinds.Sign signs.Star) = refl
operator_kinds levels.Term _ = refl

pub an_operator : (level : Level) → Example (λ t. grammar.operation level t.kind)
an_operator levels.Or = record { token = example_of (kinds.Word words.Or); value = ops.Or; is = refl }
an_operator levels.And = record { token = example_of (kinds.Word words.And); value = ops.And; is = refl }
an_operator levels.Comparison = record { token = example_of (kinds.Sign signs.EqEq); value = ops.Eq; is = refl }
an_operator levels.Sum = record { token = example_of (kinds.Sign signs.Plus); value = ops.Add; is = refl }
an_operator levels.Term = record { token = example_of (kinds.Sign signs.Star); value = ops.Mul; is = refl }

pub operator_reads : (level : Level) (tokens : List Token) → one_reads (λ t. grammar.operation level t.kind) tokens ≡ reading.operator level tokens
unfolding reading.operator reading.operator_at
operator_reads level [] = refl
operator_reads level (t ∷ ts) = refl

pub exact_operator : (level : Level) → Exact (operators level) false [] (λ i. grammar.operator level) (reading.operator level)
exact_operator level =
    exact_reads (exact_one (λ t. grammar.operation level t.kind) (an_operator level) (operators level) (λ t o e. sym (operator_kinds level t.kind) ∙ ap is_some e)) (operator_reads level)

pub operator_on : (level : Level) (tokens : List Token) → reading.sees_operator level tokens ≡ true → StartsOr (operators level) false tokens
unfolding reading.operator_at
operator_on level [] e = absurd cc
operator_on level (t ∷ ts) e = sym (operator_kinds level t.kind) ∙ e

pub operator_off : (level : Level) (tokens : List Token) → reading.sees_operator level tokens ≡ false → Stops (operators level) tokens
unfolding reading.operator_at
operator_off level [] e = tt
operator_off level (t ∷ ts) e = sym (operator_kinds level t.kind) ∙ e

pub tells_operator : (level : Level) → Tells (reading.sees_operator level) (operators level)
tells_operator level = record { on = operator_on level; off = operator_off level }

pub eat_is : {A : Type 0} (kind : TokenKind) (p q : Reader A) (tokens : List Token)
    → cond (reading.sees kind tokens) (and_then (reading.expect kind tokens) (λ _. p)) (q tokens) ≡ cond (reading.sees kind tokens) (p (drop 1 tokens)) (q tokens)
unfolding reading.sees reading.expect
eat_is kind p q [] = refl
eat_is kind p q (t ∷ ts) =
    elim (same_kind t.kind kind) as (λ b. cond b (and_then (cond b (Ok (t, ts)) (Err (Expected (length (t ∷ ts))))) (λ _. p)) (q (t ∷ ts)) ≡ cond b (p ts) (q (t ∷ ts))) [ true ↦ refl | false ↦ refl ]

pub class_plain : (k : TokenKind) → plain k ≡ true → class_of k ≡ k
class_plain kinds.Name e = refl
class_plain (kinds.Word w) e = refl
class_plain (kinds.Sign s) e = refl
class_plain (kinds.Number n) e = absurd cc

pub exact_plain : (kind : TokenKind) → plain kind ≡ true → Exact (kind ∷ []) false [] (λ i. lang.token kind) (reading.expect kind)
exact_plain kind e = subst (λ k. Exact (k ∷ []) false [] (λ i. lang.token kind) (reading.expect kind)) (class_plain kind e) (exact_token kind)

pub exact_sees : {A : Type 0} (kind : TokenKind) {F1 F2 C1 C2 : List TokenKind} {n2 : Bool} {L M : ℕ → Lang A} {p q : Reader A} → plain kind ≡ true → Exact F1 false C1 L p → Exact F2 n2 C2 M q
    → decides (kind ∷ []) F1 F2 ≡ true
    → Exact (F1 ++ F2) n2 (C1 ++ sum_of n2 C2 (kind ∷ [])) (λ i tokens a. L i tokens a ⊎ M i tokens a) (λ tokens. cond (reading.sees kind tokens) (p tokens) (q tokens))
exact_sees kind is l m e = exact_if (reading.sees kind) (kind ∷ []) (tells_sees kind is) l m e

-- the same where the token is taken before the first rule goes on
pub exact_after : {A : Type 0} (kind : TokenKind) {F1 F2 C1 C2 : List TokenKind} {n2 : Bool} {L M : ℕ → Lang A} (p : Reader A) {q : Reader A} → plain kind ≡ true
    → Exact F1 false C1 L (λ tokens. and_then (reading.expect kind tokens) (λ _. p)) → Exact F2 n2 C2 M q → decides (kind ∷ []) F1 F2 ≡ true
    → Exact (F1 ++ F2) n2 (C1 ++ sum_of n2 C2 (kind ∷ [])) (λ i tokens a. L i tokens a ⊎ M i tokens a) (λ tokens. cond (reading.sees kind tokens) (p (drop 1 tokens)) (q tokens))
exact_after kind p {q = q} is l m e = exact_reads (exact_sees kind is l m e) (eat_is kind p q)
