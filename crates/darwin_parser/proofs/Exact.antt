-- A reader that is exact for a language. What it reads is a spelling, and the only one there; where it refuses a token, no spelling goes on with
-- it, and one goes on with the tokens before it. A language is given for each number of levels by which its limits of nesting are lifted:
-- a token is too nested where lifting them by one lets a spelling go on. Exact readers make exact readers, in sequence and by choice.
use Rattle.std.proofs.Common.{◌≡◌, ℕ, suc, Bool, true, false, ◌&&◌, cond, List, [], ◌∷◌, ◌++◌, length, Ok, Err, refl, ap, sym, subst, ◌∙◌, append_assoc, inl, inr, ◌⊎◌}
use Rattle.std.proofs.lemmas.List.{append_cancel_left}
use Rattle.darwin_lexer.specs.declared.token.Token.{Token}
use Rattle.darwin_lexer.specs.declared.token.TokenKind.{TokenKind}
use Rattle.darwin_parser.specs.declared.cursor.Stop.TheVariants.{Expected, TooNested, NoMemory}
use Rattle.darwin_parser.specs.Language as lang
use Rattle.darwin_parser.specs.Language.{Lang, Joined}
use Rattle.darwin_parser.specs.Reading.{Reader, Outcome, and_then, expect}
use Rattle.darwin_parser.proofs.KindSets.{apart, apart_is, apart_not, class_of, implied, implies, member, member_right, self_implied, sum_first, sum_of, sum_second, within, within_is, within_left, within_not, within_right, within_self_at}
use Rattle.std.proofs.lemmas.Bool.{and_parts, false≢true}
use Rattle.base.proofs.BoolLaws.{no_is_yes, ⊎-swap}

-- a list is empty only where that is allowed, and else begins with one of these kinds
abbrev pub StartsOr : List TokenKind → Bool → List Token → Type 0
StartsOr F n [] = n ≡ true
StartsOr F n (t ∷ ts) = member (class_of t.kind) F ≡ true

-- none of these kinds comes next
abbrev pub Stops : List TokenKind → List Token → Type 0
Stops C [] = Unit {0}
Stops C (t ∷ ts) = member (class_of t.kind) C ≡ false

-- both are empty, or both begin with the same token
abbrev pub SameHead : List Token → List Token → Type 0
SameHead [] [] = Unit {0}
SameHead [] (t ∷ ts) = ⊥
SameHead (t ∷ ts) [] = ⊥
SameHead (t ∷ ts) (u ∷ us) = t ≡ u

-- some spelling begins so
pub record Begun {A : Type 0} (L : Lang A) (front : List Token) : Type 0 where
  pub others : List Token
  pub value : A
  pub spelled : L (front ++ others) value

pub record Took {A : Type 0} (C : List TokenKind) (L : ℕ → Lang A) (tokens : List Token) (a : A) (rest : List Token) : Type 0 where
  pub front : List Token
  pub whole : tokens ≡ front ++ rest
  pub spelled : L 0 front a
  pub only : (i : ℕ) (u v x : List Token) (b : A) → L i u b → Stops C v → u ++ v ≡ front ++ x → SameHead x rest → (u ≡ front) × (b ≡ a)

pub record Refused {A : Type 0} (C : List TokenKind) (L : ℕ → Lang A) (tokens : List Token) (n : ℕ) : Type 0 where
  pub front : List Token
  pub rest : List Token
  pub whole : tokens ≡ front ++ rest
  pub left : length rest ≡ n
  pub dead : (i : ℕ) (u v x : List Token) (b : A) → L i u b → Stops C v → u ++ v ≡ front ++ x → SameHead x rest → ⊥
  pub begun : Begun (L 0) front

pub record Nests {A : Type 0} (C : List TokenKind) (L : ℕ → Lang A) (tokens : List Token) (n : ℕ) : Type 0 where
  pub front : List Token
  pub opener : Token
  pub rest : List Token
  pub whole : tokens ≡ front ++ opener ∷ rest
  pub left : suc (length rest) ≡ n
  pub dead : (u v x : List Token) (b : A) → L 0 u b → Stops C v → u ++ v ≡ front ++ opener ∷ x → ⊥
  pub begun : Begun (L 0) front
  pub deeper : Begun (L 1) (front ++ opener ∷ [])

abbrev pub Answer : {A : Type 0} → List TokenKind → (ℕ → Lang A) → List Token → Outcome A → Type 0
Answer C L tokens (Ok p) = Took C L tokens p.0 p.1
Answer C L tokens (Err (Expected n)) = Refused C L tokens n
Answer C L tokens (Err (TooNested n)) = Nests C L tokens n
Answer C L tokens (Err NoMemory) = ⊥

-- where spellings start, and that there are some
pub record Shape {A : Type 0} (F : List TokenKind) (n : Bool) (L : ℕ → Lang A) : Type 0 where
  pub starts : (i : ℕ) (w : List Token) (a : A) → L i w a → StartsOr F n w
  pub inhabited : (i : ℕ) → Begun (L i) []
  pub grows : (w : List Token) (a : A) → L 0 w a → L 1 w a

pub record Exact {A : Type 0} (F : List TokenKind) (n : Bool) (C : List TokenKind) (L : ℕ → Lang A) (p : Reader A) : Type 0 where
  pub shape : Shape F n L
  pub answers : (tokens : List Token) → Answer C L tokens (p tokens)

pub same_head_append : (front x y : List Token) → SameHead x y → SameHead (front ++ x) (front ++ y)
same_head_append [] x y h = h
same_head_append (t ∷ front) x y h = refl

pub stops_join : (F C1 C2 : List TokenKind) (n : Bool) (w v : List Token) → apart C1 F ≡ true → (n ≡ true → within C1 C2 ≡ true) → StartsOr F n w → Stops C2 v → Stops C1 (w ++ v)
stops_join F C1 C2 n [] [] e f s stops = tt
stops_join F C1 C2 n [] (t ∷ v) e f s stops = within_not C1 C2 (class_of t.kind) (f s) stops
stops_join F C1 C2 n (t ∷ w) v e f s stops = apart_not C1 F (class_of t.kind) e s

pub assoc : (a b c : List Token) → (a ++ b) ++ c ≡ a ++ (b ++ c)
assoc a b c = append_assoc a b c

module _ {A B : Type 0} (F C1 C2 : List TokenKind) (n : Bool) (L : ℕ → Lang A) (M : ℕ → A → Lang B)
    (grows : (w : List Token) (a : A) → L 0 w a → L 1 w a) (shape : (a : A) → Shape F n (λ i. M i a)) (e : apart C1 F ≡ true) (f : n ≡ true → within C1 C2 ≡ true) where
  pub joined_first : (i : ℕ) (u v front x : List Token) (b : B) (j : Joined (L i) (M i) u b) → Stops C2 v → u ++ v ≡ front ++ x
      → Stops C1 (j.rest ++ v) × (j.front ++ (j.rest ++ v) ≡ front ++ x)
  joined_first i u v front x b j stops same =
      (stops_join F C1 C2 n j.rest v e f ((shape j.value).starts i j.rest b j.goes_on) stops, sym (assoc j.front j.rest v) ∙ (ap (λ w. w ++ v) (sym j.whole) ∙ same))

  pub refused_first : (tokens : List Token) (m : ℕ) → Refused C1 L tokens m → Refused C2 (λ i tokens b. Joined (L i) (M i) tokens b) tokens m
  refused_first tokens m r =
      let others = (shape r.begun.value).inhabited 0 in
      record {
        front = r.front;
        rest = r.rest;
        whole = r.whole;
        left = r.left;
        dead = λ i u v x b j stops same head.
            let p = joined_first i u v r.front x b j stops same in r.dead i j.front (j.rest ++ v) x j.value j.begins p.0 p.1 head;
        begun = record {
          others = r.begun.others ++ others.others;
          value = others.value;
          spelled = record { front = r.front ++ r.begun.others; rest = others.others; value = r.begun.value; whole = sym (assoc r.front r.begun.others others.others); begins = r.begun.spelled; goes_on = others.spelled };
        };
      }

  pub nests_first : (tokens : List Token) (m : ℕ) → Nests C1 L tokens m → Nests C2 (λ i tokens b. Joined (L i) (M i) tokens b) tokens m
  nests_first tokens m r =
      let others = (shape r.begun.value).inhabited 0 in
      let others1 = (shape r.deeper.value).inhabited 1 in
      record {
        front = r.front;
        opener = r.opener;
        rest = r.rest;
        whole = r.whole;
        left = r.left;
        dead = λ u v x b j stops same.
            let p = joined_first 0 u v r.front (r.opener ∷ x) b j stops same in r.dead j.front (j.rest ++ v) x j.value j.begins p.0 p.1;
        begun = record {
          others = r.begun.others ++ others.others;
          value = others.value;
          spelled = record { front = r.front ++ r.begun.others; rest = others.others; value = r.begun.value; whole = sym (assoc r.front r.begun.others others.others); begins = r.begun.spelled; goes_on = others.spelled };
        };
        deeper = record {
          others = r.deeper.others ++ others1.others;
          value = others1.value;
          spelled = record { front = (r.front ++ r.opener ∷ []) ++ r.deeper.others; rest = others1.others; value = r.deeper.value; whole = sym (assoc (r.front ++ r.opener ∷ []) r.deeper.others others1.others); begins = r.deeper.spelled; goes_on = others1.spelled };
        };
      }

  pub took_first : (tokens rest : List Token) (a : A) (o : Outcome B) → Took C1 L tokens a rest → Answer C2 (λ i. M i a) rest o → Answer C2 (λ i tokens b. Joined (L i) (M i) tokens b) tokens o
  took_first tokens rest a (Ok p) t m = record {
    front = t.front ++ m.front;
    whole = t.whole ∙ (ap (λ w. t.front ++ w) m.whole ∙ sym (assoc t.front m.front p.1));
    spelled = record { front = t.front; rest = m.front; value = a; whole = refl; begins = t.spelled; goes_on = m.spelled };
    only = λ i u v x b j stops same head.
        let p1 = joined_first i u v (t.front ++ m.front) x b j stops same in
        let head' : SameHead (m.front ++ x) rest = subst (λ w. SameHead (m.front ++ x) w) (sym m.whole) (same_head_append m.front x p.1 head) in
        let one = t.only i j.front (j.rest ++ v) (m.front ++ x) j.value j.begins p1.0 (p1.1 ∙ assoc t.front m.front x) head' in
        let tail : j.rest ++ v ≡ m.front ++ x = append_cancel_left t.front (j.rest ++ v) (m.front ++ x) (ap (λ w. w ++ (j.rest ++ v)) (sym one.0) ∙ (p1.1 ∙ assoc t.front m.front x)) in
        let two = m.only i j.rest v x b (subst (λ c. M i c j.rest b) one.1 j.goes_on) stops tail head in
        (j.whole ∙ (ap (λ w. w ++ j.rest) one.0 ∙ ap (λ w. t.front ++ w) two.0), two.1);
  }
  took_first tokens rest a (Err (Expected k)) t m = record {
    front = t.front ++ m.front;
    rest = m.rest;
    whole = t.whole ∙ (ap (λ w. t.front ++ w) m.whole ∙ sym (assoc t.front m.front m.rest));
    left = m.left;
    dead = λ i u v x b j stops same head.
        let p1 = joined_first i u v (t.front ++ m.front) x b j stops same in
        let head' : SameHead (m.front ++ x) rest = subst (λ w. SameHead (m.front ++ x) w) (sym m.whole) (same_head_append m.front x m.rest head) in
        let one = t.only i j.front (j.rest ++ v) (m.front ++ x) j.value j.begins p1.0 (p1.1 ∙ assoc t.front m.front x) head' in
        let tail : j.rest ++ v ≡ m.front ++ x = append_cancel_left t.front (j.rest ++ v) (m.front ++ x) (ap (λ w. w ++ (j.rest ++ v)) (sym one.0) ∙ (p1.1 ∙ assoc t.front m.front x)) in
        m.dead i j.rest v x b (subst (λ c. M i c j.rest b) one.1 j.goes_on) stops tail head;
    begun = record {
      others = m.begun.others;
      value = m.begun.value;
      spelled = record { front = t.front; rest = m.front ++ m.begun.others; value = a; whole = assoc t.front m.front m.begun.others; begins = t.spelled; goes_on = m.begun.spelled };
    };
  }
  took_first tokens rest a (Err (TooNested k)) t m = record {
    front = t.front ++ m.front;
    opener = m.opener;
    rest = m.rest;
    whole = t.whole ∙ (ap (λ w. t.front ++ w) m.whole ∙ sym (assoc t.front m.front (m.opener ∷ m.rest)));
    left = m.left;
    dead = λ u v x b j stops same.
        let p1 = joined_first 0 u v (t.front ++ m.front) (m.opener ∷ x) b j stops same in
        let head' : SameHead (m.front ++ m.opener ∷ x) rest = subst (λ w. SameHead (m.front ++ m.opener ∷ x) w) (sym m.whole) (same_head_append m.front (m.opener ∷ x) (m.opener ∷ m.rest) refl) in
        let one = t.only 0 j.front (j.rest ++ v) (m.front ++ m.opener ∷ x) j.value j.begins p1.0 (p1.1 ∙ assoc t.front m.front (m.opener ∷ x)) head' in
        let tail : j.rest ++ v ≡ m.front ++ m.opener ∷ x = append_cancel_left t.front (j.rest ++ v) (m.front ++ m.opener ∷ x) (ap (λ w. w ++ (j.rest ++ v)) (sym one.0) ∙ (p1.1 ∙ assoc t.front m.front (m.opener ∷ x))) in
        m.dead j.rest v x b (subst (λ c. M 0 c j.rest b) one.1 j.goes_on) stops tail;
    begun = record {
      others = m.begun.others;
      value = m.begun.value;
      spelled = record { front = t.front; rest = m.front ++ m.begun.others; value = a; whole = assoc t.front m.front m.begun.others; begins = t.spelled; goes_on = m.begun.spelled };
    };
    deeper = record {
      others = m.deeper.others;
      value = m.deeper.value;
      spelled = record {
        front = t.front;
        rest = (m.front ++ m.opener ∷ []) ++ m.deeper.others;
        value = a;
        whole = ap (λ w. w ++ m.deeper.others) (assoc t.front m.front (m.opener ∷ [])) ∙ assoc t.front (m.front ++ m.opener ∷ []) m.deeper.others;
        begins = grows t.front a t.spelled;
        goes_on = m.deeper.spelled;
      };
    };
  }
  took_first tokens rest a (Err NoMemory) t m = m

  pub answer_then : (tokens : List Token) (o : Outcome A) (k : A → Reader B) → Answer C1 L tokens o → ((a : A) (rest : List Token) → o ≡ Ok (a, rest) → Answer C2 (λ i. M i a) rest (k a rest))
      → Answer C2 (λ i tokens b. Joined (L i) (M i) tokens b) tokens (and_then o k)
  answer_then tokens (Ok p) k first second = took_first tokens p.1 p.0 (k p.0 p.1) first (second p.0 p.1 refl)
  answer_then tokens (Err (Expected m)) k first second = refused_first tokens m first
  answer_then tokens (Err (TooNested m)) k first second = nests_first tokens m first
  answer_then tokens (Err NoMemory) k first second = first

pub stops_within : (C C' : List TokenKind) (v : List Token) → within C C' ≡ true → Stops C' v → Stops C v
stops_within C C' [] e s = tt
stops_within C C' (t ∷ v) e s = within_not C C' (class_of t.kind) e s

pub starts_within : (F F' : List TokenKind) (n n' : Bool) (w : List Token) → within F F' ≡ true → (n ≡ true → n' ≡ true) → StartsOr F n w → StartsOr F' n' w
starts_within F F' n n' [] e f s = f s
starts_within F F' n n' (t ∷ w) e f s = within_is F F' (class_of t.kind) e s

pub weaken : {A : Type 0} (C C' : List TokenKind) (L : ℕ → Lang A) (tokens : List Token) (o : Outcome A) → within C C' ≡ true → Answer C L tokens o → Answer C' L tokens o
weaken C C' L tokens (Ok p) e t = record { front = t.front; whole = t.whole; spelled = t.spelled; only = λ i u v x b l stops. t.only i u v x b l (stops_within C C' v e stops) }
weaken C C' L tokens (Err (Expected n)) e r = record { front = r.front; rest = r.rest; whole = r.whole; left = r.left; dead = λ i u v x b l stops. r.dead i u v x b l (stops_within C C' v e stops); begun = r.begun }
weaken C C' L tokens (Err (TooNested n)) e r =
    record { front = r.front; opener = r.opener; rest = r.rest; whole = r.whole; left = r.left; dead = λ u v x b l stops. r.dead u v x b l (stops_within C C' v e stops); begun = r.begun; deeper = r.deeper }
weaken C C' L tokens (Err NoMemory) e r = r

pub starts_joined : (F1 F2 F : List TokenKind) (n1 n2 n : Bool) (a b : List Token) → within F1 F ≡ true → (n1 ≡ true → within F2 F ≡ true) → (n1 ≡ true → n2 ≡ true → n ≡ true)
    → StartsOr F1 n1 a → StartsOr F2 n2 b → StartsOr F n (a ++ b)
starts_joined F1 F2 F n1 n2 n [] [] e f g s t = g s t
starts_joined F1 F2 F n1 n2 n [] (x ∷ b) e f g s t = within_is F2 F (class_of x.kind) (f s) t
starts_joined F1 F2 F n1 n2 n (x ∷ a) b e f g s t = within_is F1 F (class_of x.kind) e s

pub both_are : (a b n : Bool) → implies (a && b) n ≡ true → a ≡ true → b ≡ true → n ≡ true
both_are true true n e h k = e
both_are true false n e h k = absurd cc
both_are false b n e h k = absurd cc

module _ {A B : Type 0} {F1 F2 F : List TokenKind} {n1 n2 n : Bool} {L : ℕ → Lang A} {M : ℕ → A → Lang B} where
  pub shape_then : Shape F1 n1 L → ((a : A) → Shape F2 n2 (λ i. M i a)) → within F1 F ≡ true → implies n1 (within F2 F) ≡ true → implies (n1 && n2) n ≡ true
      → Shape F n (λ i tokens b. Joined (L i) (M i) tokens b)
  shape_then s t e f g = record {
    starts = λ i w b j. subst (StartsOr F n) (sym j.whole)
        (starts_joined F1 F2 F n1 n2 n j.front j.rest e (implied n1 (within F2 F) f) (both_are n1 n2 n g) (s.starts i j.front j.value j.begins) ((t j.value).starts i j.rest b j.goes_on));
    inhabited = λ i.
        let l = s.inhabited i in
        let m = (t l.value).inhabited i in
        record { others = l.others ++ m.others; value = m.value; spelled = record { front = l.others; rest = m.others; value = l.value; whole = refl; begins = l.spelled; goes_on = m.spelled } };
    grows = λ w b j. record { front = j.front; rest = j.rest; value = j.value; whole = j.whole; begins = s.grows j.front j.value j.begins; goes_on = (t j.value).grows j.rest b j.goes_on };
  }

module _ {A : Type 0} (L L' : ℕ → Lang A) (to : (i : ℕ) (w : List Token) (a : A) → L i w a → L' i w a) (from : (i : ℕ) (w : List Token) (a : A) → L' i w a → L i w a) where
  pub begun_same : (i : ℕ) (front : List Token) → Begun (L i) front → Begun (L' i) front
  begun_same i front b = record { others = b.others; value = b.value; spelled = to i (front ++ b.others) b.value b.spelled }

  pub answer_same : (C : List TokenKind) (tokens : List Token) (o : Outcome A) → Answer C L tokens o → Answer C L' tokens o
  answer_same C tokens (Ok p) t = record { front = t.front; whole = t.whole; spelled = to 0 t.front p.0 t.spelled; only = λ i u v x b l. t.only i u v x b (from i u b l) }
  answer_same C tokens (Err (Expected n)) r =
      record { front = r.front; rest = r.rest; whole = r.whole; left = r.left; dead = λ i u v x b l. r.dead i u v x b (from i u b l); begun = begun_same 0 r.front r.begun }
  answer_same C tokens (Err (TooNested n)) r = record {
    front = r.front;
    opener = r.opener;
    rest = r.rest;
    whole = r.whole;
    left = r.left;
    dead = λ u v x b l. r.dead u v x b (from 0 u b l);
    begun = begun_same 0 r.front r.begun;
    deeper = begun_same 1 (r.front ++ r.opener ∷ []) r.deeper;
  }
  answer_same C tokens (Err NoMemory) r = r

  pub shape_same : {F : List TokenKind} {n : Bool} → Shape F n L → Shape F n L'
  shape_same s = record { starts = λ i w a l. s.starts i w a (from i w a l); inhabited = λ i. begun_same i [] (s.inhabited i); grows = λ w a l. to 1 w a (s.grows w a (from 0 w a l)) }

pub exact_same : {A : Type 0} {F C : List TokenKind} {n : Bool} {L L' : ℕ → Lang A} {p : Reader A} → Exact F n C L p → ((i : ℕ) (w : List Token) (a : A) → L i w a → L' i w a)
    → ((i : ℕ) (w : List Token) (a : A) → L' i w a → L i w a) → Exact F n C L' p
exact_same {C = C} {L = L} {L' = L'} {p = p} e to from =
    record { shape = shape_same L L' to from e.shape; answers = λ tokens. answer_same L L' to from C tokens (p tokens) (e.answers tokens) }

pub exact_reads : {A : Type 0} {F C : List TokenKind} {n : Bool} {L : ℕ → Lang A} {p q : Reader A} → Exact F n C L p → ((tokens : List Token) → p tokens ≡ q tokens) → Exact F n C L q
exact_reads {C = C} {L = L} e is = record { shape = e.shape; answers = λ tokens. subst (λ o. Answer C L tokens o) (is tokens) (e.answers tokens) }

-- a rule and a token of this kind after it, read as one
module _ {A B : Type 0} (kind : TokenKind) (p : Reader A) where
  token_first : (o : Outcome Token) (a : A) (f : A → Reader B) → and_then o (λ _ rest. f a rest) ≡ and_then (and_then o (λ _ rest. Ok (a, rest))) f
  token_first (Ok q) a f = refl
  token_first (Err e) a f = refl

  rule_first : (o : Outcome A) (f : A → Reader B)
      → and_then o (λ a rest. and_then (expect kind rest) (λ _ more. f a more)) ≡ and_then (and_then o (λ a rest. and_then (expect kind rest) (λ _ more. Ok (a, more)))) f
  rule_first (Ok q) f = token_first (expect kind q.1) q.0 f
  rule_first (Err e) f = refl

  pub exact_before : {F C : List TokenKind} {n : Bool} {L : ℕ → Lang B} (f : A → Reader B) → Exact F n C L (λ tokens. and_then (p tokens) (λ a rest. and_then (expect kind rest) (λ _ more. f a more)))
      → Exact F n C L (λ tokens. and_then (and_then (p tokens) (λ a rest. and_then (expect kind rest) (λ _ more. Ok (a, more)))) f)
  exact_before f x = exact_reads x (λ tokens. rule_first (p tokens) f)

module _ {A : Type 0} (L M : ℕ → Lang A) where
  pub begun_left : (i : ℕ) (front : List Token) → Begun (L i) front → Begun (λ tokens a. L i tokens a ⊎ M i tokens a) front
  begun_left i front b = record { others = b.others; value = b.value; spelled = inl b.spelled }

  -- where only the first can stand
  pub left_answer : (C1 C : List TokenKind) (tokens : List Token) (o : Outcome A) → within C1 C ≡ true → ((i : ℕ) (u v : List Token) (b : A) → M i u b → Stops C v → SameHead (u ++ v) tokens → ⊥)
      → Answer C1 L tokens o → Answer C (λ i tokens a. L i tokens a ⊎ M i tokens a) tokens o
  left_answer C1 C tokens (Ok p) e dead t = record {
    front = t.front;
    whole = t.whole;
    spelled = inl t.spelled;
    only = λ i u v x b l stops same head. elim l [
      | inl m ↦ t.only i u v x b m (stops_within C1 C v e stops) same head
      | inr m ↦ absurd (dead i u v b m stops (subst (λ w. SameHead w tokens) (sym same) (subst (λ w. SameHead (t.front ++ x) w) (sym t.whole) (same_head_append t.front x p.1 head))))
    ];
  }
  left_answer C1 C tokens (Err (Expected n)) e dead r = record {
    front = r.front;
    rest = r.rest;
    whole = r.whole;
    left = r.left;
    dead = λ i u v x b l stops same head. elim l [
      | inl m ↦ r.dead i u v x b m (stops_within C1 C v e stops) same head
      | inr m ↦ dead i u v b m stops (subst (λ w. SameHead w tokens) (sym same) (subst (λ w. SameHead (r.front ++ x) w) (sym r.whole) (same_head_append r.front x r.rest head)))
    ];
    begun = begun_left 0 r.front r.begun;
  }
  left_answer C1 C tokens (Err (TooNested n)) e dead r = record {
    front = r.front;
    opener = r.opener;
    rest = r.rest;
    whole = r.whole;
    left = r.left;
    dead = λ u v x b l stops same. elim l [
      | inl m ↦ r.dead u v x b m (stops_within C1 C v e stops) same
      | inr m ↦ dead 0 u v b m stops (subst (λ w. SameHead w tokens) (sym same) (subst (λ w. SameHead (r.front ++ r.opener ∷ x) w) (sym r.whole) (same_head_append r.front (r.opener ∷ x) (r.opener ∷ r.rest) refl)))
    ];
    begun = begun_left 0 r.front r.begun;
    deeper = begun_left 1 (r.front ++ r.opener ∷ []) r.deeper;
  }
  left_answer C1 C tokens (Err NoMemory) e dead r = r

pub right_answer : {A : Type 0} (L M : ℕ → Lang A) (C2 C : List TokenKind) (tokens : List Token) (o : Outcome A) → within C2 C ≡ true
    → ((i : ℕ) (u v : List Token) (b : A) → L i u b → Stops C v → SameHead (u ++ v) tokens → ⊥) → Answer C2 M tokens o → Answer C (λ i tokens a. L i tokens a ⊎ M i tokens a) tokens o
right_answer L M C2 C tokens o e dead m =
    answer_same (λ i tokens a. M i tokens a ⊎ L i tokens a) (λ i tokens a. L i tokens a ⊎ M i tokens a) (λ i w a. ⊎-swap) (λ i w a. ⊎-swap) C tokens o (left_answer M L C2 C tokens o e dead m)

-- what begins otherwise can't stand where one of these kinds comes next
pub dead_on : (F S C : List TokenKind) (n : Bool) (u v tokens : List Token) → apart F S ≡ true → (n ≡ true → within S C ≡ true) → StartsOr S false tokens → StartsOr F n u → Stops C v → SameHead (u ++ v) tokens → ⊥
dead_on F S C n u v [] e f s t stops head = absurd cc
dead_on F S C n [] [] (y ∷ tokens) e f s t stops head = head
dead_on F S C n [] (x ∷ v) (y ∷ tokens) e f s t stops head =
    let k = within_is S C (class_of y.kind) (f t) s in let h = ap (λ z. member (class_of z.kind) C) head in absurd cc
dead_on F S C n (x ∷ u) v (y ∷ tokens) e f s t stops head =
    let k = apart_is F S (class_of x.kind) e t in let h = ap (λ z. member (class_of z.kind) S) head in absurd cc

-- what begins with one of these kinds can't stand where none comes next
pub dead_off : (F S : List TokenKind) (u v tokens : List Token) → within F S ≡ true → Stops S tokens → StartsOr F false u → SameHead (u ++ v) tokens → ⊥
dead_off F S [] v tokens e s t head = absurd cc
dead_off F S (x ∷ u) v [] e s t head = head
dead_off F S (x ∷ u) v (y ∷ tokens) e s t head =
    let k = within_is F S (class_of x.kind) e t in let h = ap (λ z. member (class_of z.kind) S) head in absurd cc

-- A test tells whether one of these kinds comes next.
pub record Tells (test : List Token → Bool) (S : List TokenKind) : Type 0 where
  pub on : (tokens : List Token) → test tokens ≡ true → StartsOr S false tokens
  pub off : (tokens : List Token) → test tokens ≡ false → Stops S tokens

pub record Choice (S F1 C1 F2 : List TokenKind) (n2 : Bool) (C2 F : List TokenKind) (n : Bool) (C : List TokenKind) : Type 0 where
  pub within_test : within F1 S ≡ true
  pub starts1 : within F1 F ≡ true
  pub goes_on1 : within C1 C ≡ true
  pub apart_test : apart F2 S ≡ true
  pub nothing : n2 ≡ true → within S C ≡ true
  pub starts2 : within F2 F ≡ true
  pub empty : n2 ≡ true → n ≡ true
  pub goes_on2 : within C2 C ≡ true

module _ {A : Type 0} {F1 F2 F : List TokenKind} {n2 n : Bool} {L M : ℕ → Lang A} where
  pub shape_or : Shape F1 false L → Shape F2 n2 M → within F1 F ≡ true → within F2 F ≡ true → (n2 ≡ true → n ≡ true) → Shape F n (λ i tokens a. L i tokens a ⊎ M i tokens a)
  shape_or s t e f g = record {
    starts = λ i w a l. elim l [ inl x ↦ starts_within F1 F false n w e (no_is_yes n) (s.starts i w a x) | inr x ↦ starts_within F2 F n2 n w f g (t.starts i w a x) ];
    inhabited = λ i. let b = t.inhabited i in record { others = b.others; value = b.value; spelled = inr b.spelled };
    grows = λ w a l. elim l as (λ _. L 1 w a ⊎ M 1 w a) [ inl x ↦ inl (s.grows w a x) | inr x ↦ inr (t.grows w a x) ];
  }

module _ {A : Type 0} (test : List Token → Bool) (S : List TokenKind) {F1 F2 C1 C2 F C : List TokenKind} {n2 n : Bool} {L M : ℕ → Lang A} {p q : Reader A} where
  pub choose_at : Tells test S → Exact F1 false C1 L p → Exact F2 n2 C2 M q → Choice S F1 C1 F2 n2 C2 F n C → (tokens : List Token) (b : Bool) → test tokens ≡ b
      → Answer C (λ i tokens a. L i tokens a ⊎ M i tokens a) tokens (cond b (p tokens) (q tokens))
  choose_at tells l m h tokens true is = left_answer L M C1 C tokens (p tokens) h.goes_on1
      (λ i u v b x stops head. dead_on F2 S C n2 u v tokens h.apart_test h.nothing (tells.on tokens is) (m.shape.starts i u b x) stops head) (l.answers tokens)
  choose_at tells l m h tokens false is = right_answer L M C2 C tokens (q tokens) h.goes_on2
      (λ i u v b x stops head. dead_off F1 S u v tokens h.within_test (tells.off tokens is) (l.shape.starts i u b x) head) (m.answers tokens)

pub exact_give : {A : Type 0} {F C : List TokenKind} (a : A) → Exact F true C (λ i. lang.give a) (λ tokens. Ok (a, tokens))
exact_give {F = F} a = record {
  shape = record { starts = λ i w b l. subst (StartsOr F true) (sym l.0) refl; inhabited = λ i. record { others = []; value = a; spelled = (refl, refl) }; grows = λ w b l. l };
  answers = λ tokens. record { front = []; whole = refl; spelled = (refl, refl); only = λ i u v x b l stops same head. l };
}

module _ {A : Type 0} (test : List Token → Bool) (S F1 : List TokenKind) {F2 C2 F C : List TokenKind} {n2 n : Bool} {M N : ℕ → Lang A} {q : Reader A} where
  pub nest_at : (empty : (w : List Token) (a : A) → N 0 w a → ⊥) (starts : (i : ℕ) (w : List Token) (a : A) → N i w a → StartsOr F1 false w)
      (opens : (t : Token) → member (class_of t.kind) S ≡ true → Begun (N 1) (t ∷ [])) → Tells test S → Exact F2 n2 C2 M q → Choice S F1 [] F2 n2 C2 F n C
      → (tokens : List Token) (b : Bool) → test tokens ≡ b → Answer C (λ i tokens a. M i tokens a ⊎ N i tokens a) tokens (cond b (Err (TooNested (length tokens))) (q tokens))
  nest_at empty starts opens tells m h [] true is = absurd (false≢true (tells.on [] is))
  nest_at empty starts opens tells m h (t ∷ ts) true is = record {
    front = [];
    opener = t;
    rest = ts;
    whole = refl;
    left = refl;
    dead = λ u v x b l stops same. elim l [
      | inl k ↦ dead_on F2 S C n2 u v (t ∷ ts) h.apart_test h.nothing (tells.on (t ∷ ts) is) (m.shape.starts 0 u b k) stops (subst (λ w. SameHead w (t ∷ ts)) (sym same) refl)
      | inr k ↦ empty u b k
    ];
    begun = let b = m.shape.inhabited 0 in record { others = b.others; value = b.value; spelled = inl b.spelled };
    deeper = let b = opens t (tells.on (t ∷ ts) is) in record { others = b.others; value = b.value; spelled = inr b.spelled };
  }
  nest_at empty starts opens tells m h tokens false is = left_answer M N C2 C tokens (q tokens) h.goes_on2
      (λ i u v b x stops head. dead_off F1 S u v tokens h.within_test (tells.off tokens is) (starts i u b x) head) (m.answers tokens)

pub exact_seq : {A B : Type 0} {F1 F2 C1 C2 : List TokenKind} {n1 n2 : Bool} {L : ℕ → Lang A} {M : ℕ → A → Lang B} {p : Reader A} {k : A → Reader B} → Exact F1 n1 C1 L p
    → ((a : A) → Exact F2 n2 C2 (λ i. M i a) (k a)) → apart C1 F2 ≡ true
    → Exact (sum_of n1 F1 F2) (n1 && n2) (sum_of n2 C2 C1) (λ i tokens b. Joined (L i) (M i) tokens b) (λ tokens. and_then (p tokens) k)
exact_seq {F1 = F1} {F2 = F2} {C1 = C1} {C2 = C2} {n1 = n1} {n2 = n2} {L = L} {M = M} {p = p} {k = k} l m e =
    let C : List TokenKind = sum_of n2 C2 C1 in
    record {
      shape = shape_then l.shape (λ a. (m a).shape) (sum_first n1 F1 F2) (sum_second n1 F1 F2) (self_implied (n1 && n2));
      answers = λ tokens. answer_then F2 C1 C n2 L M l.shape.grows (λ a. (m a).shape) e (implied n2 (within C1 C) (sum_second n2 C2 C1)) tokens (p tokens) k (l.answers tokens)
          (λ a rest is. weaken C2 C (λ i. M i a) rest (k a rest) (sum_first n2 C2 C1) ((m a).answers rest));
    }

pub exact_done : {A : Type 0} (a : A) → Exact [] true [] (λ i. lang.give a) (λ tokens. Ok (a, tokens))
exact_done a = exact_give a

abbrev pub fits_wide : List TokenKind → Bool → List TokenKind → List TokenKind → Bool → List TokenKind → Bool
fits_wide F n C F' n' C' = within F F' && (implies n n' && within C C')

pub exact_wide : {A : Type 0} {F C F' C' : List TokenKind} {n n' : Bool} {L : ℕ → Lang A} {p : Reader A} → Exact F n C L p → fits_wide F n C F' n' C' ≡ true → Exact F' n' C' L p
exact_wide {F = F} {C = C} {F' = F'} {C' = C'} {n = n} {n' = n'} {L = L} {p = p} l e =
    let a = and_parts (within F F') (implies n n' && within C C') e in
    let b = and_parts (implies n n') (within C C') a.1 in
    record {
      shape = record { starts = λ i w x s. starts_within F F' n n' w a.0 (implied n n' b.0) (l.shape.starts i w x s); inhabited = l.shape.inhabited; grows = l.shape.grows };
      answers = λ tokens. weaken C C' L tokens (p tokens) b.1 (l.answers tokens);
    }

-- a choice by what comes next: of the first rule, where the test holds, or of the second
abbrev pub decides : List TokenKind → List TokenKind → List TokenKind → Bool
decides S F1 F2 = within F1 S && apart F2 S

pub choice_is : (S F1 C1 F2 : List TokenKind) (n2 : Bool) (C2 : List TokenKind) → decides S F1 F2 ≡ true → Choice S F1 C1 F2 n2 C2 (F1 ++ F2) n2 (C1 ++ sum_of n2 C2 S)
choice_is S F1 C1 F2 n2 C2 e =
    let a = and_parts (within F1 S) (apart F2 S) e in
    record {
      within_test = a.0;
      starts1 = within_left F1 F2;
      goes_on1 = within_left C1 (sum_of n2 C2 S);
      apart_test = a.1;
      nothing = λ h. within_self_at S (C1 ++ sum_of n2 C2 S) (λ c m. member_right C1 (sum_of n2 C2 S) c (within_is S (sum_of n2 C2 S) c (implied n2 (within S (sum_of n2 C2 S)) (sum_second n2 C2 S) h) m));
      starts2 = within_right F1 F2;
      empty = λ h. h;
      goes_on2 = within_self_at C2 (C1 ++ sum_of n2 C2 S) (λ c m. member_right C1 (sum_of n2 C2 S) c (within_is C2 (sum_of n2 C2 S) c (sum_first n2 C2 S) m));
    }

pub exact_if : {A : Type 0} (test : List Token → Bool) (S : List TokenKind) {F1 F2 C1 C2 : List TokenKind} {n2 : Bool} {L M : ℕ → Lang A} {p q : Reader A} → Tells test S → Exact F1 false C1 L p → Exact F2 n2 C2 M q
    → decides S F1 F2 ≡ true → Exact (F1 ++ F2) n2 (C1 ++ sum_of n2 C2 S) (λ i tokens a. L i tokens a ⊎ M i tokens a) (λ tokens. cond (test tokens) (p tokens) (q tokens))
exact_if test S {F1 = F1} {F2 = F2} {C1 = C1} {C2 = C2} {n2 = n2} tells l m e =
    let h = choice_is S F1 C1 F2 n2 C2 e in
    record { shape = shape_or l.shape m.shape h.starts1 h.starts2 h.empty; answers = λ tokens. choose_at test S tells l m h tokens (test tokens) refl }

-- the first rule is refused where its test holds: its spellings nest too deep, but for where the limits are lifted
pub exact_nest : {A : Type 0} (test : List Token → Bool) (S F1 : List TokenKind) {F2 C2 : List TokenKind} {n2 : Bool} {M N : ℕ → Lang A} {q : Reader A} → ((w : List Token) (a : A) → N 0 w a → ⊥)
    → ((i : ℕ) (w : List Token) (a : A) → N i w a → StartsOr F1 false w) → ((t : Token) → member (class_of t.kind) S ≡ true → Begun (N 1) (t ∷ [])) → Tells test S → Exact F2 n2 C2 M q
    → decides S F1 F2 ≡ true → Exact (F1 ++ F2) n2 (sum_of n2 C2 S) (λ i tokens a. M i tokens a ⊎ N i tokens a) (λ tokens. cond (test tokens) (Err (TooNested (length tokens))) (q tokens))
exact_nest test S F1 {F2 = F2} {C2 = C2} {n2 = n2} {M = M} {N = N} empty starts opens tells m e =
    let h = choice_is S F1 [] F2 n2 C2 e in
    record {
      shape = record {
        starts = λ i w a l. elim l [ inl x ↦ starts_within F2 (F1 ++ F2) n2 n2 w h.starts2 h.empty (m.shape.starts i w a x) | inr x ↦ starts_within F1 (F1 ++ F2) false n2 w h.starts1 (no_is_yes n2) (starts i w a x) ];
        inhabited = λ i. let b = m.shape.inhabited i in record { others = b.others; value = b.value; spelled = inl b.spelled };
        grows = λ w a l. elim l as (λ _. M 1 w a ⊎ N 1 w a) [ inl x ↦ inl (m.shape.grows w a x) | inr x ↦ absurd (empty w a x) ];
      };
      answers = λ tokens. nest_at test S F1 empty starts opens tells m h tokens (test tokens) refl;
    }

-- the second stands first in the grammar
pub exact_other : {A : Type 0} {F C : List TokenKind} {n : Bool} {L M : ℕ → Lang A} {p : Reader A} → Exact F n C (λ i tokens a. L i tokens a ⊎ M i tokens a) p → Exact F n C (λ i tokens a. M i tokens a ⊎ L i tokens a) p
exact_other e = exact_same e (λ i w a. ⊎-swap) (λ i w a. ⊎-swap)

pub shared_split : {A B : Type 0} (L : Lang A) (M N : A → Lang B) (w : List Token) (b : B) (front rest : List Token) (a : A) → w ≡ front ++ rest → L front a → M a rest b ⊎ N a rest b → Joined L M w b ⊎ Joined L N w b
shared_split L M N w b front rest a e l (inl m) = inl (record { front = front; rest = rest; value = a; whole = e; begins = l; goes_on = m })
shared_split L M N w b front rest a e l (inr m) = inr (record { front = front; rest = rest; value = a; whole = e; begins = l; goes_on = m })

-- what stands before both of two
pub exact_shared : {A B : Type 0} {F C : List TokenKind} {n : Bool} {L : ℕ → Lang A} {M N : ℕ → A → Lang B} {p : Reader B} → Exact F n C (λ i tokens b. Joined (L i) (λ a tokens b. M i a tokens b ⊎ N i a tokens b) tokens b) p
    → Exact F n C (λ i tokens b. Joined (L i) (M i) tokens b ⊎ Joined (L i) (N i) tokens b) p
exact_shared {L = L} {M = M} {N = N} e = exact_same e (λ i w b j. shared_split (L i) (M i) (N i) w b j.front j.rest j.value j.whole j.begins j.goes_on)
    (λ i w b k. elim k [
      | inl j ↦ record { front = j.front; rest = j.rest; value = j.value; whole = j.whole; begins = j.begins; goes_on = inl j.goes_on }
      | inr j ↦ record { front = j.front; rest = j.rest; value = j.value; whole = j.whole; begins = j.begins; goes_on = inr j.goes_on }
    ])
