-- Loops are exact: any number of items, as long as a test holds or up to a token that closes the list.
use Rattle.std.proofs.Common.{◌≡◌, ℕ, zero, suc, ◌<◌, ◌≤◌, Bool, true, false, ◌||◌, ◌&&◌, cond, List, [], ◌∷◌, ◌++◌, length, Ok, refl, ap, sym, subst, ◌∙◌, arith, append_assoc, inl, inr, ◌⊎◌, fold}
use Rattle.std.specs.List.{flat_map}
use Rattle.std.proofs.lemmas.List.{append-nil, length-append}
use Rattle.darwin_lexer.specs.declared.token.Token.{Token}
use Rattle.darwin_lexer.specs.declared.token.TokenKind.{TokenKind}
use Rattle.darwin_parser.specs.Language as lang
use Rattle.darwin_parser.specs.Language.{Lang, Joined}
use Rattle.darwin_parser.specs.Reading as reading
use Rattle.darwin_parser.specs.Reading.{Reader, Outcome, and_then, same_kind}
use Rattle.darwin_parser.proofs.KindSets.{apart, member, same_self, within, within_left, within_right, within_self, within_self_at}
use Rattle.darwin_parser.proofs.Exact.{Answer, Exact, Shape, StartsOr, Stops, Tells, Took, answer_same, answer_then, assoc, dead_off, dead_on, exact_give, exact_same, left_answer, right_answer, shape_then, starts_joined, starts_within}
use Rattle.darwin_parser.proofs.OneToken.{eat_is, exact_plain, plain, tells_sees}
use Rattle.std.proofs.lemmas.Bool.{and_parts, false≢true, or_right}

-- what the items make of a start, step by step
pub record Gathered {S A : Type 0} (L : Lang A) (step : S → A → S) (s : S) (tokens : List Token) (end : S) : Type 0 where
  pub items : List A
  pub many : lang.many L tokens items
  pub is : end ≡ fold step s items

module _ {S A : Type 0} (L : Lang A) (step : S → A → S) where
  pub gathered_none : (s : S) (w : List Token) (r : S) → lang.give s w r → Gathered L step s w r
  gathered_none s w r l = record { items = []; many = l.0; is = l.1 }

  pub gathered_more : (s : S) (w : List Token) (r : S) → Joined L (λ a. Gathered L step (step s a)) w r → Gathered L step s w r
  gathered_more s w r j = record {
    items = j.value ∷ j.goes_on.items;
    many = record { front = j.front; rest = j.rest; value = j.value; whole = j.whole; begins = j.begins; goes_on = (refl, j.goes_on.many) };
    is = j.goes_on.is;
  }

  pub gathered_split : (s : S) (w : List Token) (r : S) (items : List A) → lang.many L w items → r ≡ fold step s items → Joined L (λ a. Gathered L step (step s a)) w r ⊎ lang.give s w r
  gathered_split s w r [] m is = inr (m, is)
  gathered_split s w r (a ∷ items) m is = inl (record {
    front = m.front;
    rest = m.rest;
    value = a;
    whole = m.whole;
    begins = subst (L m.front) m.goes_on.0 m.begins;
    goes_on = record { items = items; many = m.goes_on.1; is = is };
  })

pub many_starts : {A : Type 0} (F : List TokenKind) (L : Lang A) → ((w : List Token) (a : A) → L w a → StartsOr F false w) → (w : List Token) (items : List A) → lang.many L w items → StartsOr F true w
many_starts F L starts w [] m = subst (StartsOr F true) (sym m) refl
many_starts F L starts w (a ∷ items) m =
    subst (StartsOr F true) (sym m.whole) (starts_joined F F F false true true m.front m.rest (within_self F) (λ _. within_self F) (λ e _. absurd (false≢true e)) (starts m.front m.value m.begins) (many_starts F L starts m.rest items m.goes_on.1))

pub many_grows : {A : Type 0} (L M : Lang A) → ((w : List Token) (a : A) → L w a → M w a) → (w : List Token) (items : List A) → lang.many L w items → lang.many M w items
many_grows L M f w [] m = m
many_grows L M f w (a ∷ items) m =
    record { front = m.front; rest = m.rest; value = m.value; whole = m.whole; begins = f m.front m.value m.begins; goes_on = (m.goes_on.0, many_grows L M f m.rest items m.goes_on.1) }

pub shorter_after : (F : List TokenKind) (front rest tokens : List Token) → tokens ≡ front ++ rest → StartsOr F false front → length rest < length tokens
shorter_after F [] rest tokens e s = absurd (false≢true s)
shorter_after F (t ∷ front) rest tokens e s = omega (arith, ap length e, length-append front rest)

module _ {S A : Type 0} {F C1 : List TokenKind} {L : ℕ → Lang A} {p : Reader A} (step : S → A → S) (l : Exact F false C1 L p) where
  pub shape_gathered : (n : Bool) → (true ≡ true → n ≡ true) → (s : S) → Shape F n (λ i. Gathered (L i) step s)
  shape_gathered n e s = record {
    starts = λ i w r g. starts_within F F true n w (within_self F) e (many_starts F (L i) (λ w a. l.shape.starts i w a) w g.items g.many);
    inhabited = λ i. record { others = []; value = s; spelled = record { items = []; many = refl; is = refl } };
    grows = λ w r g. record { items = g.items; many = many_grows (L 0) (L 1) l.shape.grows w g.items g.many; is = g.is };
  }

  -- each turn takes a token
  pub shorter_rest : (tokens : List Token) (a : A) (rest : List Token) → p tokens ≡ Ok (a, rest) → length rest < length tokens
  shorter_rest tokens a rest e =
      let t : Took C1 L tokens a rest = subst (λ o. Answer C1 L tokens o) e (l.answers tokens) in
      shorter_after F t.front rest tokens t.whole (l.shape.starts 0 t.front a t.spelled)

pub record Turns (S F C1 C : List TokenKind) : Type 0 where
  pub starts : within F S ≡ true
  pub ends : apart C1 F ≡ true
  pub goes_on : within C1 C ≡ true
  pub stops : within S C ≡ true

pub give_starts : {A : Type 0} (a : A) (w : List Token) (b : A) → lang.give a w b → StartsOr [] true w
give_starts a w b l = subst (StartsOr [] true) (sym l.0) refl

module _ {S A : Type 0} {F C1 : List TokenKind} {L : ℕ → Lang A} {p : Reader A} (test : List Token → Bool) (K C : List TokenKind) (step : S → A → S) (l : Exact F false C1 L p)
    (tells : Tells test K) (h : Turns K F C1 C) where
  pub either_gathered : (s : S) (tokens : List Token) (o : Outcome S) → Answer C (λ i w r. Joined (L i) (λ a. Gathered (L i) step (step s a)) w r ⊎ lang.give s w r) tokens o
      → Answer C (λ i. Gathered (L i) step s) tokens o
  either_gathered s tokens o = answer_same (λ i w r. Joined (L i) (λ a. Gathered (L i) step (step s a)) w r ⊎ lang.give s w r) (λ i. Gathered (L i) step s)
      (λ i w r k. elim k [ inl j ↦ gathered_more (L i) step s w r j | inr g ↦ gathered_none (L i) step s w r g ])
      (λ i w r g. gathered_split (L i) step s w r g.items g.many g.is) C tokens o

  pub stop_turns : (s : S) (tokens : List Token) → Stops K tokens → Answer C (λ i. Gathered (L i) step s) tokens (Ok (s, tokens))
  stop_turns s tokens stops = either_gathered s tokens (Ok (s, tokens))
      (right_answer (λ i w r. Joined (L i) (λ a. Gathered (L i) step (step s a)) w r) (λ i. lang.give s) [] C tokens (Ok (s, tokens)) refl
      (λ i u v b j _ head. dead_off F K u v tokens h.starts stops
      ((shape_then {F = F} {n = false} {L = L} {M = λ i a. Gathered (L i) step (step s a)} l.shape (λ a. shape_gathered step l true (λ e. e) (step s a)) (within_self F) refl refl).starts i u b j) head)
      ((exact_give {F = []} {C = []} s).answers tokens))

  pub turn_answer : (s : S) (tokens : List Token) (k : A → Reader S) → StartsOr K false tokens
      → ((a : A) (rest : List Token) → p tokens ≡ Ok (a, rest) → Answer C (λ i. Gathered (L i) step (step s a)) rest (k a rest)) → Answer C (λ i. Gathered (L i) step s) tokens (and_then (p tokens) k)
  turn_answer s tokens k on next = either_gathered s tokens (and_then (p tokens) k)
      (left_answer (λ i w r. Joined (L i) (λ a. Gathered (L i) step (step s a)) w r) (λ i. lang.give s) C C tokens (and_then (p tokens) k) (within_self C)
      (λ i u v b g stops head. dead_on [] K C true u v tokens refl (λ _. h.stops) on (give_starts s u b g) stops head)
      (answer_then F C1 C true L (λ i a. Gathered (L i) step (step s a)) l.shape.grows (λ a. shape_gathered step l true (λ e. e) (step s a)) h.ends (λ _. h.goes_on) tokens (p tokens) k (l.answers tokens) next))

  pub turns_at : (n : ℕ) (s : S) (tokens : List Token) (b : Bool) → test tokens ≡ b
      → ((a : A) (rest : List Token) → p tokens ≡ Ok (a, rest) → Answer C (λ i. Gathered (L i) step (step s a)) rest (reading.turns test step p n (step s a) rest))
      → Answer C (λ i. Gathered (L i) step s) tokens (cond b (and_then (p tokens) (λ a. reading.turns test step p n (step s a))) (Ok (s, tokens)))
  turns_at n s tokens true is next = turn_answer s tokens (λ a. reading.turns test step p n (step s a)) (tells.on tokens is) next
  turns_at n s tokens false is next = stop_turns s tokens (tells.off tokens is)

  pub turns_answer : (n : ℕ) (s : S) (tokens : List Token) → length tokens ≤ n → Answer C (λ i. Gathered (L i) step s) tokens (reading.turns test step p n s tokens)
  unfolding reading.turns
  turns_answer zero s [] enough = stop_turns s [] tt
  turns_answer zero s (t ∷ ts) enough = absurd (omega arith)
  turns_answer (suc n) s tokens enough = turns_at n s tokens (test tokens) refl
      (λ a rest e. let fewer = shorter_rest step l tokens a rest e in turns_answer n (step s a) rest (omega arith))

abbrev pub Closed : {S A : Type 0} → TokenKind → Lang A → (S → A → S) → S → Lang S
Closed close L step s = λ w r. Joined (Gathered L step s) (λ r. λ w' r'. Joined (lang.token close) (λ _. lang.give r) w' r') w r

module _ {S A : Type 0} (close : TokenKind) (L : Lang A) (step : S → A → S) where
  pub closed_more : (s : S) (w : List Token) (r : S) → Joined L (λ a. Closed close L step (step s a)) w r → Closed close L step s w r
  closed_more s w r j = record {
    front = j.front ++ j.goes_on.front;
    rest = j.goes_on.rest;
    value = j.goes_on.value;
    whole = j.whole ∙ (ap (λ z. j.front ++ z) j.goes_on.whole ∙ sym (assoc j.front j.goes_on.front j.goes_on.rest));
    begins = gathered_more L step s (j.front ++ j.goes_on.front) j.goes_on.value (record { front = j.front; rest = j.goes_on.front; value = j.value; whole = refl; begins = j.begins; goes_on = j.goes_on.begins });
    goes_on = j.goes_on.goes_on;
  }

  pub closed_none : (s : S) (w : List Token) (r : S) → Joined (lang.token close) (λ _. lang.give s) w r → Closed close L step s w r
  closed_none s w r j = record { front = []; rest = w; value = s; whole = refl; begins = record { items = []; many = refl; is = refl }; goes_on = j }

  pub closed_at : (s : S) (w : List Token) (r end : S) (front rest : List Token) → w ≡ front ++ rest → Joined L (λ a. Gathered L step (step s a)) front end ⊎ lang.give s front end
      → Joined (lang.token close) (λ _. lang.give end) rest r → Joined (lang.token close) (λ _. lang.give s) w r ⊎ Joined L (λ a. Closed close L step (step s a)) w r
  closed_at s w r end front rest e (inl j) k = inr (record {
    front = j.front;
    rest = j.rest ++ rest;
    value = j.value;
    whole = e ∙ (ap (λ z. z ++ rest) j.whole ∙ assoc j.front j.rest rest);
    begins = j.begins;
    goes_on = record { front = j.rest; rest = rest; value = end; whole = refl; begins = j.goes_on; goes_on = k };
  })
  closed_at s w r end front rest e (inr g) k =
      let is : w ≡ rest = e ∙ ap (λ z. z ++ rest) g.0 in
      inl (subst (λ z. Joined (lang.token close) (λ _. lang.give z) w r) g.1 (subst (λ z. Joined (lang.token close) (λ _. lang.give end) z r) (sym is) k))

  pub closed_split : (s : S) (w : List Token) (r : S) → Closed close L step s w r → Joined (lang.token close) (λ _. lang.give s) w r ⊎ Joined L (λ a. Closed close L step (step s a)) w r
  closed_split s w r j = closed_at s w r j.value j.front j.rest j.whole (gathered_split L step s j.front j.value j.begins.items j.begins.many j.begins.is) j.goes_on

abbrev pub fits_up_to : TokenKind → List TokenKind → List TokenKind → Bool
fits_up_to close F C1 = apart F (close ∷ []) && apart C1 (close ∷ F)

pub self_within : (k : TokenKind) (xs : List TokenKind) → within (k ∷ []) (k ∷ xs) ≡ true
self_within k xs = ap (λ b. (b || member k xs) && true) (same_self k)

pub tail_within : (k : TokenKind) (xs : List TokenKind) → within xs (k ∷ xs) ≡ true
tail_within k xs = within_self_at xs (k ∷ xs) (λ c m. or_right (same_kind c k) (member c xs) m)

module _ {S A : Type 0} {F C1 : List TokenKind} {L : ℕ → Lang A} {p : Reader A} (close : TokenKind) (is_plain : plain close ≡ true) (step : S → A → S) (l : Exact F false C1 L p)
    (apart_close : apart F (close ∷ []) ≡ true) (apart_next : apart C1 (close ∷ F) ≡ true) where
  pub shape_end : (s : S) → Shape (close ∷ []) false (λ i w r. Joined (lang.token close) (λ _. lang.give s) w r)
  shape_end s = shape_then {F1 = close ∷ []} {F2 = []} {n2 = true} {L = λ i. lang.token close} {M = λ i _. lang.give s} (exact_plain close is_plain).shape (λ a. (exact_give {F = []} {C = []} s).shape) (within_self (close ∷ [])) refl refl

  pub shape_closed : (s : S) → Shape (close ∷ F) false (λ i. Closed close (L i) step s)
  shape_closed s = shape_then {F1 = F} {F2 = close ∷ []} {F = close ∷ F} {n1 = true} {n2 = false} {n = false} {L = λ i. Gathered (L i) step s} {M = λ i r w' r'. Joined (lang.token close) (λ _. lang.give r) w' r'}
      (shape_gathered step l true (λ x. x) s) (λ r. shape_end r) (tail_within close F) (self_within close F) refl

  pub either_closed : (s : S) (tokens : List Token) (o : Outcome S)
      → Answer [] (λ i w r. Joined (lang.token close) (λ _. lang.give s) w r ⊎ Joined (L i) (λ a. Closed close (L i) step (step s a)) w r) tokens o → Answer [] (λ i. Closed close (L i) step s) tokens o
  either_closed s tokens o = answer_same (λ i w r. Joined (lang.token close) (λ _. lang.give s) w r ⊎ Joined (L i) (λ a. Closed close (L i) step (step s a)) w r) (λ i. Closed close (L i) step s)
      (λ i w r k. elim k [ inl j ↦ closed_none close (L i) step s w r j | inr j ↦ closed_more close (L i) step s w r j ])
      (λ i w r. closed_split close (L i) step s w r) [] tokens o

  pub exact_end : (s : S) → Exact (close ∷ []) false [] (λ i w r. Joined (lang.token close) (λ _. lang.give s) w r) (λ tokens. and_then (reading.expect close tokens) (λ _ rest. Ok (s, rest)))
  exact_end s = record {
    shape = shape_end s;
    answers = λ tokens. answer_then [] [] [] true (λ i. lang.token close) (λ i _. lang.give s) (λ w a x. x) (λ a. (exact_give {F = []} {C = []} s).shape) refl (λ _. refl) tokens (reading.expect close tokens) (λ _ rest. Ok (s, rest))
        ((exact_plain close is_plain).answers tokens) (λ a rest e. (exact_give {F = []} {C = []} s).answers rest);
  }

  pub up_to_at : (n : ℕ) (s : S) (tokens : List Token) (b : Bool) → reading.sees close tokens ≡ b
      → ((a : A) (rest : List Token) → p tokens ≡ Ok (a, rest) → Answer [] (λ i. Closed close (L i) step (step s a)) rest (reading.turns_up_to close step p n (step s a) rest))
      → Answer [] (λ i. Closed close (L i) step s) tokens (cond b (and_then (reading.expect close tokens) (λ _ rest. Ok (s, rest))) (and_then (p tokens) (λ a. reading.turns_up_to close step p n (step s a))))
  up_to_at n s tokens true is next = either_closed s tokens (and_then (reading.expect close tokens) (λ _ rest. Ok (s, rest)))
      (left_answer (λ i w r. Joined (lang.token close) (λ _. lang.give s) w r) (λ i w r. Joined (L i) (λ a. Closed close (L i) step (step s a)) w r) [] [] tokens (and_then (reading.expect close tokens) (λ _ rest. Ok (s, rest))) refl
      (λ i u v b j stops head. dead_on F (close ∷ []) [] false u v tokens apart_close (λ e. absurd (false≢true e)) ((tells_sees close is_plain).on tokens is)
      ((shape_then {F1 = F} {F2 = close ∷ F} {F = F} {n = false} {L = L} {M = λ i a. Closed close (L i) step (step s a)} l.shape (λ a. shape_closed (step s a)) (within_self F) refl refl).starts i u b j) stops head)
      ((exact_end s).answers tokens))
  up_to_at n s tokens false is next = either_closed s tokens (and_then (p tokens) (λ a. reading.turns_up_to close step p n (step s a)))
      (right_answer (λ i w r. Joined (lang.token close) (λ _. lang.give s) w r) (λ i w r. Joined (L i) (λ a. Closed close (L i) step (step s a)) w r) [] [] tokens (and_then (p tokens) (λ a. reading.turns_up_to close step p n (step s a))) refl
      (λ i u v b j _ head. dead_off (close ∷ []) (close ∷ []) u v tokens (within_self (close ∷ [])) ((tells_sees close is_plain).off tokens is) ((shape_end s).starts i u b j) head)
      (answer_then (close ∷ F) C1 [] false L (λ i a. Closed close (L i) step (step s a)) l.shape.grows (λ a. shape_closed (step s a)) apart_next (λ e. absurd (false≢true e)) tokens (p tokens) (λ a. reading.turns_up_to close step p n (step s a)) (l.answers tokens) next))

  pub up_to_answer : (n : ℕ) (s : S) (tokens : List Token) → length tokens < n → Answer [] (λ i. Closed close (L i) step s) tokens (reading.turns_up_to close step p n s tokens)
  unfolding reading.turns_up_to
  up_to_answer zero s tokens enough = absurd (omega arith)
  up_to_answer (suc n) s tokens enough = subst (λ o. Answer [] (λ i. Closed close (L i) step s) tokens o)
      (eat_is close (λ rest. Ok (s, rest)) (λ ts. and_then (p ts) (λ a. reading.turns_up_to close step p n (step s a))) tokens)
      (up_to_at n s tokens (reading.sees close tokens) refl (λ a rest e. let fewer = shorter_rest step l tokens a rest e in up_to_answer n (step s a) rest (omega arith)))

pub exact_up_to : {S A : Type 0} {F C1 : List TokenKind} {L : ℕ → Lang A} {p : Reader A} (close : TokenKind) (step : S → A → S) (s : S) → plain close ≡ true → Exact F false C1 L p → fits_up_to close F C1 ≡ true
    → Exact (close ∷ F) false [] (λ i. Closed close (L i) step s) (λ tokens. reading.turns_up_to close step p (suc (length tokens)) s tokens)
exact_up_to {F = F} {C1 = C1} close step s is_plain l fits =
    let h = and_parts (apart F (close ∷ [])) (apart C1 (close ∷ F)) fits in
    record {
      shape = shape_closed close is_plain step l h.0 h.1 s;
      answers = λ tokens. up_to_answer close is_plain step l h.0 h.1 (suc (length tokens)) s tokens (omega arith);
    }

-- loops, as the grammar writes them
pub fold_pushed : {A : Type 0} (s items : List A) → fold reading.pushed s items ≡ s ++ items
fold_pushed s [] = sym (append-nil s)
fold_pushed s (a ∷ items) = fold_pushed (s ++ a ∷ []) items ∙ append_assoc s (a ∷ []) items

pub fold_appended : {A : Type 0} (s : List A) (items : List (List A)) → fold reading.appended s items ≡ s ++ flat_map (λ x. x) items
fold_appended s [] = sym (append-nil s)
fold_appended s (a ∷ items) = fold_appended (s ++ a) items ∙ append_assoc s a (flat_map (λ x. x) items)

pub gathered_joined : {S A : Type 0} (L : Lang A) (step : S → A → S) (s : S) (f : List A → S) → ((items : List A) → fold step s items ≡ f items) → (w : List Token) (r : S) → Gathered L step s w r
    → Joined (lang.many L) (λ items. lang.give (f items)) w r
gathered_joined L step s f is w r g = record { front = w; rest = []; value = g.items; whole = sym (append-nil w); begins = g.many; goes_on = (refl, g.is ∙ is g.items) }

pub joined_gathered : {S A : Type 0} (L : Lang A) (step : S → A → S) (s : S) (f : List A → S) → ((items : List A) → fold step s items ≡ f items) → (w : List Token) (r : S)
    → Joined (lang.many L) (λ items. lang.give (f items)) w r → Gathered L step s w r
joined_gathered L step s f is w r j = record {
  items = j.value;
  many = subst (λ z. lang.many L z j.value) (sym (j.whole ∙ (ap (λ z. j.front ++ z) j.goes_on.0 ∙ append-nil j.front))) j.begins;
  is = j.goes_on.1 ∙ sym (is j.value);
}

abbrev pub repeats : List TokenKind → List TokenKind → List TokenKind → Bool
repeats K F C1 = within F K && apart C1 F

pub turns_are : (K F C1 : List TokenKind) → repeats K F C1 ≡ true → Turns K F C1 (C1 ++ K)
turns_are K F C1 e =
    let a = and_parts (within F K) (apart C1 F) e in
    record { starts = a.0; ends = a.1; goes_on = within_left C1 K; stops = within_right C1 K }

pub exact_loop : {S A : Type 0} {F C1 : List TokenKind} {L : ℕ → Lang A} {p : Reader A} (test : List Token → Bool) (K : List TokenKind) (step : S → A → S) (s : S) (f : List A → S)
    → ((items : List A) → fold step s items ≡ f items) → Tells test K → Exact F false C1 L p → repeats K F C1 ≡ true
    → Exact F true (C1 ++ K) (λ i tokens r. Joined (lang.many (L i)) (λ items. lang.give (f items)) tokens r) (λ tokens. reading.turns test step p (length tokens) s tokens)
exact_loop {F = F} {C1 = C1} {L = L} {p = p} test K step s f is tells l e = exact_same {L = λ i. Gathered (L i) step s}
    (record { shape = shape_gathered step l true (λ x. x) s; answers = λ tokens. turns_answer test K (C1 ++ K) step l tells (turns_are K F C1 e) (length tokens) s tokens (omega arith) })
    (λ i. gathered_joined (L i) step s f is) (λ i. joined_gathered (L i) step s f is)

-- up to a token that closes the list
pub closed_joined : {S A : Type 0} (close : TokenKind) (L : Lang A) (step : S → A → S) (s : S) (f : List A → S) → ((items : List A) → fold step s items ≡ f items) → (w : List Token) (r : S) → Closed close L step s w r
    → Joined (lang.many L) (λ items w' r'. Joined (lang.token close) (λ _. lang.give (f items)) w' r') w r
closed_joined close L step s f is w r j = record {
  front = j.front;
  rest = j.rest;
  value = j.begins.items;
  whole = j.whole;
  begins = j.begins.many;
  goes_on = subst (λ z. Joined (lang.token close) (λ _. lang.give z) j.rest r) (j.begins.is ∙ is j.begins.items) j.goes_on;
}

pub joined_closed : {S A : Type 0} (close : TokenKind) (L : Lang A) (step : S → A → S) (s : S) (f : List A → S) → ((items : List A) → fold step s items ≡ f items) → (w : List Token) (r : S)
    → Joined (lang.many L) (λ items w' r'. Joined (lang.token close) (λ _. lang.give (f items)) w' r') w r → Closed close L step s w r
joined_closed close L step s f is w r j = record {
  front = j.front;
  rest = j.rest;
  value = f j.value;
  whole = j.whole;
  begins = record { items = j.value; many = j.begins; is = sym (is j.value) };
  goes_on = j.goes_on;
}

pub exact_closed : {S A : Type 0} {F C1 : List TokenKind} {L : ℕ → Lang A} {p : Reader A} (close : TokenKind) (step : S → A → S) (s : S) (f : List A → S) → ((items : List A) → fold step s items ≡ f items)
    → plain close ≡ true → Exact F false C1 L p → fits_up_to close F C1 ≡ true
    → Exact (close ∷ F) false [] (λ i tokens r. Joined (lang.many (L i)) (λ items w' r'. Joined (lang.token close) (λ _. lang.give (f items)) w' r') tokens r)
    (λ tokens. reading.turns_up_to close step p (suc (length tokens)) s tokens)
exact_closed {L = L} close step s f is is_plain l e =
    exact_same {L = λ i. Closed close (L i) step s} (exact_up_to close step s is_plain l e) (λ i. closed_joined close (L i) step s f is) (λ i. joined_closed close (L i) step s f is)
