-- What reading gives for a whole list of tokens: the one tree of which they are a unit, or the one refusal.
use Rattle.std.proofs.Common.{◌≡◌, ℕ, zero, suc, ◌+◌, ◌-◌, ◌<◌, ◌≤◌, true, List, [], ◌∷◌, ◌++◌, length, take, drop, Ok, Err, refl, ap, sym, subst, ◌∙◌, arith, add-zero, inl, inr, ◌⊎◌}
use Rattle.std.proofs.lemmas.List.{append-nil, append_assoc, length-append, take-append-drop}
use Rattle.std.proofs.lemmas.Bool.{cases_lt}
use Rattle.std.proofs.Math.Seq.{take-append_seam, take-take}
use Rattle.darwin_lexer.specs.declared.token.Token.{Token}
use Rattle.darwin_lexer.specs.declared.token.TokenKind.TheVariants as kinds
use Rattle.darwin_lexer.specs.declared.token.Keyword.TheVariants as words
use Rattle.darwin_parser.specs.declared.cursor.Stop.TheVariants.{Expected, TooNested, NoMemory}
use Rattle.darwin_parser.specs.Tree.{Tree}
use Rattle.darwin_parser.specs.Language as lang
use Rattle.darwin_parser.specs.Language.{Lang}
use Rattle.darwin_parser.specs.Grammar as grammar
use Rattle.darwin_parser.specs.Grammar.{IsUnitWithin}
use Rattle.darwin_parser.specs.Reading as reading
use Rattle.darwin_parser.specs.Reading.{Outcome, and_then, at_end}
use Rattle.darwin_parser.specs.Refusals.{IsUnitLifted, UnitBegins, IsUnexpected, IsTooNested}
use Rattle.darwin_parser.proofs.Productions.{deeper, exact_component}
use Rattle.darwin_parser.proofs.KindSets.{within}
use Rattle.darwin_parser.proofs.Exact.{Answer, Exact, Nests, Refused, SameHead, Took, exact_same}
use Rattle.darwin_parser.proofs.OneToken.{tells_sees}
use Rattle.darwin_parser.proofs.Repeats.{exact_loop, fold_pushed}

deeper_is : (i n : ℕ) → deeper i n ≡ n + i
deeper_is i zero = omega arith
deeper_is i (suc n) = let e = deeper_is i n in omega arith

ok_is : (p q : Tree × List Token) → ◌≡◌ {A = Outcome Tree} (Ok p) (Ok q) → p ≡ q
ok_is p q e = cc

-- ---- units

module _ (text : List ℕ) (e n : ℕ) where
  abbrev family : ℕ → Lang Tree
  family i = lang.many (grammar.component text (deeper i e) (deeper i n))

  abbrev components : List Token → Outcome Tree
  components tokens = reading.repeated (reading.sees (kinds.Word words.Component)) reading.pushed (reading.component text e n) [] tokens

  from_family : (i : ℕ) (w : List Token) (tree : Tree) → family i w tree → IsUnitWithin (e + i) (n + i) text w tree
  unfolding IsUnitWithin
  from_family i w tree l = subst (λ x. lang.many (grammar.component text x (n + i)) w tree) (deeper_is i e) (subst (λ y. lang.many (grammar.component text (deeper i e) y) w tree) (deeper_is i n) l)

  to_family : (i : ℕ) (w : List Token) (tree : Tree) → IsUnitWithin (e + i) (n + i) text w tree → family i w tree
  unfolding IsUnitWithin
  to_family i w tree l = subst (λ y. lang.many (grammar.component text (deeper i e) y) w tree) (sym (deeper_is i n)) (subst (λ x. lang.many (grammar.component text x (n + i)) w tree) (sym (deeper_is i e)) l)

  exact_components : Exact (kinds.Word words.Component ∷ []) true (kinds.Word words.Component ∷ []) family components
  exact_components = exact_same
      (exact_loop (reading.sees (kinds.Word words.Component)) (kinds.Word words.Component ∷ []) reading.pushed [] (λ items. items) (fold_pushed []) (tells_sees (kinds.Word words.Component) refl) (exact_component text e n) refl)
      (λ i w tree j. subst (λ t. family i w t) (sym j.goes_on.1) (subst (λ z. family i z j.value) (sym (j.whole ∙ (ap (λ z. j.front ++ z) j.goes_on.0 ∙ append-nil j.front))) j.begins))
      (λ i w tree m. record { front = w; rest = []; value = tree; whole = sym (append-nil w); begins = m; goes_on = (refl, refl) })

  same_head_self : (w : List Token) → SameHead w w
  same_head_self [] = tt
  same_head_self (t ∷ w) = refl

  tree_at : (w : List Token) (tree : Tree) (o : Outcome Tree) → family 0 w tree → Answer (kinds.Word words.Component ∷ []) family w o → (p : Tree × List Token) × (o ≡ Ok p) × (tree ≡ p.0)
  tree_at w tree (Ok p) l t = (p, refl, (t.only 0 w [] p.1 tree l tt (append-nil w ∙ t.whole) (same_head_self p.1)).1)
  tree_at w tree (Err (Expected k)) l r = absurd (r.dead 0 w [] r.rest tree l tt (append-nil w ∙ r.whole) (same_head_self r.rest))
  tree_at w tree (Err (TooNested k)) l r = absurd (r.dead w [] r.rest tree l tt (append-nil w ∙ r.whole))
  tree_at w tree (Err NoMemory) l r = absurd r

  one_family_tree : (w : List Token) (a b : Tree) → family 0 w a → family 0 w b → a ≡ b
  one_family_tree w a b l m =
      let p = tree_at w a (components w) l (exact_components.answers w) in
      let q = tree_at w b (components w) m (exact_components.answers w) in
      p.2 ∙ (ap (λ z. z.0) (ok_is p.0 q.0 (sym p.1 ∙ q.1)) ∙ sym q.2)

  -- the whole of the tokens, or where they stop
  pub one_tree : (w : List Token) (a b : Tree) → IsUnitWithin e n text w a → IsUnitWithin e n text w b → a ≡ b
  unfolding IsUnitWithin
  one_tree w a b l m =
      one_family_tree w a b (to_family 0 w a (subst (λ x. IsUnitWithin x (n + 0) text w a) (sym (add-zero e)) (subst (λ y. IsUnitWithin e y text w a) (sym (add-zero n)) l)))
      (to_family 0 w b (subst (λ x. IsUnitWithin x (n + 0) text w b) (sym (add-zero e)) (subst (λ y. IsUnitWithin e y text w b) (sym (add-zero n)) m)))

-- ---- refusals, for the limits of the language

front_take : (front rest tokens : List Token) → tokens ≡ front ++ rest → take (length front) tokens ≡ front
front_take front rest tokens e = ap (take (length front)) e ∙ take-append_seam front rest

next_take : (front rest tokens : List Token) (t : Token) → tokens ≡ front ++ t ∷ rest → take (length front + 1) tokens ≡ front ++ t ∷ []
next_take front rest tokens t e =
    let long : tokens ≡ (front ++ t ∷ []) ++ rest = e ∙ sym (append_assoc front (t ∷ []) rest) in
    let len : length front + 1 ≡ length (front ++ t ∷ []) = omega (arith, length-append front (t ∷ [])) in
    ap (λ k. take k tokens) len ∙ front_take (front ++ t ∷ []) rest tokens long

no_rest : (front x rest : List Token) (t : Token) → SameHead x (t ∷ rest) → front ++ x ≡ front → ⊥
no_rest front [] rest t head e = head
no_rest front (y ∷ x) rest t head e = absurd (let len = ap length e in omega (arith, length-append front (y ∷ x)))

at_or_below : (m n : ℕ) → m ≤ n → (m < n) ⊎ (m ≡ n)
at_or_below m n less = elim (cases_lt m n) as (λ _. (m < n) ⊎ (m ≡ n)) [ inl few ↦ inl few | inr more ↦ inr (omega arith) ]

front_of_front : (m n : ℕ) (tokens : List Token) → m ≤ n → (others : List Token) → take n tokens ++ others ≡ take m tokens ++ (drop m (take n tokens) ++ others)
front_of_front m n tokens less others =
    ap (λ w. w ++ others) (sym (take-append-drop m (take n tokens)) ∙ ap (λ w. w ++ drop m (take n tokens)) (take-take m n tokens less))
    ∙ append_assoc (take m tokens) (drop m (take n tokens)) others

module _ (text : List ℕ) where
  abbrev units : ℕ → Lang Tree
  units = family text 32 16

  begins_of : (i : ℕ) (front others : List Token) (tree : Tree) → units i (front ++ others) tree → UnitBegins i text front
  begins_of i front others tree l = record { others = others; tree = tree; unit = from_family text 32 16 i (front ++ others) tree l }

  unexpected_at : (tokens front rest : List Token) (n : ℕ) → tokens ≡ front ++ rest → length rest ≡ length tokens - n → n ≤ length tokens
      → ((i : ℕ) (u x : List Token) (tree : Tree) → units i u tree → u ≡ front ++ x → SameHead x rest → ⊥) → UnitBegins 0 text front → IsUnexpected text tokens n
  unexpected_at tokens front [] n whole left within dead before =
      let len = ap length whole in
      let n_is : n ≡ length front = omega (arith, len, length-append front []) in
      record {
        within = within;
        before = subst (UnitBegins 0 text) (sym (ap (λ k. take k tokens) n_is ∙ front_take front [] tokens whole)) before;
        refused = λ few. absurd (omega (arith, len, length-append front []));
        unfinished = λ _ levels tree unit. dead levels tokens [] tree (to_family text 32 16 levels tokens tree unit) whole tt;
      }
  unexpected_at tokens front (t ∷ rest) n whole left within dead before =
      let len = ap length whole in
      let n_is : n ≡ length front = omega (arith, len, length-append front (t ∷ rest)) in
      record {
        within = within;
        before = subst (UnitBegins 0 text) (sym (ap (λ k. take k tokens) n_is ∙ front_take front (t ∷ rest) tokens whole)) before;
        refused = λ few levels begins.
            let is : take (n + 1) tokens ≡ front ++ t ∷ [] = ap (λ k. take (k + 1) tokens) n_is ∙ next_take front rest tokens t whole in
            dead levels (take (n + 1) tokens ++ begins.others) (t ∷ begins.others) begins.tree (to_family text 32 16 levels (take (n + 1) tokens ++ begins.others) begins.tree begins.unit)
            (ap (λ w. w ++ begins.others) is ∙ append_assoc front (t ∷ []) begins.others) refl;
        unfinished = λ all. absurd (omega (arith, len, length-append front (t ∷ rest)));
      }

  unexpected_of : (tokens : List Token) (k : ℕ) → Refused (kinds.Word words.Component ∷ []) units tokens k → IsUnexpected text tokens (length tokens - k)
  unexpected_of tokens k r =
      let len = ap length r.whole in
      unexpected_at tokens r.front r.rest (length tokens - k) r.whole (omega (arith, len, length-append r.front r.rest, r.left)) (omega arith)
      (λ i u x tree l is head. r.dead i u [] x tree l tt (append-nil u ∙ is) head) (begins_of 0 r.front r.begun.others r.begun.value r.begun.spelled)

  too_nested_of : (tokens : List Token) (k : ℕ) → Nests (kinds.Word words.Component ∷ []) units tokens k → IsTooNested text tokens (length tokens - k)
  too_nested_of tokens k r =
      let len = ap length r.whole in
      let n_is : length tokens - k ≡ length r.front = omega (arith, len, length-append r.front (r.opener ∷ r.rest), r.left) in
      let is : take (length tokens - k + 1) tokens ≡ r.front ++ r.opener ∷ [] = ap (λ m. take (m + 1) tokens) n_is ∙ next_take r.front r.rest tokens r.opener r.whole in
      record {
        within = omega (arith, len, length-append r.front (r.opener ∷ r.rest), r.left);
        before = subst (UnitBegins 0 text) (sym (ap (λ m. take m tokens) n_is ∙ front_take r.front (r.opener ∷ r.rest) tokens r.whole)) (begins_of 0 r.front r.begun.others r.begun.value r.begun.spelled);
        refused = λ begins. r.dead (take (length tokens - k + 1) tokens ++ begins.others) [] begins.others begins.tree
            (to_family text 32 16 0 (take (length tokens - k + 1) tokens ++ begins.others) begins.tree begins.unit) tt
            (append-nil (take (length tokens - k + 1) tokens ++ begins.others) ∙ (ap (λ w. w ++ begins.others) is ∙ append_assoc r.front (r.opener ∷ []) begins.others));
        deeper = subst (UnitBegins 1 text) (sym is) (begins_of 1 (r.front ++ r.opener ∷ []) r.deeper.others r.deeper.value r.deeper.spelled);
      }

  -- the components end before the tokens do
  leftover : (tokens rest : List Token) (t : Token) (tree : Tree) → Took (kinds.Word words.Component ∷ []) units tokens tree (t ∷ rest) → IsUnexpected text tokens (length tokens - length (t ∷ rest))
  leftover tokens rest t tree p =
      let len = ap length p.whole in
      unexpected_at tokens p.front (t ∷ rest) (length tokens - length (t ∷ rest)) p.whole (omega (arith, len, length-append p.front (t ∷ rest))) (omega arith)
      (λ i u x b l is head. no_rest p.front x rest t head (sym is ∙ (p.only i u [] x b l tt (append-nil u ∙ is) head).0))
      (begins_of 0 p.front [] tree (subst (λ w. units 0 w tree) (sym (append-nil p.front)) p.spelled))

  -- What reading gives: the tree of the unit, or the refusal with what is left.
  Gives : List Token → Outcome Tree → Type 0
  Gives tokens (Ok p) = IsUnitWithin 32 16 text tokens p.0
  Gives tokens (Err (Expected k)) = IsUnexpected text tokens (length tokens - k)
  Gives tokens (Err (TooNested k)) = IsTooNested text tokens (length tokens - k)
  Gives tokens (Err NoMemory) = ⊥

  ended : (tokens rest : List Token) (tree : Tree) → Took (kinds.Word words.Component ∷ []) units tokens tree rest → Gives tokens (at_end tree rest)
  unfolding Gives
  ended tokens [] tree p = from_family text 32 16 0 tokens tree (subst (λ w. units 0 w tree) (sym (p.whole ∙ append-nil p.front)) p.spelled)
  ended tokens (t ∷ rest) tree p = leftover tokens rest t tree p

  gives_at : (tokens : List Token) (o : Outcome Tree) → Answer (kinds.Word words.Component ∷ []) units tokens o → Gives tokens (and_then o at_end)
  unfolding Gives
  gives_at tokens (Ok p) a = ended tokens p.1 p.0 a
  gives_at tokens (Err (Expected k)) a = unexpected_of tokens k a
  gives_at tokens (Err (TooNested k)) a = too_nested_of tokens k a
  gives_at tokens (Err NoMemory) a = a

  gives : (tokens : List Token) → Gives tokens (reading.unit text 32 16 tokens)
  unfolding reading.unit
  gives tokens = gives_at tokens (components text 32 16 tokens) ((exact_components text 32 16).answers tokens)

  pub tree_read : (tokens : List Token) (tree : Tree) (rest : List Token) → reading.unit text 32 16 tokens ≡ Ok (tree, rest) → IsUnitWithin 32 16 text tokens tree
  unfolding Gives
  tree_read tokens tree rest e = subst (Gives tokens) e (gives tokens)

  pub unexpected_read : (tokens : List Token) (k : ℕ) → reading.unit text 32 16 tokens ≡ Err (Expected k) → IsUnexpected text tokens (length tokens - k)
  unfolding Gives
  unexpected_read tokens k e = subst (Gives tokens) e (gives tokens)

  pub too_nested_read : (tokens : List Token) (k : ℕ) → reading.unit text 32 16 tokens ≡ Err (TooNested k) → IsTooNested text tokens (length tokens - k)
  unfolding Gives
  too_nested_read tokens k e = subst (Gives tokens) e (gives tokens)

  -- always one of these
  given : (tokens : List Token) (o : Outcome Tree) → Gives tokens o → ((tree : Tree) × IsUnitWithin 32 16 text tokens tree) ⊎ ((n : ℕ) × IsUnexpected text tokens n) ⊎ ((n : ℕ) × IsTooNested text tokens n)
  unfolding Gives
  given tokens (Ok p) h = inl (p.0, h)
  given tokens (Err (Expected k)) h = inr (inl (length tokens - k, h))
  given tokens (Err (TooNested k)) h = inr (inr (length tokens - k, h))
  given tokens (Err NoMemory) h = absurd h

  pub always_one : (tokens : List Token) → ((tree : Tree) × IsUnitWithin 32 16 text tokens tree) ⊎ ((n : ℕ) × IsUnexpected text tokens n) ⊎ ((n : ℕ) × IsTooNested text tokens n)
  always_one tokens = given tokens (reading.unit text 32 16 tokens) (gives tokens)

  -- ---- no two of these at once

  -- a front of a front
  begins_less : (levels m n : ℕ) (tokens : List Token) → m ≤ n → UnitBegins levels text (take n tokens) → UnitBegins levels text (take m tokens)
  begins_less levels m n tokens less b = record {
    others = drop m (take n tokens) ++ b.others;
    tree = b.tree;
    unit = subst (λ w. IsUnitLifted levels text w b.tree) (front_of_front m n tokens less b.others) b.unit;
  }

  begins_all : (m : ℕ) (tokens : List Token) (tree : Tree) → IsUnitWithin 32 16 text tokens tree → UnitBegins 0 text (take m tokens)
  begins_all m tokens tree unit = record { others = drop m tokens; tree = tree; unit = subst (λ w. IsUnitLifted 0 text w tree) (sym (take-append-drop m tokens)) unit }

  pub not_unexpected : (tokens : List Token) (tree : Tree) (n : ℕ) → IsUnitWithin 32 16 text tokens tree → IsUnexpected text tokens n → ⊥
  not_unexpected tokens tree n unit r = elim (at_or_below n (length tokens) r.within) [ inl few ↦ r.refused few 0 (begins_all (n + 1) tokens tree unit) | inr all ↦ r.unfinished all 0 tree unit ]

  pub not_too_nested : (tokens : List Token) (tree : Tree) (n : ℕ) → IsUnitWithin 32 16 text tokens tree → IsTooNested text tokens n → ⊥
  not_too_nested tokens tree n unit r = r.refused (begins_all (n + 1) tokens tree unit)

  not_above : (tokens : List Token) (m n : ℕ) → UnitBegins 0 text (take n tokens) → (UnitBegins 0 text (take (m + 1) tokens) → ⊥) → n ≤ m
  not_above tokens m n before refused = elim (cases_lt m n) [ inl more ↦ absurd (refused (begins_less 0 (m + 1) n tokens (omega arith) before)) | inr less ↦ less ]

  unexpected_below : (tokens : List Token) (m n : ℕ) → IsUnexpected text tokens m → UnitBegins 0 text (take n tokens) → n ≤ length tokens → n ≤ m
  unexpected_below tokens m n a before within = elim (at_or_below m (length tokens) a.within) [ inl few ↦ not_above tokens m n before (a.refused few 0) | inr all ↦ omega arith ]

  pub one_unexpected : (tokens : List Token) (m n : ℕ) → IsUnexpected text tokens m → IsUnexpected text tokens n → m ≡ n
  one_unexpected tokens m n a b =
      let x : n ≤ m = unexpected_below tokens m n a b.before b.within in
      let y : m ≤ n = unexpected_below tokens n m b a.before a.within in
      omega arith

  pub one_too_nested : (tokens : List Token) (m n : ℕ) → IsTooNested text tokens m → IsTooNested text tokens n → m ≡ n
  one_too_nested tokens m n a b =
      let x : n ≤ m = not_above tokens m n b.before a.refused in
      let y : m ≤ n = not_above tokens n m a.before b.refused in
      omega arith

  pub not_both : (tokens : List Token) (m n : ℕ) → IsUnexpected text tokens m → IsTooNested text tokens n → ⊥
  not_both tokens m n a b =
      let within : n < length tokens = b.within in
      let x : n ≤ m = unexpected_below tokens m n a b.before (omega arith) in
      let y : m ≤ n = not_above tokens n m a.before b.refused in
      let same : n ≡ m = omega arith in
      a.refused (omega arith) 1 (subst (λ k. UnitBegins 1 text (take (k + 1) tokens)) same b.deeper)
