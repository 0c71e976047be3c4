-- Each rule of the program is exact for its production.
use Rattle.std.proofs.Common.{◌≡◌, ℕ, zero, suc, true, false, List, [], ◌∷◌, ◌++◌, refl, sym, subst, Some, None, Ok, unwrap_or, fold, inl, inr, ◌⊎◌, ◌||◌}
use Rattle.std.proofs.lemmas.List.{append-nil}
use Rattle.darwin_lexer.specs.declared.token.Token.{Token}
use Rattle.darwin_lexer.specs.declared.token.TokenKind.{TokenKind}
use Rattle.darwin_lexer.specs.declared.token.TokenKind.TheVariants as kinds
use Rattle.darwin_lexer.specs.declared.token.Keyword.TheVariants as words
use Rattle.darwin_lexer.specs.declared.token.Sign.TheVariants as signs
use Rattle.darwin_lexer.specs.Tokens.{bytes_of}
use Rattle.darwin_parser.specs.declared.cursor.Level.TheVariants as levels
use Rattle.darwin_lexer.specs.declared.token.At.{At}
use Rattle.darwin_parser.specs.declared.tree.Side.{Side}
use Rattle.darwin_parser.specs.declared.tree.Side.TheVariants as sides
use Rattle.std.specs.List.{flat_map}
use Rattle.darwin_parser.specs.Tree.{Expr, num, var, neg, single, element, Stmt, inst, bind, forall, when}
use Rattle.darwin_parser.specs.Language as lang
use Rattle.darwin_parser.specs.Language.{Lang, Joined}
use Rattle.darwin_parser.specs.Grammar as grammar
use Rattle.darwin_parser.specs.Reading as reading
use Rattle.darwin_parser.specs.Reading.{Reader, same_kind}
use Rattle.darwin_parser.proofs.KindSets.{class_of, member, same_sound}
use Rattle.darwin_parser.proofs.Exact.{Begun, Exact, StartsOr, Tells, exact_before, exact_done, exact_if, exact_nest, exact_other, exact_same, exact_seq, exact_shared, exact_wide}
use Rattle.darwin_parser.proofs.OneToken.{exact_after, exact_number, exact_operator, exact_plain, exact_sees, example_of, operators, plain, starts_two, tells_either, tells_number, tells_operator, tells_sees}
use Rattle.darwin_parser.proofs.Repeats.{exact_closed, exact_loop, fold_appended, fold_pushed}
use Rattle.std.proofs.lemmas.Bool.{false≢true}
use Rattle.base.proofs.BoolLaws.{or_nothing}

-- a limit of nesting, lifted
abbrev pub deeper : ℕ → ℕ → ℕ
deeper i zero = i
deeper i (suc n) = suc (deeper i n)

pub exact_name : (text : List ℕ) → Exact (kinds.Name ∷ []) false [] (λ i. grammar.name text) (reading.name text)
unfolding grammar.name reading.name
exact_name text = exact_seq (exact_plain kinds.Name refl) (λ t. exact_done (bytes_of text t)) refl

pub exact_simple : (text : List ℕ) → Exact (kinds.Number 0 ∷ kinds.Name ∷ []) false [] (λ i. grammar.simple text) (reading.simple text)
unfolding grammar.simple reading.simple
exact_simple text = exact_wide (exact_if reading.sees_number (kinds.Number 0 ∷ []) tells_number (exact_seq exact_number (λ n. exact_done (num n)) refl) (exact_seq (exact_name text) (λ x. exact_done (var x)) refl) refl) refl

-- ---- expressions

-- the operators of this level and of the tighter ones
abbrev pub after_term : List TokenKind
after_term = operators levels.Term

abbrev pub after_sum : List TokenKind
after_sum = after_term ++ operators levels.Sum

abbrev pub after_comparison : List TokenKind
after_comparison = after_sum ++ operators levels.Comparison

abbrev pub after_conjunction : List TokenKind
after_conjunction = after_comparison ++ operators levels.And

abbrev pub after_expr : List TokenKind
after_expr = after_conjunction ++ operators levels.Or

-- what an operand begins with
abbrev pub operand_starts : List TokenKind
operand_starts = kinds.Number 0 ∷ kinds.Name ∷ kinds.Sign signs.OpenParen ∷ kinds.Sign signs.Minus ∷ []

exact_term : {L : ℕ → Lang Expr} {p : Reader Expr} → Exact operand_starts false [] L p → Exact operand_starts false after_term (λ i. grammar.chain levels.Term (L i)) (reading.chain levels.Term p)
unfolding reading.chain
exact_term l = exact_wide (exact_seq l
    (λ first. exact_loop (reading.sees_operator levels.Term) (operators levels.Term) grammar.with_right first (fold grammar.with_right first) (λ _. refl) (tells_operator levels.Term)
    (exact_seq (exact_operator levels.Term) (λ o. exact_seq l (λ right. exact_done (o, right)) refl) refl) refl)
    refl) refl

exact_sum : {L : ℕ → Lang Expr} {p : Reader Expr} → Exact operand_starts false after_term L p → Exact operand_starts false after_sum (λ i. grammar.chain levels.Sum (L i)) (reading.chain levels.Sum p)
unfolding reading.chain
exact_sum l = exact_wide (exact_seq l
    (λ first. exact_loop (reading.sees_operator levels.Sum) (operators levels.Sum) grammar.with_right first (fold grammar.with_right first) (λ _. refl) (tells_operator levels.Sum)
    (exact_seq (exact_operator levels.Sum) (λ o. exact_seq l (λ right. exact_done (o, right)) refl) refl) refl)
    refl) refl

exact_comparison : {L : ℕ → Lang Expr} {p : Reader Expr} → Exact operand_starts false after_sum L p → Exact operand_starts false after_comparison (λ i. grammar.comparison (L i)) (reading.comparison p)
unfolding reading.comparison
exact_comparison l = exact_wide (exact_seq l
    (λ first. exact_if (reading.sees_operator levels.Comparison) (operators levels.Comparison) (tells_operator levels.Comparison)
    (exact_seq (exact_seq (exact_operator levels.Comparison) (λ o. exact_seq l (λ right. exact_done (o, right)) refl) refl) (λ next. exact_done (grammar.with_right first next)) refl)
    (exact_done first) refl)
    refl) refl

exact_conjunction : {L : ℕ → Lang Expr} {p : Reader Expr} → Exact operand_starts false after_comparison L p → Exact operand_starts false after_conjunction (λ i. grammar.chain levels.And (L i)) (reading.chain levels.And p)
unfolding reading.chain
exact_conjunction l = exact_wide (exact_seq l
    (λ first. exact_loop (reading.sees_operator levels.And) (operators levels.And) grammar.with_right first (fold grammar.with_right first) (λ _. refl) (tells_operator levels.And)
    (exact_seq (exact_operator levels.And) (λ o. exact_seq l (λ right. exact_done (o, right)) refl) refl) refl)
    refl) refl

exact_disjunction : {L : ℕ → Lang Expr} {p : Reader Expr} → Exact operand_starts false after_conjunction L p → Exact operand_starts false after_expr (λ i. grammar.chain levels.Or (L i)) (reading.chain levels.Or p)
unfolding reading.chain
exact_disjunction l = exact_wide (exact_seq l
    (λ first. exact_loop (reading.sees_operator levels.Or) (operators levels.Or) grammar.with_right first (fold grammar.with_right first) (λ _. refl) (tells_operator levels.Or)
    (exact_seq (exact_operator levels.Or) (λ o. exact_seq l (λ right. exact_done (o, right)) refl) refl) refl)
    refl) refl

pub exact_expr_over : {L : ℕ → Lang Expr} {p : Reader Expr} → Exact operand_starts false [] L p → Exact operand_starts false after_expr (λ i. grammar.expr_over (L i)) (reading.expr_over p)
unfolding grammar.expr_over reading.expr_over reading.operand_over
exact_expr_over l = exact_disjunction (exact_conjunction (exact_comparison (exact_sum (exact_term l))))

abbrev pub open_paren : TokenKind
open_paren = kinds.Sign signs.OpenParen

abbrev pub minus : TokenKind
minus = kinds.Sign signs.Minus

abbrev pub nested_starts : List TokenKind
nested_starts = open_paren ∷ minus ∷ []

exact_nested : {L : ℕ → Lang Expr} {p : Reader Expr} → Exact operand_starts false [] L p → Exact nested_starts false [] (λ i. grammar.nested (L i)) (reading.nested_over p)
unfolding grammar.nested reading.nested_over
exact_nested {p = p} l = exact_wide (exact_other (exact_after minus (λ tokens. reading.and_then (p tokens) (λ e tokens. Ok (neg e, tokens))) refl
    (exact_seq (exact_plain minus refl) (λ _. exact_seq l (λ e. exact_done (neg e)) refl) refl)
    (exact_seq (exact_plain open_paren refl) (λ _. exact_seq (exact_expr_over l) (λ e. exact_seq (exact_plain (kinds.Sign signs.CloseParen) refl) (λ _. exact_done e) refl) refl) refl)
    refl)) refl

tells_nested : Tells reading.sees_nested nested_starts
tells_nested = tells_either open_paren minus (tells_sees open_paren refl) (tells_sees minus refl)

-- the nested operands, of which there are none at the limit
nestable : List ℕ → ℕ → Lang Expr
nestable text zero = λ tokens e. ⊥
nestable text (suc i) = grammar.nested (grammar.factor text i)

starts_then : (F : List TokenKind) (a b : List Token) → StartsOr F false a → StartsOr F false (a ++ b)
starts_then F [] b s = absurd (false≢true s)
starts_then F (t ∷ a) b s = s

token_starts : {B : Type 0} (kind : TokenKind) (M : Token → Lang B) (w : List Token) (b : B) → plain kind ≡ true → Joined (lang.token kind) M w b → StartsOr (kind ∷ []) false w
token_starts kind M w b e j =
    let s = (exact_plain kind e).shape.starts 0 j.front j.value j.begins in
    subst (StartsOr (kind ∷ []) false) (sym j.whole) (starts_then (kind ∷ []) j.front j.rest s)

nested_starts_so : (L : Lang Expr) (w : List Token) (e : Expr) → grammar.nested L w e → StartsOr nested_starts false w
unfolding grammar.nested
nested_starts_so L w e n = elim n [
  | inl j ↦ starts_two open_paren minus w (inl (token_starts open_paren _ w e refl j))
  | inr j ↦ starts_two open_paren minus w (inr (token_starts minus _ w e refl j))
]

exact_base : (text : List ℕ) → Exact operand_starts false [] (λ i. grammar.factor text 0) (reading.simple text)
unfolding grammar.factor
exact_base text = exact_wide (exact_simple text) refl

two_kinds : (k a b : TokenKind) → member (class_of k) (a ∷ b ∷ []) ≡ true → (class_of k ≡ a) ⊎ (class_of k ≡ b)
two_kinds k a b m = elim (same_kind (class_of k) a) as (λ c. same_kind (class_of k) a ≡ c → (c || (same_kind (class_of k) b || false)) ≡ true → (class_of k ≡ a) ⊎ (class_of k ≡ b)) [
  | true ↦ λ e _. inl (same_sound (class_of k) a e)
  | false ↦ λ _ h. inr (same_sound (class_of k) b (or_nothing (same_kind (class_of k) b) h))
] refl m

not_plain : (kind : TokenKind) → plain kind ≡ true → kinds.Number 0 ≡ kind → ⊥
not_plain kinds.Name p e = cc
not_plain (kinds.Word w) p e = cc
not_plain (kinds.Sign s) p e = cc
not_plain (kinds.Number n) p e = cc

of_class : (k kind : TokenKind) → plain kind ≡ true → class_of k ≡ kind → k ≡ kind
of_class kinds.Name kind p e = e
of_class (kinds.Word w) kind p e = e
of_class (kinds.Sign s) kind p e = e
of_class (kinds.Number n) kind p e = absurd (not_plain kind p e)

opens_nested : (text : List ℕ) (t : Token) → member (class_of t.kind) nested_starts ≡ true → Begun (grammar.nested (grammar.factor text 0)) (t ∷ [])
unfolding grammar.nested
opens_nested text t m = elim (two_kinds t.kind open_paren minus m) as (λ _. Begun (grammar.nested (grammar.factor text 0)) (t ∷ [])) [
  | inl e ↦ (
      let b = (exact_expr_over (exact_base text)).shape.inhabited 0 in
      record {
        others = b.others ++ example_of (kinds.Sign signs.CloseParen) ∷ [];
        value = b.value;
        spelled = inl (record {
          front = t ∷ [];
          rest = b.others ++ example_of (kinds.Sign signs.CloseParen) ∷ [];
          value = t;
          whole = refl;
          begins = (refl, of_class t.kind open_paren refl e);
          goes_on = record {
            front = b.others;
            rest = example_of (kinds.Sign signs.CloseParen) ∷ [];
            value = b.value;
            whole = refl;
            begins = b.spelled;
            goes_on = record { front = example_of (kinds.Sign signs.CloseParen) ∷ []; rest = []; value = example_of (kinds.Sign signs.CloseParen); whole = refl; begins = (refl, refl); goes_on = (refl, refl) };
          };
        });
      })
  | inr e ↦ (
      let b = (exact_base text).shape.inhabited 0 in
      record {
        others = b.others;
        value = neg b.value;
        spelled = inr (record { front = t ∷ []; rest = b.others; value = t; whole = refl; begins = (refl, of_class t.kind minus refl e); goes_on = record { front = b.others; rest = []; value = b.value; whole = sym (append-nil b.others); begins = b.spelled; goes_on = (refl, refl) } });
      })
]

nestable_starts : (text : List ℕ) (i : ℕ) (w : List Token) (e : Expr) → nestable text i w e → StartsOr nested_starts false w
unfolding nestable
nestable_starts text zero w e n = absurd n
nestable_starts text (suc i) w e n = nested_starts_so (grammar.factor text i) w e n

factor_to : (text : List ℕ) (i : ℕ) (w : List Token) (e : Expr) → grammar.simple text w e ⊎ nestable text i w e → grammar.factor text i w e
unfolding grammar.factor nestable
factor_to text zero w e (inl l) = l
factor_to text zero w e (inr n) = absurd n
factor_to text (suc i) w e l = l

factor_from : (text : List ℕ) (i : ℕ) (w : List Token) (e : Expr) → grammar.factor text i w e → grammar.simple text w e ⊎ nestable text i w e
unfolding grammar.factor nestable
factor_from text zero w e l = inl l
factor_from text (suc i) w e l = l

exact_factor_limit : (text : List ℕ) → Exact operand_starts false [] (λ i. grammar.factor text i) (reading.factor text 0)
unfolding reading.factor nestable
exact_factor_limit text = exact_same
    (exact_wide (exact_nest reading.sees_nested nested_starts nested_starts {M = λ i. grammar.simple text} {N = nestable text} (λ w e n. n) (nestable_starts text) (opens_nested text) tells_nested (exact_simple text) refl) refl)
    (factor_to text) (factor_from text)

exact_factor_deeper : (text : List ℕ) (n : ℕ) → Exact operand_starts false [] (λ i. grammar.factor text (deeper i n)) (reading.factor text n)
    → Exact operand_starts false [] (λ i. grammar.factor text (suc (deeper i n))) (reading.factor text (suc n))
unfolding reading.factor grammar.factor
exact_factor_deeper text n l = exact_wide (exact_other (exact_if reading.sees_nested nested_starts tells_nested (exact_nested l) (exact_simple text) refl)) refl

pub exact_factor : (text : List ℕ) (n : ℕ) → Exact operand_starts false [] (λ i. grammar.factor text (deeper i n)) (reading.factor text n)
exact_factor text zero = exact_factor_limit text
exact_factor text (suc n) = exact_factor_deeper text n (exact_factor text n)

pub exact_expr : (text : List ℕ) (n : ℕ) → Exact operand_starts false after_expr (λ i. grammar.expr text (deeper i n)) (reading.expr text n)
unfolding grammar.expr reading.expr
exact_expr text n = exact_expr_over (exact_factor text n)

-- ---- parts of components

abbrev pub close_paren : TokenKind
close_paren = kinds.Sign signs.CloseParen

abbrev pub comma : TokenKind
comma = kinds.Sign signs.Comma

exact_note : (text : List ℕ) → Exact (kinds.Name ∷ kinds.Word words.Int ∷ comma ∷ []) false [] (λ i. grammar.note text) (reading.note text)
unfolding grammar.note reading.note reading.note_token
exact_note text = exact_wide (exact_seq
    (exact_sees kinds.Name refl (exact_plain kinds.Name refl) (exact_sees (kinds.Word words.Int) refl (exact_plain (kinds.Word words.Int) refl) (exact_plain comma refl) refl) refl)
    (λ t. exact_done (bytes_of text t)) refl) refl

exact_notes : (text : List ℕ) → Exact (kinds.Sign signs.Less ∷ []) false [] (λ i. grammar.notes text) (reading.note_list text)
unfolding grammar.notes reading.note_list
exact_notes text = exact_wide (exact_seq (exact_plain (kinds.Sign signs.Less) refl) (λ _. exact_seq (exact_note text)
    (λ first. exact_closed (kinds.Sign signs.Greater) reading.pushed (first ∷ []) (λ others. first ∷ others) (fold_pushed (first ∷ [])) refl (exact_note text) refl) refl) refl) refl

exact_optional_notes : (text : List ℕ) → Exact (kinds.Sign signs.Less ∷ []) true (kinds.Sign signs.Less ∷ []) (λ i. lang.optional (grammar.notes text)) (reading.notes text)
unfolding reading.notes
exact_optional_notes text = exact_wide (exact_sees (kinds.Sign signs.Less) refl (exact_seq (exact_notes text) (λ ns. exact_done (Some ns)) refl) (exact_done None) refl) refl

exact_param : (text : List ℕ) → Exact (kinds.Word words.Int ∷ []) false [] (λ i. grammar.param text) (reading.param text)
unfolding grammar.param reading.param
exact_param text = exact_seq (exact_plain (kinds.Word words.Int) refl) (λ _. exact_name text) refl

exact_param_list : (text : List ℕ) → Exact (kinds.Word words.Int ∷ []) false (comma ∷ []) (λ i. lang.separated (grammar.param text)) (reading.param_list text)
unfolding reading.param_list
exact_param_list text = exact_wide (exact_seq (exact_param text)
    (λ first. exact_loop (reading.sees comma) (comma ∷ []) reading.pushed (first ∷ []) (λ others. first ∷ others) (fold_pushed (first ∷ [])) (tells_sees comma refl)
    (exact_seq (exact_plain comma refl) (λ _. exact_param text) refl) refl) refl) refl

exact_params : (text : List ℕ) → Exact (open_paren ∷ []) true (open_paren ∷ []) (λ i. grammar.params text) (reading.params text)
unfolding grammar.params reading.params
exact_params text = exact_wide (exact_sees open_paren refl
    (exact_seq (exact_plain open_paren refl) (λ _. exact_after close_paren (reading.pure []) refl
    (exact_seq (exact_plain close_paren refl) (λ _. exact_done []) refl)
    (exact_seq (exact_param_list text) (λ ps. exact_seq (exact_plain close_paren refl) (λ _. exact_done ps) refl) refl) refl) refl)
    (exact_done []) refl) refl

module _ (text : List ℕ) (e : ℕ) where
  exact_bracketed : Exact (kinds.Sign signs.OpenBracket ∷ []) false [] (λ i. grammar.bracketed text (deeper i e)) (reading.bracketed text e)
  unfolding grammar.bracketed reading.bracketed
  exact_bracketed = exact_wide (exact_seq (exact_plain (kinds.Sign signs.OpenBracket) refl)
      (λ _. exact_seq (exact_expr text e) (λ x. exact_seq (exact_plain (kinds.Sign signs.CloseBracket) refl) (λ _. exact_done x) refl) refl) refl) refl

  exact_index : Exact (kinds.Sign signs.OpenBracket ∷ []) true (kinds.Sign signs.OpenBracket ∷ []) (λ i. lang.optional (grammar.bracketed text (deeper i e))) (reading.index text e)
  unfolding reading.index
  exact_index = exact_wide (exact_sees (kinds.Sign signs.OpenBracket) refl (exact_seq exact_bracketed (λ x. exact_done (Some x)) refl) (exact_done None) refl) refl

  exact_exprs : Exact operand_starts false (comma ∷ after_expr) (λ i. lang.separated (grammar.expr text (deeper i e))) (reading.exprs text e)
  unfolding reading.exprs
  exact_exprs = exact_wide (exact_seq (exact_expr text e)
      (λ first. exact_loop (reading.sees comma) (comma ∷ []) reading.pushed (first ∷ []) (λ others. first ∷ others) (fold_pushed (first ∷ [])) (tells_sees comma refl)
      (exact_seq (exact_plain comma refl) (λ _. exact_expr text e) refl) refl) refl) refl

  exact_arg_list : Exact (open_paren ∷ []) false [] (λ i. grammar.args text (deeper i e)) (reading.arg_list text e)
  unfolding grammar.args reading.arg_list
  exact_arg_list = exact_wide (exact_seq (exact_plain open_paren refl) (λ _. exact_after close_paren (reading.pure []) refl
      (exact_seq (exact_plain close_paren refl) (λ _. exact_done []) refl)
      (exact_seq exact_exprs (λ es. exact_seq (exact_plain close_paren refl) (λ _. exact_done es) refl) refl) refl) refl) refl

  exact_args : Exact (open_paren ∷ []) true (open_paren ∷ []) (λ i. lang.optional (grammar.args text (deeper i e))) (reading.args text e)
  unfolding reading.args
  exact_args = exact_wide (exact_sees open_paren refl (exact_seq exact_arg_list (λ es. exact_done (Some es)) refl) (exact_done None) refl) refl

  exact_instentry : Exact (kinds.Name ∷ []) false [] (λ i. grammar.instentry text (deeper i e)) (reading.instentry text e)
  unfolding grammar.instentry reading.instentry reading.single_after reading.element_after reading.last_args
  exact_instentry = exact_wide (exact_shared (exact_seq (exact_plain kinds.Name refl) (λ t. exact_after (kinds.Sign signs.Colon) (reading.single_after text e t) refl
      (exact_seq (exact_plain (kinds.Sign signs.Colon) refl) (λ _. exact_seq (exact_name text) (λ component. exact_before (kinds.Sign signs.Semicolon) (reading.args text e) _ (exact_seq exact_args
      (λ given. exact_seq (exact_plain (kinds.Sign signs.Semicolon) refl) (λ _. exact_done (single (bytes_of text t) component (unwrap_or given []) t.at)) refl) refl)) refl) refl)
      (exact_seq exact_bracketed (λ index. exact_before (kinds.Sign signs.Semicolon) (reading.args text e) _ (exact_seq exact_args
      (λ given. exact_seq (exact_plain (kinds.Sign signs.Semicolon) refl) (λ _. exact_done (element (bytes_of text t) index given t.at)) refl) refl)) refl)
      refl) refl)) refl

  exact_port_end : Exact (kinds.Name ∷ []) false (kinds.Sign signs.OpenBracket ∷ []) (λ i. grammar.port_end text (deeper i e)) (reading.port_end text e)
  unfolding grammar.port_end reading.port_end
  exact_port_end = exact_wide (exact_seq (exact_plain kinds.Name refl) (λ t. exact_seq exact_index (λ index. exact_done (t, index)) refl) refl) refl

  exact_bind_end : Exact (kinds.Name ∷ []) false (kinds.Sign signs.OpenBracket ∷ kinds.Sign signs.Dot ∷ []) (λ i. grammar.bind_end text (deeper i e)) (reading.bind_end text e)
  unfolding grammar.bind_end reading.bind_end
  exact_bind_end = exact_wide (exact_shared (exact_seq exact_port_end (λ first. exact_other (exact_after (kinds.Sign signs.Dot) (reading.inner_end text e first) refl
      (exact_seq (exact_plain (kinds.Sign signs.Dot) refl) (λ _. exact_seq exact_port_end
      (λ port. exact_done (first.0, record { inst = Some (bytes_of text first.0); inst_index = first.1; port = bytes_of text port.0; port_index = port.1 })) refl) refl)
      (exact_done (first.0, record { inst = None; inst_index = None; port = bytes_of text first.0; port_index = first.1 })) refl)) refl)) refl

  exact_bindentry : Exact (kinds.Name ∷ []) false [] (λ i. grammar.bindentry text (deeper i e)) (reading.bindentry text e)
  unfolding grammar.bindentry reading.bindentry reading.end_before
  exact_bindentry = exact_wide (exact_before (kinds.Sign signs.DashDash) (reading.bind_end text e) _ (exact_seq exact_bind_end (λ left. exact_seq (exact_plain (kinds.Sign signs.DashDash) refl)
      (λ _. exact_before (kinds.Sign signs.Semicolon) (reading.bind_end text e) _ (exact_seq exact_bind_end
      (λ right. exact_seq (exact_plain (kinds.Sign signs.Semicolon) refl) (λ _. exact_done (record { left = left.1; right = right.1; at = left.0.at })) refl) refl)) refl) refl)) refl

  exact_instances : Exact (kinds.Word words.Inst ∷ []) false (kinds.Name ∷ []) (λ i. grammar.instances text (deeper i e)) (reading.instances text e)
  unfolding grammar.instances reading.instances
  exact_instances = exact_wide (exact_seq (exact_plain (kinds.Word words.Inst) refl) (λ _. exact_seq (exact_seq exact_instentry (λ x. exact_done (inst x)) refl)
      (λ first. exact_loop (reading.sees kinds.Name) (kinds.Name ∷ []) reading.pushed (first ∷ []) (λ others. first ∷ others) (fold_pushed (first ∷ [])) (tells_sees kinds.Name refl)
      (exact_seq exact_instentry (λ x. exact_done (inst x)) refl) refl) refl) refl) refl

  exact_bindings : Exact (kinds.Word words.Bind ∷ []) false (kinds.Name ∷ []) (λ i. grammar.bindings text (deeper i e)) (reading.bindings text e)
  unfolding grammar.bindings reading.bindings
  exact_bindings = exact_wide (exact_seq (exact_plain (kinds.Word words.Bind) refl) (λ _. exact_seq (exact_seq exact_bindentry (λ x. exact_done (bind x)) refl)
      (λ first. exact_loop (reading.sees kinds.Name) (kinds.Name ∷ []) reading.pushed (first ∷ []) (λ others. first ∷ others) (fold_pushed (first ∷ [])) (tells_sees kinds.Name refl)
      (exact_seq exact_bindentry (λ x. exact_done (bind x)) refl) refl) refl) refl) refl

  exact_listing : Exact (kinds.Word words.Inst ∷ kinds.Word words.Bind ∷ []) false (kinds.Name ∷ []) (λ i tokens a. grammar.instances text (deeper i e) tokens a ⊎ grammar.bindings text (deeper i e) tokens a) (reading.listing text e)
  unfolding reading.listing
  exact_listing = exact_wide (exact_sees (kinds.Word words.Inst) refl exact_instances exact_bindings refl) refl

-- ---- statements

abbrev pub list_starts : List TokenKind
list_starts = kinds.Word words.Inst ∷ kinds.Word words.Bind ∷ []

abbrev pub block_starts : List TokenKind
block_starts = kinds.Word words.Forall ∷ kinds.Word words.When ∷ []

abbrev pub statement_starts : List TokenKind
statement_starts = list_starts ++ block_starts

abbrev pub open_brace : TokenKind
open_brace = kinds.Sign signs.OpenBrace

abbrev pub close_brace : TokenKind
close_brace = kinds.Sign signs.CloseBrace

exact_block_body : {L : ℕ → Lang (List Stmt)} {p : Reader (List Stmt)} → Exact statement_starts false (kinds.Name ∷ []) L p
    → Exact (close_brace ∷ statement_starts) false [] (λ i. grammar.block_body (L i)) (reading.block_body p)
unfolding grammar.block_body
exact_block_body l = exact_closed close_brace reading.appended [] (λ all. flat_map (λ ss. ss) all) (fold_appended []) refl l refl

exact_body : {L : ℕ → Lang (List Stmt)} {p : Reader (List Stmt)} → Exact statement_starts false (kinds.Name ∷ []) L p
    → Exact (open_brace ∷ statement_starts) false (kinds.Name ∷ []) (λ i. grammar.body_over (L i)) (reading.body_over p)
unfolding grammar.body_over reading.body_over
exact_body {p = p} l = exact_wide (exact_after open_brace (reading.block_body p) refl (exact_seq (exact_plain open_brace refl) (λ _. exact_block_body l) refl) l refl) refl

module _ (text : List ℕ) (e : ℕ) where
  exact_forall : {L : ℕ → Lang (List Stmt)} {p : Reader (List Stmt)} → Exact statement_starts false (kinds.Name ∷ []) L p
      → Exact (kinds.Word words.Forall ∷ []) false (kinds.Name ∷ []) (λ i. grammar.forall_over text (deeper i e) (grammar.body_over (L i))) (reading.forall_over text e p)
  unfolding grammar.forall_over reading.forall_over
  exact_forall l = exact_wide (exact_seq (exact_plain (kinds.Word words.Forall) refl) (λ t. exact_seq (exact_name text) (λ x. exact_seq (exact_plain (kinds.Sign signs.Colon) refl)
      (λ _. exact_seq (exact_expr text e) (λ low. exact_seq (exact_plain (kinds.Sign signs.DotDot) refl) (λ _. exact_seq (exact_expr text e)
      (λ high. exact_seq (exact_body l) (λ inner. exact_done (forall x low high (grammar.body_of inner) t.at)) refl) refl) refl) refl) refl) refl) refl) refl

  exact_when : {L : ℕ → Lang (List Stmt)} {p : Reader (List Stmt)} → Exact statement_starts false (kinds.Name ∷ []) L p
      → Exact (kinds.Word words.When ∷ []) false (kinds.Name ∷ []) (λ i. grammar.when_over text (deeper i e) (grammar.body_over (L i))) (reading.when_over text e p)
  unfolding grammar.when_over reading.when_over
  exact_when l = exact_wide (exact_seq (exact_plain (kinds.Word words.When) refl) (λ t. exact_seq (exact_expr text e)
      (λ test. exact_seq (exact_body l) (λ inner. exact_done (when test (grammar.body_of inner) t.at)) refl) refl) refl) refl

  exact_block : {L : ℕ → Lang (List Stmt)} {p : Reader (List Stmt)} → Exact statement_starts false (kinds.Name ∷ []) L p
      → Exact block_starts false (kinds.Name ∷ []) (λ i. grammar.block_over text (deeper i e) (L i)) (reading.block_over text e p)
  unfolding grammar.block_over reading.block_over
  exact_block l = exact_wide (exact_seq (exact_sees (kinds.Word words.Forall) refl (exact_forall l) (exact_when l) refl) (λ s. exact_done (s ∷ [])) refl) refl

  tells_block : Tells reading.sees_block block_starts
  tells_block = tells_either (kinds.Word words.Forall) (kinds.Word words.When) (tells_sees (kinds.Word words.Forall) refl) (tells_sees (kinds.Word words.When) refl)

  -- the statements with a body, of which there are none at the limit; the operands' limit is lifted with the statements'
  blocks : ℕ → Lang (List Stmt)
  blocks zero = λ tokens ss. ⊥
  blocks (suc i) = grammar.block_over text (deeper (suc i) e) (grammar.statement text (deeper (suc i) e) i)

  exact_list : Exact statement_starts false (kinds.Name ∷ []) (λ i. grammar.statement text (deeper i e) 0) (reading.listing text e)
  unfolding grammar.statement
  exact_list = exact_wide (exact_listing text e) refl

  opens_block : (t : Token) → member (class_of t.kind) block_starts ≡ true → Begun (blocks 1) (t ∷ [])
  unfolding blocks grammar.block_over grammar.forall_over grammar.when_over
  opens_block t m = elim (two_kinds t.kind (kinds.Word words.Forall) (kinds.Word words.When) m) as (λ _. Begun (blocks 1) (t ∷ [])) [
    | inl h ↦ (
        let x = (exact_name text).shape.inhabited 1 in
        let low = (exact_expr text e).shape.inhabited 1 in
        let body = (exact_body exact_list).shape.inhabited 1 in
        let colon = example_of (kinds.Sign signs.Colon) in
        let dots = example_of (kinds.Sign signs.DotDot) in
        let w3 : List Token = low.others ++ body.others in
        let w2 : List Token = dots ∷ w3 in
        let w1 : List Token = low.others ++ w2 in
        let w0 : List Token = x.others ++ colon ∷ w1 in
        record {
          others = w0;
          value = forall x.value low.value low.value (grammar.body_of body.value) t.at ∷ [];
          spelled = record {
            front = t ∷ w0;
            rest = [];
            value = forall x.value low.value low.value (grammar.body_of body.value) t.at;
            whole = sym (append-nil (t ∷ w0));
            begins = inl (record {
              front = t ∷ [];
              rest = w0;
              value = t;
              whole = refl;
              begins = (refl, of_class t.kind (kinds.Word words.Forall) refl h);
              goes_on = record {
                front = x.others;
                rest = colon ∷ w1;
                value = x.value;
                whole = refl;
                begins = x.spelled;
                goes_on = record {
                  front = colon ∷ [];
                  rest = w1;
                  value = colon;
                  whole = refl;
                  begins = (refl, refl);
                  goes_on = record {
                    front = low.others;
                    rest = w2;
                    value = low.value;
                    whole = refl;
                    begins = low.spelled;
                    goes_on = record {
                      front = dots ∷ [];
                      rest = w3;
                      value = dots;
                      whole = refl;
                      begins = (refl, refl);
                      goes_on = record {
                        front = low.others;
                        rest = body.others;
                        value = low.value;
                        whole = refl;
                        begins = low.spelled;
                        goes_on = record { front = body.others; rest = []; value = body.value; whole = sym (append-nil body.others); begins = body.spelled; goes_on = (refl, refl) };
                      };
                    };
                  };
                };
              };
            });
            goes_on = (refl, refl);
          };
        })
    | inr h ↦ (
        let test = (exact_expr text e).shape.inhabited 1 in
        let body = (exact_body exact_list).shape.inhabited 1 in
        let w0 : List Token = test.others ++ body.others in
        record {
          others = w0;
          value = when test.value (grammar.body_of body.value) t.at ∷ [];
          spelled = record {
            front = t ∷ w0;
            rest = [];
            value = when test.value (grammar.body_of body.value) t.at;
            whole = sym (append-nil (t ∷ w0));
            begins = inr (record {
              front = t ∷ [];
              rest = w0;
              value = t;
              whole = refl;
              begins = (refl, of_class t.kind (kinds.Word words.When) refl h);
              goes_on = record {
                front = test.others;
                rest = body.others;
                value = test.value;
                whole = refl;
                begins = test.spelled;
                goes_on = record { front = body.others; rest = []; value = body.value; whole = sym (append-nil body.others); begins = body.spelled; goes_on = (refl, refl) };
              };
            });
            goes_on = (refl, refl);
          };
        })
  ]

  block_starts_so : (E : ℕ) (L : Lang (List Stmt)) (w : List Token) (ss : List Stmt) → grammar.block_over text E L w ss → StartsOr block_starts false w
  unfolding grammar.block_over grammar.forall_over grammar.when_over
  block_starts_so E L w ss j = subst (StartsOr block_starts false) (sym j.whole) (starts_then block_starts j.front j.rest (elim j.begins as (λ _. StartsOr block_starts false j.front) [
    | inl k ↦ starts_two (kinds.Word words.Forall) (kinds.Word words.When) j.front (inl (token_starts (kinds.Word words.Forall) _ j.front j.value refl k))
    | inr k ↦ starts_two (kinds.Word words.Forall) (kinds.Word words.When) j.front (inr (token_starts (kinds.Word words.When) _ j.front j.value refl k))
  ]))

  blocks_start : (i : ℕ) (w : List Token) (ss : List Stmt) → blocks i w ss → StartsOr block_starts false w
  unfolding blocks
  blocks_start zero w ss n = absurd n
  blocks_start (suc i) w ss n = block_starts_so (deeper (suc i) e) (grammar.statement text (deeper (suc i) e) i) w ss n

  statement_to : (i : ℕ) (w : List Token) (ss : List Stmt) → (grammar.instances text (deeper i e) w ss ⊎ grammar.bindings text (deeper i e) w ss) ⊎ blocks i w ss → grammar.statement text (deeper i e) i w ss
  unfolding grammar.statement blocks
  statement_to zero w ss (inl l) = l
  statement_to zero w ss (inr n) = absurd n
  statement_to (suc i) w ss l = l

  statement_from : (i : ℕ) (w : List Token) (ss : List Stmt) → grammar.statement text (deeper i e) i w ss → (grammar.instances text (deeper i e) w ss ⊎ grammar.bindings text (deeper i e) w ss) ⊎ blocks i w ss
  unfolding grammar.statement blocks
  statement_from zero w ss l = inl l
  statement_from (suc i) w ss l = l

  exact_statement_limit : Exact statement_starts false (kinds.Name ∷ []) (λ i. grammar.statement text (deeper i e) i) (reading.statement text e 0)
  unfolding reading.statement blocks
  exact_statement_limit = exact_same
      (exact_wide (exact_nest reading.sees_block block_starts block_starts {M = λ i tokens a. grammar.instances text (deeper i e) tokens a ⊎ grammar.bindings text (deeper i e) tokens a} {N = blocks}
      (λ w ss n. n) blocks_start opens_block tells_block (exact_listing text e) refl) refl)
      statement_to statement_from

  exact_statement_deeper : (n : ℕ) → Exact statement_starts false (kinds.Name ∷ []) (λ i. grammar.statement text (deeper i e) (deeper i n)) (reading.statement text e n)
      → Exact statement_starts false (kinds.Name ∷ []) (λ i. grammar.statement text (deeper i e) (suc (deeper i n))) (reading.statement text e (suc n))
  unfolding reading.statement grammar.statement
  exact_statement_deeper n l = exact_wide (exact_other (exact_if reading.sees_block block_starts tells_block (exact_block l) (exact_listing text e) refl)) refl

  exact_statement : (n : ℕ) → Exact statement_starts false (kinds.Name ∷ []) (λ i. grammar.statement text (deeper i e) (deeper i n)) (reading.statement text e n)
  exact_statement zero = exact_statement_limit
  exact_statement (suc n) = exact_statement_deeper n (exact_statement n)

-- ---- components

abbrev pub item_starts : List TokenKind
item_starts = kinds.Word words.Provide ∷ kinds.Word words.Require ∷ kinds.Word words.Array ∷ statement_starts

module _ (text : List ℕ) (e : ℕ) where
  exact_port : (side : Side) (at : At) → Exact (kinds.Name ∷ []) false (kinds.Sign signs.OpenBracket ∷ kinds.Sign signs.Less ∷ []) (λ i. grammar.port text (deeper i e) side at) (reading.port text e side at)
  unfolding grammar.port reading.port
  exact_port side at = exact_wide (exact_seq (exact_name text) (λ x. exact_seq (exact_index text e) (λ size. exact_seq (exact_optional_notes text)
      (λ ns. exact_done (record { side = side; name = x; size = size; note = ns; at = at })) refl) refl) refl) refl

  exact_ports_at : (side : Side) (at : At) → Exact (kinds.Name ∷ []) false (comma ∷ kinds.Sign signs.OpenBracket ∷ kinds.Sign signs.Less ∷ []) (λ i. lang.separated (grammar.port text (deeper i e) side at)) (reading.ports_at text e side at)
  unfolding reading.ports_at
  exact_ports_at side at = exact_wide (exact_seq (exact_port side at)
      (λ first. exact_loop (reading.sees comma) (comma ∷ []) reading.pushed (first ∷ []) (λ others. first ∷ others) (fold_pushed (first ∷ [])) (tells_sees comma refl)
      (exact_seq (exact_plain comma refl) (λ _. exact_port side at) refl) refl) refl) refl

  exact_provides : Exact (kinds.Word words.Provide ∷ []) false [] (λ i. grammar.port_list text (deeper i e) sides.Provide) (reading.port_list text e sides.Provide)
  unfolding grammar.port_list reading.port_list
  exact_provides = exact_wide (exact_seq (exact_plain (kinds.Word words.Provide) refl) (λ t. exact_seq (exact_ports_at sides.Provide t.at)
      (λ ps. exact_seq (exact_plain (kinds.Sign signs.Semicolon) refl) (λ _. exact_done ps) refl) refl) refl) refl

  exact_requires : Exact (kinds.Word words.Require ∷ []) false [] (λ i. grammar.port_list text (deeper i e) sides.Require) (reading.port_list text e sides.Require)
  unfolding grammar.port_list reading.port_list
  exact_requires = exact_wide (exact_seq (exact_plain (kinds.Word words.Require) refl) (λ t. exact_seq (exact_ports_at sides.Require t.at)
      (λ ps. exact_seq (exact_plain (kinds.Sign signs.Semicolon) refl) (λ _. exact_done ps) refl) refl) refl) refl

  exact_arrayentry : Exact (kinds.Name ∷ []) false [] (λ i. grammar.arrayentry text (deeper i e)) (reading.arrayentry text e)
  unfolding grammar.arrayentry reading.arrayentry reading.last_args
  exact_arrayentry = exact_wide (exact_seq (exact_plain kinds.Name refl) (λ t. exact_seq (exact_bracketed text e) (λ size. exact_seq (exact_plain (kinds.Sign signs.Colon) refl)
      (λ _. exact_seq (exact_name text) (λ component. exact_before (kinds.Sign signs.Semicolon) (reading.args text e) _ (exact_seq (exact_args text e) (λ given. exact_seq (exact_plain (kinds.Sign signs.Semicolon) refl)
      (λ _. exact_done (record { name = bytes_of text t; size = size; component = component; args = given; at = t.at })) refl) refl)) refl) refl) refl) refl) refl

  exact_array_list : Exact (kinds.Word words.Array ∷ []) false (kinds.Name ∷ []) (λ i. grammar.array_list text (deeper i e)) (reading.array_list text e)
  unfolding grammar.array_list reading.array_list
  exact_array_list = exact_wide (exact_seq (exact_plain (kinds.Word words.Array) refl) (λ _. exact_seq exact_arrayentry
      (λ first. exact_loop (reading.sees kinds.Name) (kinds.Name ∷ []) reading.pushed (first ∷ []) (λ others. first ∷ others) (fold_pushed (first ∷ [])) (tells_sees kinds.Name refl) exact_arrayentry refl) refl) refl) refl

  exact_item : (n : ℕ) → Exact item_starts false (kinds.Name ∷ []) (λ i. grammar.item text (deeper i e) (deeper i n)) (reading.item text e n)
  unfolding grammar.item reading.item
  exact_item n = exact_wide (exact_sees (kinds.Word words.Provide) refl (exact_seq exact_provides (λ ps. exact_done (grammar.ports ps)) refl)
      (exact_sees (kinds.Word words.Require) refl (exact_seq exact_requires (λ ps. exact_done (grammar.ports ps)) refl)
      (exact_sees (kinds.Word words.Array) refl (exact_seq exact_array_list (λ ars. exact_done (grammar.arrays ars)) refl)
      (exact_seq (exact_statement text e n) (λ ss. exact_done (grammar.statements ss)) refl) refl) refl) refl) refl

  exact_parts : (n : ℕ) → Exact (close_brace ∷ item_starts) false [] (λ i. grammar.parts text (deeper i e) (deeper i n)) (reading.parts text e n)
  unfolding grammar.parts
  exact_parts n = exact_closed close_brace grammar.with_item grammar.no_parts (fold grammar.with_item grammar.no_parts) (λ _. refl) refl (exact_item n) refl

  pub exact_component : (n : ℕ) → Exact (kinds.Word words.Component ∷ []) false [] (λ i. grammar.component text (deeper i e) (deeper i n)) (reading.component text e n)
  unfolding grammar.component reading.component
  exact_component n = exact_wide (exact_seq (exact_plain (kinds.Word words.Component) refl) (λ t. exact_seq (exact_name text) (λ x. exact_seq (exact_params text)
      (λ ps. exact_seq (exact_plain open_brace refl) (λ _. exact_seq (exact_parts n) (λ parts. exact_done (grammar.component_of t x ps parts)) refl) refl) refl) refl) refl) refl
