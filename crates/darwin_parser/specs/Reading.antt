-- How tokens are read, by descent with one token of lookahead: what each rule of the program gives, or where it stops.
use Rattle.std.specs.Prelude.{◌≡◌, ◌≢◌, ℕ, zero, suc, Bool, true, false, ◌||◌, if◌then◌else◌, nat_eq, List, [], ◌∷◌, ◌++◌, length, drop, Option, Some, None, is_some, unwrap_or, Result, Ok, Err}
use denote.Enum.Bare.{sameb}
use Rattle.darwin_lexer.specs.contracts.token.Keyword as keyword
use Rattle.darwin_lexer.specs.contracts.token.Sign as sign_type
use Rattle.darwin_lexer.specs.declared.token.At.{At}
use Rattle.darwin_lexer.specs.declared.token.Token.{Token}
use Rattle.darwin_lexer.specs.declared.token.TokenKind.{TokenKind}
use Rattle.darwin_lexer.specs.declared.token.TokenKind.TheVariants as kinds
use Rattle.darwin_lexer.specs.declared.token.Keyword.TheVariants as words
use Rattle.darwin_lexer.specs.declared.token.Sign.TheVariants as signs
use Rattle.darwin_lexer.specs.Tokens.{bytes_of}
use Rattle.darwin_parser.specs.declared.cursor.Stop.{Stop}
use Rattle.darwin_parser.specs.declared.cursor.Stop.TheVariants.{Expected, TooNested, NoMemory}
use Rattle.darwin_parser.specs.declared.cursor.Level.{Level}
use Rattle.darwin_parser.specs.declared.cursor.Level.TheVariants as levels
use Rattle.darwin_parser.specs.declared.tree.Op.{Op}
use Rattle.darwin_parser.specs.declared.tree.Side.{Side}
use Rattle.darwin_parser.specs.declared.tree.Side.TheVariants as sides
use Rattle.darwin_parser.specs.Tree.{Name, Expr, num, var, neg, PortDecl, ArrayDecl, InstEntry, single, element, PortRef, BindEntry, Stmt, inst, bind, forall, when, Component, Tree}
use Rattle.darwin_parser.specs.Grammar.{operation, with_right, body_of, Item, ports, arrays, statements, ComponentParts, no_parts, with_item, component_of, side_word}

-- ---- readers

abbrev pub Outcome : Type 0 → Type 0
Outcome A = Result (A × List Token) Stop

-- what is read at the front of a list, and what is left of it
abbrev pub Reader : Type 0 → Type 0
Reader A = List Token → Outcome A

abbrev pub and_then : {A B : Type 0} → Outcome A → (A → Reader B) → Outcome B
and_then (Ok p) f = f p.0 p.1
and_then (Err e) f = Err e

infixl 10 ◌>>=◌
abbrev pub ◌>>=◌ : {A B : Type 0} → Reader A → (A → Reader B) → Reader B
p >>= f = λ tokens. and_then (p tokens) f

infixl 10 ◌>>◌
abbrev pub ◌>>◌ : {A B : Type 0} → Reader A → Reader B → Reader B
p >> q = p >>= (λ _. q)

abbrev pub pure : {A : Type 0} → A → Reader A
pure a = λ tokens. Ok (a, tokens)

abbrev pub refuse : {A : Type 0} → Reader A
refuse = λ tokens. Err (Expected (length tokens))

abbrev pub too_nested : {A : Type 0} → Reader A
too_nested = λ tokens. Err (TooNested (length tokens))

-- ---- the next token

abbrev pub same_kind : TokenKind → TokenKind → Bool
same_kind kinds.Name kinds.Name = true
same_kind (kinds.Number n) (kinds.Number m) = nat_eq n m
same_kind (kinds.Word v) (kinds.Word w) = sameb keyword.the_type v w
same_kind (kinds.Sign s) (kinds.Sign t) = sameb sign_type.the_type s t
same_kind _ _ = false

unfoldable pub sees : TokenKind → List Token → Bool
sees kind [] = false
sees kind (t ∷ tokens) = same_kind t.kind kind

-- what is left once a token of this kind is taken, if it comes next
unfoldable pub after : TokenKind → List Token → List Token
after kind tokens = if sees kind tokens then drop 1 tokens else tokens

unfoldable pub expect : TokenKind → Reader Token
expect kind [] = refuse []
expect kind (t ∷ tokens) = if same_kind t.kind kind then Ok (t, tokens) else refuse (t ∷ tokens)

abbrev pub number_of : TokenKind → Option ℕ
number_of (kinds.Number n) = Some n
number_of _ = None

unfoldable pub sees_number : List Token → Bool
sees_number [] = false
sees_number (t ∷ tokens) = is_some (number_of t.kind)

abbrev pub value_or_refuse : {A : Type 0} → Option A → List Token → List Token → Outcome A
value_or_refuse None tokens rest = refuse tokens
value_or_refuse (Some a) tokens rest = Ok (a, rest)

unfoldable pub number : Reader ℕ
number [] = refuse []
number (t ∷ tokens) = value_or_refuse (number_of t.kind) (t ∷ tokens) tokens

unfoldable pub operator_at : Level → List Token → Option Op
operator_at level [] = None
operator_at level (t ∷ tokens) = operation level t.kind

unfoldable pub operator : Level → Reader Op
operator level tokens = value_or_refuse (operator_at level tokens) tokens (drop 1 tokens)

-- ---- choices and loops. A number bounds the turns of a loop, and each turn takes a token.

-- one rule where the next token is of this kind, which is taken, and another elsewhere
abbrev pub after_or : {A : Type 0} → TokenKind → Reader A → Reader A → Reader A
after_or kind p q = λ tokens. if sees kind tokens then p (drop 1 tokens) else q tokens

abbrev pub choose : {A : Type 0} → (List Token → Bool) → Reader A → Reader A → Reader A
choose test p q = λ tokens. if test tokens then p tokens else q tokens

unfoldable pub turns : {S A : Type 0} → (List Token → Bool) → (S → A → S) → Reader A → ℕ → S → Reader S
turns test step p zero s = pure s
turns test step p (suc n) s = choose test (p >>= (λ a. turns test step p n (step s a))) (pure s)

-- as long as the test holds
abbrev pub repeated : {S A : Type 0} → (List Token → Bool) → (S → A → S) → Reader A → S → Reader S
repeated test step p s = λ tokens. turns test step p (length tokens) s tokens

unfoldable pub turns_up_to : {S A : Type 0} → TokenKind → (S → A → S) → Reader A → ℕ → S → Reader S
turns_up_to close step p zero s = refuse
turns_up_to close step p (suc n) s = after_or close (pure s) (p >>= (λ a. turns_up_to close step p n (step s a)))

-- up to a token of this kind, which is taken
abbrev pub up_to : {S A : Type 0} → TokenKind → (S → A → S) → Reader A → S → Reader S
up_to close step p s = λ tokens. turns_up_to close step p (suc (length tokens)) s tokens

abbrev pub pushed : {A : Type 0} → List A → A → List A
pushed items a = items ++ a ∷ []

abbrev pub appended : {A : Type 0} → List A → List A → List A
appended items others = items ++ others

abbrev pub optional : {A : Type 0} → TokenKind → Reader A → Reader (Option A)
optional first p = choose (sees first) (p >>= (λ a. pure (Some a))) (pure None)

-- a rule, and after it a token of this kind
abbrev pub before : {A : Type 0} → TokenKind → Reader A → Reader A
before kind p = do
  a ← p
  expect kind
  pure a

-- one and then more where the token of this kind comes next
abbrev pub some : {A : Type 0} → TokenKind → Reader A → Reader (List A)
some first p = p >>= (λ a. repeated (sees first) pushed p (a ∷ []))

abbrev pub separated : {A : Type 0} → Reader A → Reader (List A)
separated p = p >>= (λ a. repeated (sees (kinds.Sign signs.Comma)) pushed (expect (kinds.Sign signs.Comma) >> p) (a ∷ []))

abbrev pub in_parentheses : {A : Type 0} → Reader (List A) → Reader (List A)
in_parentheses p = do
  expect (kinds.Sign signs.OpenParen)
  after_or (kinds.Sign signs.CloseParen) (pure []) (do items ← p; expect (kinds.Sign signs.CloseParen); pure items)

-- ---- expressions

abbrev pub next_operand : Level → Reader Expr → Reader (Op × Expr)
next_operand level operand = do
  o ← operator level
  right ← operand
  pure (o, right)

abbrev pub sees_operator : Level → List Token → Bool
sees_operator level tokens = is_some (operator_at level tokens)

unfoldable pub chain : Level → Reader Expr → Reader Expr
chain level operand = do
  first ← operand
  repeated (sees_operator level) with_right (next_operand level operand) first

unfoldable pub comparison : Reader Expr → Reader Expr
comparison operand = do
  first ← operand
  choose (sees_operator levels.Comparison) (do next ← next_operand levels.Comparison operand; pure (with_right first next)) (pure first)

-- what stands beside the operators of a level
unfoldable pub operand_over : Reader Expr → Level → Reader Expr
operand_over factor levels.Term = factor
operand_over factor levels.Sum = chain levels.Term factor
operand_over factor levels.Comparison = chain levels.Sum (chain levels.Term factor)
operand_over factor levels.And = comparison (chain levels.Sum (chain levels.Term factor))
operand_over factor levels.Or = chain levels.And (comparison (chain levels.Sum (chain levels.Term factor)))

unfoldable pub expr_over : Reader Expr → Reader Expr
expr_over factor = chain levels.Or (operand_over factor levels.Or)

abbrev pub sees_nested : List Token → Bool
sees_nested tokens = sees (kinds.Sign signs.OpenParen) tokens || sees (kinds.Sign signs.Minus) tokens

unfoldable pub nested_over : Reader Expr → Reader Expr
nested_over factor =
    after_or (kinds.Sign signs.Minus) (do e ← factor; pure (neg e)) (do
      expect (kinds.Sign signs.OpenParen)
      e ← expr_over factor
      expect (kinds.Sign signs.CloseParen)
      pure e)

unfoldable pub note_token : Reader Token
note_token = choose (sees kinds.Name) (expect kinds.Name)
    (choose (sees (kinds.Word words.Int)) (expect (kinds.Word words.Int)) (expect (kinds.Sign signs.Comma)))

module _ (text : List ℕ) where
  unfoldable pub name : Reader Name
  name = do
    t ← expect kinds.Name
    pure (bytes_of text t)

  unfoldable pub note : Reader Name
  note = do
    t ← note_token
    pure (bytes_of text t)

  unfoldable pub note_list : Reader (List Name)
  note_list = do
    expect (kinds.Sign signs.Less)
    first ← note
    up_to (kinds.Sign signs.Greater) pushed note (first ∷ [])

  unfoldable pub notes : Reader (Option (List Name))
  notes = optional (kinds.Sign signs.Less) note_list

  unfoldable pub param : Reader Name
  param = do
    expect (kinds.Word words.Int)
    name

  unfoldable pub param_list : Reader (List Name)
  param_list = separated param

  unfoldable pub params : Reader (List Name)
  params = choose (sees (kinds.Sign signs.OpenParen)) (in_parentheses param_list) (pure [])

  unfoldable pub simple : Reader Expr
  simple = choose sees_number (do n ← number; pure (num n)) (do x ← name; pure (var x))

  unfoldable pub factor : ℕ → Reader Expr
  factor zero = choose sees_nested too_nested simple
  factor (suc nesting) = choose sees_nested (nested_over (factor nesting)) simple

  unfoldable pub nested : ℕ → Reader Expr
  nested zero = too_nested
  nested (suc nesting) = nested_over (factor nesting)

  unfoldable pub expr : ℕ → Reader Expr
  expr nesting = expr_over (factor nesting)

-- ---- components

abbrev pub sees_block : List Token → Bool
sees_block tokens = sees (kinds.Word words.Forall) tokens || sees (kinds.Word words.When) tokens

abbrev pub block_body : Reader (List Stmt) → Reader (List Stmt)
block_body statement = up_to (kinds.Sign signs.CloseBrace) appended statement []

unfoldable pub body_over : Reader (List Stmt) → Reader (List Stmt)
body_over statement = after_or (kinds.Sign signs.OpenBrace) (block_body statement) statement

module _ (text : List ℕ) (operands : ℕ) where
  unfoldable pub bracketed : Reader Expr
  bracketed = do
    expect (kinds.Sign signs.OpenBracket)
    e ← expr text operands
    expect (kinds.Sign signs.CloseBracket)
    pure e

  unfoldable pub index : Reader (Option Expr)
  index = optional (kinds.Sign signs.OpenBracket) bracketed

  unfoldable pub exprs : Reader (List Expr)
  exprs = separated (expr text operands)

  unfoldable pub arg_list : Reader (List Expr)
  arg_list = in_parentheses exprs

  unfoldable pub args : Reader (Option (List Expr))
  args = optional (kinds.Sign signs.OpenParen) arg_list

  unfoldable pub last_args : Reader (Option (List Expr))
  last_args = before (kinds.Sign signs.Semicolon) args

  unfoldable pub single_after : Token → Reader InstEntry
  single_after t = do
    component ← name text
    given ← last_args
    pure (single (bytes_of text t) component (unwrap_or given []) t.at)

  unfoldable pub element_after : Token → Reader InstEntry
  element_after t = do
    i ← bracketed
    given ← last_args
    pure (element (bytes_of text t) i given t.at)

  unfoldable pub instentry : Reader InstEntry
  instentry = do
    t ← expect kinds.Name
    after_or (kinds.Sign signs.Colon) (single_after t) (element_after t)

  unfoldable pub port_end : Reader (Token × Option Expr)
  port_end = do
    t ← expect kinds.Name
    i ← index
    pure (t, i)

  -- after the dot
  abbrev pub inner_end : Token × Option Expr → Reader (Token × PortRef)
  inner_end first = do
    port ← port_end
    pure (first.0, record { inst = Some (bytes_of text first.0); inst_index = first.1; port = bytes_of text port.0; port_index = port.1 })

  unfoldable pub bind_end : Reader (Token × PortRef)
  bind_end = do
    first ← port_end
    after_or (kinds.Sign signs.Dot) (inner_end first)
        (pure (first.0, record { inst = None; inst_index = None; port = bytes_of text first.0; port_index = first.1 }))

  unfoldable pub end_before : TokenKind → Reader (Token × PortRef)
  end_before kind = before kind bind_end

  unfoldable pub bindentry : Reader BindEntry
  bindentry = do
    left ← end_before (kinds.Sign signs.DashDash)
    right ← end_before (kinds.Sign signs.Semicolon)
    pure (record { left = left.1; right = right.1; at = left.0.at })

  unfoldable pub instances : Reader (List Stmt)
  instances = do
    expect (kinds.Word words.Inst)
    some kinds.Name (do e ← instentry; pure (inst e))

  unfoldable pub bindings : Reader (List Stmt)
  bindings = do
    expect (kinds.Word words.Bind)
    some kinds.Name (do b ← bindentry; pure (bind b))

  unfoldable pub forall_over : Reader (List Stmt) → Reader Stmt
  forall_over statement = do
    t ← expect (kinds.Word words.Forall)
    x ← name text
    expect (kinds.Sign signs.Colon)
    low ← expr text operands
    expect (kinds.Sign signs.DotDot)
    high ← expr text operands
    inner ← body_over statement
    pure (forall x low high (body_of inner) t.at)

  unfoldable pub when_over : Reader (List Stmt) → Reader Stmt
  when_over statement = do
    t ← expect (kinds.Word words.When)
    test ← expr text operands
    inner ← body_over statement
    pure (when test (body_of inner) t.at)

  unfoldable pub block_over : Reader (List Stmt) → Reader (List Stmt)
  block_over statement = do
    s ← choose (sees (kinds.Word words.Forall)) (forall_over statement) (when_over statement)
    pure (s ∷ [])

  unfoldable pub listing : Reader (List Stmt)
  listing = choose (sees (kinds.Word words.Inst)) instances bindings

  unfoldable pub statement : ℕ → Reader (List Stmt)
  statement zero = choose sees_block too_nested listing
  statement (suc nesting) = choose sees_block (block_over (statement nesting)) listing

  unfoldable pub block : ℕ → Reader (List Stmt)
  block zero = too_nested
  block (suc nesting) = block_over (statement nesting)

  unfoldable pub port : Side → At → Reader PortDecl
  port side at = do
    x ← name text
    size ← index
    ns ← notes text
    pure (record { side = side; name = x; size = size; note = ns; at = at })

  unfoldable pub ports_at : Side → At → Reader (List PortDecl)
  ports_at side at = separated (port side at)

  unfoldable pub port_list : Side → Reader (List PortDecl)
  port_list side = do
    t ← expect (kinds.Word (side_word side))
    ps ← ports_at side t.at
    expect (kinds.Sign signs.Semicolon)
    pure ps

  unfoldable pub arrayentry : Reader ArrayDecl
  arrayentry = do
    t ← expect kinds.Name
    size ← bracketed
    expect (kinds.Sign signs.Colon)
    component ← name text
    given ← last_args
    pure (record { name = bytes_of text t; size = size; component = component; args = given; at = t.at })

  unfoldable pub array_list : Reader (List ArrayDecl)
  array_list = do
    expect (kinds.Word words.Array)
    some kinds.Name arrayentry

  unfoldable pub item : ℕ → Reader Item
  item statements_nested =
      choose (sees (kinds.Word words.Provide)) (do ps ← port_list sides.Provide; pure (ports ps))
      (choose (sees (kinds.Word words.Require)) (do ps ← port_list sides.Require; pure (ports ps))
      (choose (sees (kinds.Word words.Array)) (do ars ← array_list; pure (arrays ars))
      (do ss ← statement statements_nested; pure (statements ss))))

  abbrev pub parts : ℕ → Reader ComponentParts
  parts statements_nested = up_to (kinds.Sign signs.CloseBrace) with_item (item statements_nested) no_parts

  unfoldable pub component : ℕ → Reader Component
  component statements_nested = do
    t ← expect (kinds.Word words.Component)
    x ← name text
    ps ← params text
    expect (kinds.Sign signs.OpenBrace)
    ps' ← parts statements_nested
    pure (component_of t x ps ps')

abbrev pub at_end : {A : Type 0} → A → Reader A
at_end a [] = Ok (a, [])
at_end a (t ∷ tokens) = refuse (t ∷ tokens)

unfoldable pub unit : List ℕ → ℕ → ℕ → Reader Tree
unit text operands statements_nested = do
  components ← repeated (sees (kinds.Word words.Component)) pushed (component text operands statements_nested) []
  at_end components

-- ---- what a rule ensures: what reading gives, seen by view, unless memory runs out

abbrev pub Reads : {A B : Type 0} → (B → A) → Outcome A → Result B Stop → List Token → Type 0
Reads view outcome (Ok b) rest = outcome ≡ Ok (view b, rest)
Reads view outcome (Err e) rest = e ≢ NoMemory → outcome ≡ Err e
