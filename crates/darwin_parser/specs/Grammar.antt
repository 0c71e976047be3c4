-- To be believed (definitions.md).
-- The grammar of descriptions, one definition a production: which tokens spell which tree. The numbers say how deep
-- operands and statements may nest. Chains of one level group to the left, comparisons don't chain, and a place is
-- that of the first token.
use Rattle.std.specs.Prelude.{◌≡◌, ℕ, zero, suc, List, [], ◌∷◌, ◌++◌, Option, Some, None, fold, unwrap_or}
use Rattle.std.specs.List.{flat_map}
use Rattle.darwin_lexer.specs.declared.token.At.{At}
use Rattle.darwin_lexer.specs.declared.token.Token.{Token}
use Rattle.darwin_lexer.specs.declared.token.TokenKind.{TokenKind}
use Rattle.darwin_lexer.specs.declared.token.TokenKind.TheVariants as kinds
use Rattle.darwin_lexer.specs.declared.token.Keyword.{Keyword}
use Rattle.darwin_lexer.specs.declared.token.Keyword.TheVariants as words
use Rattle.darwin_lexer.specs.declared.token.Sign.{Sign}
use Rattle.darwin_lexer.specs.declared.token.Sign.TheVariants as signs
use Rattle.darwin_lexer.specs.Tokens.{bytes_of}
use Rattle.darwin_parser.specs.declared.cursor.Level.{Level}
use Rattle.darwin_parser.specs.declared.cursor.Level.TheVariants as levels
use Rattle.darwin_parser.specs.declared.tree.Op.{Op}
use Rattle.darwin_parser.specs.declared.tree.Op.TheVariants as ops
use Rattle.darwin_parser.specs.declared.tree.Side.{Side}
use Rattle.darwin_parser.specs.declared.tree.Side.TheVariants as sides
use Rattle.darwin_parser.specs.Tree.{Name, Expr, num, var, neg, op, PortDecl, ArrayDecl, InstEntry, single, element, PortRef, BindEntry, Stmt, inst, bind, forall, when, Stmts, end, then, Component, Tree}
use Rattle.darwin_parser.specs.Language.{Lang, give, token, ◌>>=◌, ◌>>◌, ◌or◌, optional, many, some, separated}

abbrev pub word : Keyword → Lang Token
word w = token (kinds.Word w)

abbrev pub sign : Sign → Lang Token
sign s = token (kinds.Sign s)

-- "(" [ item {"," item} ] ")"
abbrev pub in_parentheses : {A : Type 0} → Lang A → Lang (List A)
in_parentheses item = do
  sign signs.OpenParen
  (do sign signs.CloseParen; give []) or (do items ← separated item; sign signs.CloseParen; give items)

-- the operation that a token of this kind stands for at a level
abbrev pub operation : Level → TokenKind → Option Op
operation levels.Or (kinds.Word words.Or) = Some ops.Or
operation levels.And (kinds.Word words.And) = Some ops.And
operation levels.Comparison (kinds.Sign signs.EqEq) = Some ops.Eq
operation levels.Comparison (kinds.Sign signs.NotEq) = Some ops.Ne
operation levels.Comparison (kinds.Sign signs.Less) = Some ops.Lt
operation levels.Comparison (kinds.Sign signs.LessEq) = Some ops.Le
operation levels.Comparison (kinds.Sign signs.Greater) = Some ops.Gt
operation levels.Comparison (kinds.Sign signs.GreaterEq) = Some ops.Ge
operation levels.Sum (kinds.Sign signs.Plus) = Some ops.Add
operation levels.Sum (kinds.Sign signs.Minus) = Some ops.Sub
operation levels.Term (kinds.Sign signs.Star) = Some ops.Mul
operation levels.Term (kinds.Sign signs.Slash) = Some ops.Div
operation levels.Term (kinds.Sign signs.Percent) = Some ops.Rem
operation _ _ = None

abbrev pub operator : Level → Lang Op
operator level = λ tokens o. (t : Token) × (tokens ≡ t ∷ []) × (operation level t.kind ≡ Some o)

abbrev pub number : Lang ℕ
number = λ tokens n. (t : Token) × (tokens ≡ t ∷ []) × (t.kind ≡ kinds.Number n)

-- ---- expressions, over what stands for an operand

-- the operation that comes after a left side, with its right side
abbrev pub with_right : Expr → Op × Expr → Expr
with_right left next = op next.0 left next.1

abbrev pub next_operand : Level → Lang Expr → Lang (Op × Expr)
next_operand level operand = do
  o ← operator level
  right ← operand
  give (o, right)

-- operand { operator operand }
abbrev pub chain : Level → Lang Expr → Lang Expr
chain level operand = do
  first ← operand
  others ← many (next_operand level operand)
  give (fold with_right first others)

-- operand [ operator operand ]
abbrev pub comparison : Lang Expr → Lang Expr
comparison operand = do
  first ← operand
  (do next ← next_operand levels.Comparison operand; give (with_right first next)) or give first

-- term = factor { ("*"|"/"|"%") factor }
-- sum = term { ("+"|"-") term }
-- cmp = sum [ ("=="|"!="|"<"|"<="|">"|">=") sum ]
-- conj = cmp { "and" cmp }
-- expr = conj { "or" conj }
unfoldable pub expr_over : Lang Expr → Lang Expr
expr_over factor = chain levels.Or (chain levels.And (comparison (chain levels.Sum (chain levels.Term factor))))

-- "(" expr ")" | "-" factor
unfoldable pub nested : Lang Expr → Lang Expr
nested inner =
    (do
      sign signs.OpenParen
      e ← expr_over inner
      sign signs.CloseParen
      give e)
    or (do
      sign signs.Minus
      e ← inner
      give (neg e))

module _ (text : List ℕ) where
  unfoldable pub name : Lang Name
  name = do
    t ← token kinds.Name
    give (bytes_of text t)

  -- note = NAME | "int" | ",", whose value is its text
  unfoldable pub note : Lang Name
  note = do
    t ← token kinds.Name or word words.Int or sign signs.Comma
    give (bytes_of text t)

  -- "<" note { note } ">"
  unfoldable pub notes : Lang (List Name)
  notes = do
    sign signs.Less
    first ← note
    others ← many note
    sign signs.Greater
    give (first ∷ others)

  -- param = "int" NAME
  unfoldable pub param : Lang Name
  param = do
    word words.Int
    name

  -- [ "(" [ param {"," param} ] ")" ]
  unfoldable pub params : Lang (List Name)
  params = in_parentheses param or give []

  -- NUMBER | NAME
  unfoldable pub simple : Lang Expr
  simple = (do n ← number; give (num n)) or (do x ← name; give (var x))

  -- factor = NUMBER | NAME | "(" expr ")" | "-" factor
  unfoldable pub factor : ℕ → Lang Expr
  factor zero = simple
  factor (suc nesting) = simple or nested (factor nesting)

  unfoldable pub expr : ℕ → Lang Expr
  expr nesting = expr_over (factor nesting)

-- ---- components, with operands nested that deep

-- a list of statements as a body
abbrev pub body_of : List Stmt → Stmts
body_of [] = end
body_of (s ∷ others) = then s (body_of others)

-- what an item adds to its component
pub data Item : Type 0 where
  ports : List PortDecl → Item
  arrays : List ArrayDecl → Item
  statements : List Stmt → Item

-- the parts of a component, in the order of the text
pub record ComponentParts : Type 0 where
  pub ports : List PortDecl
  pub arrays : List ArrayDecl
  pub body : List Stmt

abbrev pub no_parts : ComponentParts
no_parts = record { ports = []; arrays = []; body = [] }

abbrev pub with_item : ComponentParts → Item → ComponentParts
with_item parts (ports more) = record parts { ports = parts.ports ++ more }
with_item parts (arrays more) = record parts { arrays = parts.arrays ++ more }
with_item parts (statements more) = record parts { body = parts.body ++ more }

abbrev pub side_word : Side → Keyword
side_word sides.Provide = words.Provide
side_word sides.Require = words.Require

abbrev pub component_of : Token → Name → List Name → ComponentParts → Component
component_of t name params parts =
    record { name = name; at = t.at; params = params; ports = parts.ports; arrays = parts.arrays; body = body_of parts.body }

-- { statement } "}"
unfoldable pub block_body : Lang (List Stmt) → Lang (List Stmt)
block_body statement = do
  all ← many statement
  sign signs.CloseBrace
  give (flat_map (λ list. list) all)

-- body = "{" { statement } "}" | statement
unfoldable pub body_over : Lang (List Stmt) → Lang (List Stmt)
body_over statement = (sign signs.OpenBrace >> block_body statement) or statement

module _ (text : List ℕ) (operands : ℕ) where
  -- "[" expr "]"
  unfoldable pub bracketed : Lang Expr
  bracketed = do
    sign signs.OpenBracket
    e ← expr text operands
    sign signs.CloseBracket
    give e

  -- args = "(" [ expr {"," expr} ] ")"
  unfoldable pub args : Lang (List Expr)
  args = in_parentheses (expr text operands)

  -- instentry = NAME ":" NAME [ args ] ";" | NAME "[" expr "]" [ args ] ";"
  unfoldable pub instentry : Lang InstEntry
  instentry =
      (do
        t ← token kinds.Name
        sign signs.Colon
        component ← name text
        given ← optional args
        sign signs.Semicolon
        give (single (bytes_of text t) component (unwrap_or given []) t.at))
      or (do
        t ← token kinds.Name
        index ← bracketed
        given ← optional args
        sign signs.Semicolon
        give (element (bytes_of text t) index given t.at))

  -- a port, with its index where it has one
  unfoldable pub port_end : Lang (Token × Option Expr)
  port_end = do
    t ← token kinds.Name
    index ← optional bracketed
    give (t, index)

  -- an end, and the first token of it: [ NAME [ "[" expr "]" ] "." ] NAME [ "[" expr "]" ]
  unfoldable pub bind_end : Lang (Token × PortRef)
  bind_end =
      (do
        port ← port_end
        give (port.0, record { inst = None; inst_index = None; port = bytes_of text port.0; port_index = port.1 }))
      or (do
        owner ← port_end
        sign signs.Dot
        port ← port_end
        give (
          owner.0,
          record {
            inst = Some (bytes_of text owner.0);
            inst_index = owner.1;
            port = bytes_of text port.0;
            port_index = port.1;
          },
        ))

  -- bindentry = end "--" end ";"
  unfoldable pub bindentry : Lang BindEntry
  bindentry = do
    left ← bind_end
    sign signs.DashDash
    right ← bind_end
    sign signs.Semicolon
    give (record { left = left.1; right = right.1; at = left.0.at })

  -- "inst" instentry { instentry }, one statement an entry
  unfoldable pub instances : Lang (List Stmt)
  instances = do
    word words.Inst
    some (do e ← instentry; give (inst e))

  -- "bind" bindentry { bindentry }, one statement an entry
  unfoldable pub bindings : Lang (List Stmt)
  bindings = do
    word words.Bind
    some (do b ← bindentry; give (bind b))

  -- "forall" NAME ":" expr ".." expr body
  unfoldable pub forall_over : Lang (List Stmt) → Lang Stmt
  forall_over body = do
    t ← word words.Forall
    x ← name text
    sign signs.Colon
    low ← expr text operands
    sign signs.DotDot
    high ← expr text operands
    inner ← body
    give (forall x low high (body_of inner) t.at)

  -- "when" expr body
  unfoldable pub when_over : Lang (List Stmt) → Lang Stmt
  when_over body = do
    t ← word words.When
    test ← expr text operands
    inner ← body
    give (when test (body_of inner) t.at)

  -- a statement that has a body
  unfoldable pub block_over : Lang (List Stmt) → Lang (List Stmt)
  block_over statement = do
    s ← forall_over (body_over statement) or when_over (body_over statement)
    give (s ∷ [])

  -- statement = "inst" instentry { instentry } | "bind" bindentry { bindentry }
  --           | "forall" NAME ":" expr ".." expr body | "when" expr body
  unfoldable pub statement : ℕ → Lang (List Stmt)
  statement zero = instances or bindings
  statement (suc nesting) = (instances or bindings) or block_over (statement nesting)

  -- port = NAME [ "[" expr "]" ] [ "<" note { note } ">" ]
  unfoldable pub port : Side → At → Lang PortDecl
  port side at = do
    x ← name text
    size ← optional bracketed
    noted ← optional (notes text)
    give (record { side = side; name = x; size = size; note = noted; at = at })

  -- ports = ("provide" | "require") port {"," port} ";"
  unfoldable pub port_list : Side → Lang (List PortDecl)
  port_list side = do
    t ← word (side_word side)
    all ← separated (port side t.at)
    sign signs.Semicolon
    give all

  -- arrayentry = NAME "[" expr "]" ":" NAME [ args ] ";"
  unfoldable pub arrayentry : Lang ArrayDecl
  arrayentry = do
    t ← token kinds.Name
    size ← bracketed
    sign signs.Colon
    component ← name text
    given ← optional args
    sign signs.Semicolon
    give (record { name = bytes_of text t; size = size; component = component; args = given; at = t.at })

  -- arrays = "array" arrayentry { arrayentry }
  unfoldable pub array_list : Lang (List ArrayDecl)
  array_list = do
    word words.Array
    some arrayentry

  -- item = ports | arrays | statement
  unfoldable pub item : ℕ → Lang Item
  item statements_nested =
      (do all ← port_list sides.Provide; give (ports all))
      or (do all ← port_list sides.Require; give (ports all))
      or (do all ← array_list; give (arrays all))
      or (do all ← statement statements_nested; give (statements all))

  -- { item } "}"
  unfoldable pub parts : ℕ → Lang ComponentParts
  parts statements_nested = do
    items ← many (item statements_nested)
    sign signs.CloseBrace
    give (fold with_item no_parts items)

  -- component = "component" NAME [ "(" [ param {"," param} ] ")" ] "{" { item } "}"
  unfoldable pub component : ℕ → Lang Component
  component statements_nested = do
    t ← word words.Component
    x ← name text
    parameters ← params text
    sign signs.OpenBrace
    inside ← parts statements_nested
    give (component_of t x parameters inside)

-- unit = { component }, with operands in at most so many parentheses and minus signs, and statements in at most so
-- many bodies
unfoldable pub IsUnitWithin : ℕ → ℕ → List ℕ → List Token → Tree → Type 0
IsUnitWithin operands statements_nested text = many (component text operands statements_nested)

-- The tokens of a text are a unit, of this tree.
abbrev pub IsUnit : List ℕ → List Token → Tree → Type 0
IsUnit = IsUnitWithin 32 16
