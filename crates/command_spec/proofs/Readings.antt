-- A description has one tree at most, and isn't both refused and taken.
use Rattle.std.proofs.Common.{◌≡◌, ℕ, ℤ, List, subst}
use Rattle.darwin_lexer.proofs.TokensLaws as lexing
use Rattle.darwin_parser.proofs.UnitLaws as parsing
use Rattle.darwin_lexer.specs.declared.token.Token.{Token}
use Rattle.darwin_lexer.specs.Tokens.{IsTokens}
use Rattle.darwin_parser.specs.Grammar.{IsUnit}
use Rattle.darwin_parser.specs.Tree.{Tree}
use Rattle.config_graph.specs.Graph.{Graph}
use Rattle.darwin_types.specs.Faults.{HasFault}
use Rattle.elaborator.specs.Faults.{Faults}
use Rattle.command_spec.specs.Descriptions.{IsTree, IsChecked, HasGraph, IsTextRefusal, by_lexer, by_grammar, by_nesting, by_names, IsDescriptionRefusal, by_text, by_elaboration}

-- the tokens of a tree's text are those of each parting
tokens_are : (text : List ℕ) (tree : Tree) (tokens : List Token) (is : IsTree text tree) → IsTokens text tokens → is.tokens ≡ tokens
tokens_are text tree tokens is parted = lexing.one_parting text is.tokens tokens is.parted parted

spelled_by : (text : List ℕ) (tree : Tree) (tokens : List Token) → IsTree text tree → IsTokens text tokens → IsUnit text tokens tree
spelled_by text tree tokens is parted = subst (λ ts. IsUnit text ts tree) (tokens_are text tree tokens is parted) is.spelled

pub one_tree : (text : List ℕ) (a b : Tree) → IsTree text a → IsTree text b → a ≡ b
one_tree text a b x y = parsing.one_tree text 32 16 y.tokens a b (spelled_by text a y.tokens x y.parted) y.spelled

-- a text that has a tree without a fault of names isn't refused
pub not_refused : (text : List ℕ) (tree : Tree) (words : List (List ℕ)) → IsChecked text tree → IsTextRefusal text words → ⊥
not_refused text tree _ checked (by_lexer fault at first) =
    lexing.never_both text checked.is_tree.tokens fault at checked.is_tree.parted first
not_refused text tree _ checked (by_grammar tokens n parted unexpected) =
    parsing.not_unexpected text tokens tree n (spelled_by text tree tokens checked.is_tree parted) unexpected
not_refused text tree _ checked (by_nesting tokens n parted nested) =
    parsing.not_too_nested text tokens tree n (spelled_by text tree tokens checked.is_tree parted) nested
not_refused text tree _ checked (by_names other e is fault) =
    checked.sound e (subst (λ t. HasFault t e) (one_tree text other tree is checked.is_tree) fault)

pub never_both :
    (text name : List ℕ) (args : List ℤ) (graph : Graph) (words : List (List ℕ))
    → HasGraph text name args graph → IsDescriptionRefusal text name args words → ⊥
never_both text name args graph _ has (by_text words is) = not_refused text has.tree words has.checked is
never_both text name args graph _ has (by_elaboration tree e checked fault) =
    has.is.no_fault e (subst (λ t. Faults t name args e) (one_tree text tree has.tree checked.is_tree has.checked.is_tree) fault)
