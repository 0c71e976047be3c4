-- To be believed (definitions.md).
-- What the bytes of a description say: its tree, the graph of a component with arguments, or what refuses it.
use Rattle.std.specs.Prelude.{ℕ, ℤ, List, length, slice_get}
use Rattle.std.specs.Option.{option_map_or}
use Rattle.darwin_lexer.specs.declared.token.At.{At}
use Rattle.darwin_lexer.specs.declared.token.Token.{Token}
use Rattle.darwin_lexer.specs.declared.front.LexicalFault.{LexicalFault}
use Rattle.darwin_lexer.specs.Positions.{place_of}
use Rattle.darwin_lexer.specs.Tokens.{IsTokens, FirstFault, refusal}
use Rattle.darwin_parser.specs.Grammar.{IsUnit}
use Rattle.darwin_parser.specs.Refusals.{IsUnexpected, IsTooNested}
use Rattle.darwin_parser.specs.Tree.{Name, Tree}
use Rattle.darwin_types.specs.Faults.{HasFault, NoFault}
use Rattle.darwin_types.specs.declared.error.TypeError.{TypeError}
use Rattle.config_graph.specs.Graph.{Graph}
use Rattle.elaborator.specs.Elaboration.{HasNoFault, ElaboratesTo}
use Rattle.elaborator.specs.Faults.{Faults}
use Rattle.elaborator.specs.declared.error.ElabError.{ElabError}
use Rattle.command_answers.specs.RefusalLines.{lex_words, expected_words, too_nested_words, check_words, elaborate_words}

-- the place of a token by its number, or one past the last byte where there is no such token
abbrev pub place_at : List ℕ → List Token → ℕ → At
place_at text tokens n = option_map_or (λ t. t.at) (slice_get tokens n) (place_of text (length text))

-- the tree of a text
pub record IsTree (text : List ℕ) (tree : Tree) : Type 0 where
  pub tokens : List Token
  pub parted : IsTokens text tokens
  pub spelled : IsUnit text tokens tree

-- the tree of a text in which no name is at fault
pub record IsChecked (text : List ℕ) (tree : Tree) : Type 0 where
  pub is_tree : IsTree text tree
  pub sound : NoFault tree

-- The words of what refuses a text: the first fault of its tokens; or else a token that no unit can have there, or
-- that opens a level of nesting too many; or else a fault of its names.
pub data IsTextRefusal (text : List ℕ) : List (List ℕ) → Type 0 where
  by_lexer : (fault : LexicalFault) (at : At) → FirstFault text fault at → IsTextRefusal text (lex_words (refusal fault at))
  by_grammar :
      (tokens : List Token) (n : ℕ) → IsTokens text tokens → IsUnexpected text tokens n
      → IsTextRefusal text (expected_words (place_at text tokens n))
  by_nesting :
      (tokens : List Token) (n : ℕ) → IsTokens text tokens → IsTooNested text tokens n
      → IsTextRefusal text (too_nested_words (place_at text tokens n))
  by_names : (tree : Tree) (e : TypeError) → IsTree text tree → HasFault tree e → IsTextRefusal text (check_words e)

-- The graph of the component of a name with these arguments: no fault holds, and it is the one to which the
-- description elaborates.
pub record IsGraphOfCall (tree : Tree) (name : Name) (args : List ℤ) (graph : Graph) : Type 0 where
  pub no_fault : HasNoFault tree name args
  pub is_graph : ElaboratesTo tree name args graph

-- the same from the text of a description
pub record HasGraph (text : List ℕ) (name : Name) (args : List ℤ) (graph : Graph) : Type 0 where
  pub tree : Tree
  pub checked : IsChecked text tree
  pub is : IsGraphOfCall tree name args graph

-- The words of what refuses a description, of which the component of a name is wanted with these arguments: what
-- refuses its text, or else a fault of the elaboration.
pub data IsDescriptionRefusal (text : List ℕ) (name : Name) (args : List ℤ) : List (List ℕ) → Type 0 where
  by_text : (words : List (List ℕ)) → IsTextRefusal text words → IsDescriptionRefusal text name args words
  by_elaboration :
      (tree : Tree) (e : ElabError) → IsChecked text tree → Faults tree name args e
      → IsDescriptionRefusal text name args (elaborate_words e)
