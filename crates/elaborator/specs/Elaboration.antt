-- To be believed (definitions.md).
-- What an elaboration gives where none of its faults holds: the one graph.
use Rattle.std.specs.Prelude.{◌≡◌, ℤ, List, Some, Result}
use Rattle.base.specs.Answers.{Answers}
use Rattle.darwin_parser.specs.Tree.{Name, Tree}
use Rattle.config_graph.specs.Graph.{Graph}
use Rattle.elaborator.specs.Instances.{Instance, top_instance}
use Rattle.elaborator.specs.Graph.{IsElab}
use Rattle.elaborator.specs.Faults.{Faults}
use Rattle.elaborator.specs.declared.error.ElabError.{ElabError}
use Rattle.elaborator.specs.declared.error.ElabError.TheVariants.{NoMemory}

-- the graph of the elaboration of a description, with a component of a name at the top that has arguments
pub record ElaboratesTo (tree : Tree) (name : Name) (arguments : List ℤ) (g : Graph) : Type 0 where
  pub top : Instance
  pub is_top : top_instance tree name arguments ≡ Some top
  pub is_elab : IsElab tree top g

-- no fault of it holds
abbrev pub HasNoFault : Tree → Name → List ℤ → Type 0
HasNoFault tree name arguments = (f : ElabError) → ¬ Faults tree name arguments f

-- the answer is this graph, unless memory ran out
abbrev pub IsAnswerOf : Result Graph ElabError → Graph → Type 0
IsAnswerOf answer g = Answers NoMemory (λ h. h ≡ g) (λ _. ⊥) answer
