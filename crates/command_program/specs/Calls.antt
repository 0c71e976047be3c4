-- What a start or a change comes to, of the description that is used.
use Rattle.std.specs.Prelude.{◌≡◌, ℕ, ℤ, List, Option, Some}
use Rattle.change_plan.specs.declared.plan_data.Move.{Move}
use Rattle.command_spec.specs.Descriptions.{IsGraphOfCall}
use Rattle.command_spec.specs.Lines.{changes, starts, CallLeads, Progress, with_called_graph}
use Rattle.config_graph.specs.Graph.{Graph}
use Rattle.darwin_parser.specs.Tree.{Name, Tree}
use Rattle.command_program.specs.Refusals.{NamesFault}
use Rattle.change_spec.specs.Asked.{made_with_change}
use Rattle.command_program.specs.Ways.{made_with_graph}
use Rattle.change_spec.specs.declared.steps.Replacement.{Replacement}
use Rattle.change_spec.specs.declared.steps.Start.{Start}

-- the graph of a component of the description, or the words of a fault of it
pub record HasUsedGraph (used : Option Tree) (name : Name) (args : List ℤ) (g : Graph) : Type 0 where
  pub tree : Tree
  pub is_used : used ≡ Some tree
  pub is_graph : IsGraphOfCall tree name args g

pub record HasUsedFault (used : Option Tree) (name : Name) (args : List ℤ) (words : List (List ℕ)) : Type 0 where
  pub tree : Tree
  pub is_used : used ≡ Some tree
  pub at_fault : NamesFault tree name args words

-- a start leads on
pub record LeadsToStart (p : Progress) (name : Name) (args : List ℤ) (s : Start) : Type 0 where
  pub name_is : s.name ≡ name
  pub args_are : s.args ≡ args
  pub leads : CallLeads p starts name args (with_called_graph p starts name args s.graph (made_with_graph p.made s.graph))

-- and so does a change
pub record LeadsToChange (p : Progress) (name : Name) (args : List ℤ) (within : ℕ) (moves : List Move) (c : Replacement)
    : Type 0 where
  pub name_is : c.name ≡ name
  pub args_are : c.args ≡ args
  pub within_is : c.within ≡ within
  pub moves_are : c.moves ≡ moves
  pub leads : CallLeads p (changes within moves) name args
      (with_called_graph p (changes within moves) name args c.graph (made_with_change p.made c))
