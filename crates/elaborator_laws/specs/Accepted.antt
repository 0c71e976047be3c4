-- What it is that a description is accepted.
use Rattle.std.specs.Prelude.{ℤ, List}
use Rattle.config_graph.specs.Graph.{Graph}
use Rattle.darwin_parser.specs.Tree.{Name, Tree}
use Rattle.darwin_types.specs.Faults.{NoFault}
use Rattle.elaborator.specs.Elaboration.{HasNoFault, ElaboratesTo}

-- no fault stands in the description, and its elaboration, with a component of a name at the top that has arguments,
-- shows none and is this graph
pub record IsAccepted (tree : Tree) (name : Name) (arguments : List ℤ) (g : Graph) : Type 0 where
  pub no_fault : NoFault tree
  pub elaborates : HasNoFault tree name arguments
  pub graph : ElaboratesTo tree name arguments g
