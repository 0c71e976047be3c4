-- A description, and the same in another order, step by step.
use Rattle.std.proofs.Common.{ℤ, List}
use Rattle.config_graph.specs.Graph.{Graph}
use Rattle.darwin_parser.specs.Tree.{Name, Tree}
use Rattle.darwin_types.specs.Faults.{NoFault}
use Rattle.elaborator.specs.Elaboration.{HasNoFault, ElaboratesTo}
use Rattle.elaborator.specs.declared.error.ElabError.TheVariants.{TwoInstances}
use Rattle.elaborator.proofs.InstanceLaws.{told-by_path}
use Rattle.elaborator_laws.specs.Accepted.{IsAccepted}
use Rattle.elaborator_laws.specs.Reordering.{SameComponent, SameDescription}
use Rattle.elaborator_laws.proofs.Reorders.{reordered-same, reordered-sym}
use Rattle.elaborator_laws.proofs.Children.{alike_trees, same_component-refl, same_component-sym}
use Rattle.elaborator_laws.proofs.Instances.{top-like}
use Rattle.elaborator_laws.proofs.Joining.{elab-like}
use Rattle.elaborator_laws.proofs.Accepting.{no_fault_back}
use Rattle.elaborator_laws.proofs.Naming.{no_fault_of_names}

pub same_description-refl : (t : Tree) → SameDescription t t
same_description-refl t = reordered-same SameComponent same_component-refl t

pub same_description-sym : (t u : Tree) → SameDescription t u → SameDescription u t
same_description-sym t u same = reordered-sym SameComponent same_component-sym t u same

pub elaborating-like : (t u : Tree) (name : Name) (arguments : List ℤ) → SameDescription t u → NoFault t → HasNoFault t name arguments → HasNoFault u name arguments
elaborating-like t u name arguments same sound lawful f = no_fault_back t u name arguments (alike_trees t u sound same) lawful f

pub graph-like :
    (t u : Tree) (name : Name) (arguments : List ℤ) (g : Graph) → SameDescription t u → NoFault t → HasNoFault t name arguments
    → ElaboratesTo t name arguments g → ElaboratesTo u name arguments g
graph-like t u name arguments g same sound lawful is =
    let trees = alike_trees t u sound same in
    let top = top-like t u name arguments is.top trees is.is_top in
    record {
      top = top.0;
      is_top = top.1;
      is_elab = elab-like t u is.top top.0 (record {
        trees = trees;
        tops = top.2;
        one_path = told-by_path t name arguments is.top is.is_top (λ path. lawful (TwoInstances path));
      }) g is.is_elab;
    }

pub accepted-like : (t u : Tree) (name : Name) (arguments : List ℤ) (g : Graph) → SameDescription t u → IsAccepted t name arguments g → IsAccepted u name arguments g
accepted-like t u name arguments g same is = record {
  no_fault = no_fault_of_names t u same is.no_fault;
  elaborates = elaborating-like t u name arguments same is.no_fault is.elaborates;
  graph = graph-like t u name arguments g same is.no_fault is.elaborates is.graph;
}
