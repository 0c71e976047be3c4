-- A node that is made on a board.
use Rattle.std.specs.Prelude.{ℕ, List, ◌∷◌, ◌++◌, map, length, Option}
use Rattle.config_graph.specs.declared.node.Node.{Node}
use Rattle.quiesce_core.specs.declared.event.Event.TheVariants as event
use Rattle.txn_records.specs.Entries.{config_of}
use Rattle.txn_records.specs.declared.entry.Entry.{Entry}
use Rattle.txn_records.specs.declared.entry.Entry.TheVariants.{Did}
use Rattle.change_board.specs.Sights.{Sight, sight_entry}

-- the event, in the slot that comes next, and sights that a board made of nodes that it handed over
pub record Makes {B : Type 0} (S : B → List Entry → Type 0) (old new : B) (node : Node) (from : Option ℕ) : Type 0 where
  pub sights : List Sight
  pub adds : (r : List Entry) → S old r
      → S new (r ++ Did (event.Make (length (config_of r).slots) node from) ∷ map sight_entry sights)
