-- What contracts see of the writer and of a viewer: what each knows of the list of published graphs.
use Rattle.std.specs.Prelude.{◌≡◌, ◌≤◌, ℕ, List, [], Bool, length, Option, IfSome}
use Rattle.atomic_table.specs.declared.shared.Seat.{Seat}
use Rattle.left_right.specs.declared.board.Doing.{Doing}
use Rattle.left_right.specs.declared.part.Part.{Part}
use Rattle.left_right.specs.Sides.{view}
use Rattle.config_graph.specs.Graph.{Graph}
use Rattle.watch_view.specs.declared.seen.Seen.{Seen}
use Rattle.watch_lines.specs.Lists.{BeginsWith}

-- the writer: all graphs that it published, and whether a commit answered that there is no memory
pub record Writing : Type 0 where
  pub list : List Graph
  pub failed : Bool

-- a viewer: the list as it was at its last look, and the greatest number of commits that it read or learned
pub record Watching : Type 0 where
  pub list : List Graph
  pub seen : ℕ

-- a read: the list goes on from the one before, and the number, which is now its length, doesn't fall
pub record Reads (old new : Watching) : Type 0 where
  pub list : BeginsWith new.list old.list
  pub number : new.seen ≡ length new.list
  pub rises : old.seen ≤ new.seen

-- a viewer, where there is one, has seen and learned nothing
abbrev pub IsNew : Option Watching → Type 0
IsNew viewer = IfSome viewer (λ v. v ≡ record { list = []; seen = 0 })

-- the list that a reader or the writer knows
abbrev pub known_by : Seat (Option (Part Seen)) (Doing Seen (List Graph)) → List Graph
known_by place = view place
