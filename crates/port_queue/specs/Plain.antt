-- What the inboxes of one thread hold and count.
use Rattle.std.specs.Prelude.{◌≡◌, ℕ, ◌<◌, ◌≤◌, List, [], slice_get, slice_index_or, Some}
use Rattle.config_graph.specs.declared.TheConstants.{MAX_PORTS}
use Rattle.port_queue.specs.declared.TheConstants.{MAX_HINTS}
use Rattle.port_queue.specs.Inboxes.{Counts, no_counts}

pub record Box : Type 0 where
  pub held : List ℕ
  pub counts : Counts

abbrev pub empty_box : Box
empty_box = record { held = []; counts = no_counts }

-- the box of a node; one that isn't there is empty
abbrev pub box_of : List Box → ℕ → Box
box_of boxes node = slice_index_or boxes node empty_box

-- there is room for all hints, and each is a port
pub record IsWithin (held : List ℕ) (len capacity : ℕ) : Type 0 where
  pub few : len ≤ MAX_HINTS
  pub room : MAX_HINTS ≤ capacity
  pub ports : (i p : ℕ) → slice_get held i ≡ Some p → p < MAX_PORTS
