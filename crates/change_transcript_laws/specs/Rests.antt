-- To be believed (definitions.md).
-- Rest on threads: what stands behind a place where all rested.
use Rattle.std.specs.Prelude.{◌≡◌, ℕ, false, List, Some, None, IsTrue}
use Rattle.std.specs.List.{AllByRecursion}
use Rattle.component_trait.specs.States.{NodeState}
use Rattle.change_spec.specs.Opening.{fold_of_node}
use Rattle.quiesce_laws.specs.Steps.{is_shaping}
use Rattle.txn_records.specs.Entries.{event_in}
use Rattle.txn_records.specs.declared.entry.Entry.{Entry}
use Rattle.quiesce_core.specs.Runs.{state_after}
use Rattle.quiesce_core.specs.State.{is_live}
use Rattle.quiesce_core.specs.declared.event.Event.{Event}

-- entries that are no events
abbrev pub AreQuiet : List Entry → Type 0
AreQuiet es = AllByRecursion (λ x. event_in x ≡ None) es

-- nodes' events, and gates that are turned: all but what makes, links, unlinks and removes
abbrev pub AreCalm : List Event → Type 0
AreCalm es = AllByRecursion (λ e. is_shaping e ≡ false) es

-- each live node has come to a state by events of its kind
abbrev pub HaveFolds : List Event → Type 0
HaveFolds es = (n : ℕ) → IsTrue (is_live (state_after es).config n) → (st : NodeState) × (fold_of_node es n ≡ Some st)
