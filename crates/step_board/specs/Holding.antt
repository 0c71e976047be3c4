-- What holds of the entries of a table after a run.
use Rattle.std.specs.Prelude.{◌≡◌, ℕ, true, false, List, length, slice_get, Some, None}
use Rattle.node_gate.specs.Core.{FitsCore}
use Rattle.quiesce_core.specs.Runs.{IsRun, done_by, state_after}
use Rattle.quiesce_core.specs.State.{State, slot}
use Rattle.quiesce_core.specs.declared.event.Event.{Event}
use Rattle.quiesce_core.specs.declared.state.Slot.{Slot}
use Rattle.component_trait.specs.Making.{argument_or_0}
use Rattle.step_board.specs.Entries.{SlotEntry, Predecessor, NodeSeen, gone, here, line_of}
use Rattle.step_board.specs.Lines.{IsPast}
use Rattle.step_board.specs.declared.handed.Handed.{Handed}

-- The node is the one that was made in slot n, and its log is all that it did in the run; before it stand the nodes
-- from which its state was handed on. Where it is live its seat fits the machine's state, and where it was removed it
-- is in no service.
pub record IsHere (es : List Event) (n : ℕ) (x : NodeSeen) : Type 0 where
  pub made : Slot
  pub there : slot (state_after es).config n ≡ Some made
  pub place : x.slot ≡ n
  pub first : x.first ≡ made.first_port
  pub kind : x.state.kind ≡ made.node.kind
  pub arg : x.state.arg ≡ argument_or_0 made.node.arg
  pub log : x.log ≡ done_by n es
  pub past : IsPast es n x.past
  pub fits : made.live ≡ true → FitsCore (state_after es) n x.known
  pub rests : made.live ≡ false → x.state.service ≡ None
  pub told : x.known.service ≡ None → x.state.service ≡ None

-- The state of the node in slot n was handed over to its heir, and its log lies in the past of the node at the end of
-- its line.
pub record IsGone (es : List Event) (nodes : List SlotEntry) (ends : List ℕ) (n : ℕ) (x : Handed) : Type 0 where
  pub heir : ℕ
  pub taker : Slot
  pub there : slot (state_after es).config heir ≡ Some taker
  pub from : taker.from ≡ Some n
  pub at : ℕ
  pub end_is : slice_get ends x.line ≡ Some at
  pub last : NodeSeen
  pub last_is : slice_get nodes at ≡ Some (here last)
  pub of_line : line_of last ≡ x.line
  pub old : Predecessor
  pub old_is : slice_get last.past x.place ≡ Some old
  pub slot_is : old.slot ≡ n

-- the log of a node lies where its entry says
pub record HasLog (nodes : List SlotEntry) (ends : List ℕ) (x : Handed) : Type 0 where
  pub at : ℕ
  pub end_is : slice_get ends x.line ≡ Some at
  pub last : NodeSeen
  pub last_is : slice_get nodes at ≡ Some (here last)
  pub old : Predecessor
  pub old_is : slice_get last.past x.place ≡ Some old

-- These events are a run, which led to the machine's state. There is one entry for each node made, and each line has
-- its end.
pub record HoldsIn (s : State) (nodes : List SlotEntry) (ends : List ℕ) (es : List Event) : Type 0 where
  pub runs : IsRun es
  pub state : s ≡ state_after es
  pub made : length nodes ≡ length (state_after es).config.slots
  pub lines : length ends ≡ length nodes
  pub nodes_here : (n : ℕ) (x : NodeSeen) → slice_get nodes n ≡ Some (here x) → IsHere es n x
  pub line_ends : (n : ℕ) (x : NodeSeen) → slice_get nodes n ≡ Some (here x) → slice_get ends (line_of x) ≡ Some n
  pub nodes_gone : (n : ℕ) (x : Handed) → slice_get nodes n ≡ Some (gone x) → IsGone es nodes ends n x
