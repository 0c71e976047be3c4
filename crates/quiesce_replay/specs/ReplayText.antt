-- To be believed (definitions.md).
-- The text of a replay: how many events there were, the transactions that haven't ended, how many events can follow
-- until they have, and the settled nodes.
use Rattle.std.specs.Prelude.{◌≡◌, ◌-◌, ◌^◌, ℕ, Bool, List, [], ◌++◌, min, flat_map, codes, decimal, if◌then◌else◌}
use Rattle.std.specs.Option.{option_map_or}
use Rattle.quiesce_core.specs.declared.state.OpenTxn.{OpenTxn}
use Rattle.quiesce_core.specs.declared.state.Slot.{Slot}
use Rattle.quiesce_core.specs.declared.state.Stage.{Stage}
use Rattle.quiesce_core.specs.declared.state.Stage.TheVariants as stages
use Rattle.quiesce_core.specs.Open.{open_txns}
use Rattle.quiesce_core.specs.Rest.{rest}
use Rattle.quiesce_core.specs.State.{State, slot}
use Rattle.quiesce_replay.specs.Replay.{AreSettled}

-- `events N`
abbrev pub count_line : ℕ → List ℕ
count_line count = codes "events " ++ decimal count ++ codes "\n"

abbrev pub origin : Bool → List ℕ
origin root = if root then codes " root" else codes " call"

abbrev pub stage : Stage → List ℕ
stage stages.Waiting = codes " waiting"
stage stages.Taken = codes " taken"
stage stages.Answered = codes " answered"

-- `open PORT SERIAL root|call waiting|taken|answered`
abbrev pub open_line : OpenTxn → List ℕ
open_line t = codes "open " ++ decimal t.port ++ codes " " ++ decimal t.serial ++ origin t.root ++ stage t.stage ++ codes "\n"

-- `rest R`
abbrev pub rest_line : ℕ → List ℕ
rest_line number = codes "rest " ++ decimal number ++ codes "\n"

abbrev pub path_of : State → ℕ → List ℕ
path_of s n = option_map_or (λ (m : Slot). m.node.path) (slot s.config n) []

-- `settled PATH`
abbrev pub settled_line : State → ℕ → List ℕ
settled_line s n = codes "settled " ++ path_of s n ++ codes "\n"

abbrev pub replay_text : ℕ → State → List ℕ → List ℕ
replay_text count s nodes =
    count_line count ++ flat_map open_line (open_txns s) ++ rest_line (min (rest s) (2 ^ 128 - 1)) ++ flat_map (settled_line s) nodes

-- the text of a replay of so many events that led to a state
pub record IsReplayText (count : ℕ) (s : State) (text : List ℕ) : Type 0 where
  pub nodes : List ℕ
  pub settled : AreSettled s nodes
  pub is_text : text ≡ replay_text count s nodes
