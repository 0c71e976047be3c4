-- To be believed (definitions.md).
-- The transactions of a state that have not ended.
use Rattle.std.specs.Prelude.{ℕ, Bool, List, length, Option, Some, None, is_none, option_map, filter_map, if◌then◌else◌}
use Rattle.std.specs.List.{range_with_len}
use Rattle.quiesce_word.specs.declared.phase.Phase.{Phase}
use Rattle.quiesce_word.specs.declared.phase.Phase.TheVariants as phase
use Rattle.quiesce_core.specs.declared.state.Stage.{Stage}
use Rattle.quiesce_core.specs.declared.state.Stage.TheVariants as stage
use Rattle.quiesce_core.specs.declared.state.OpenTxn.{OpenTxn}
use Rattle.quiesce_core.specs.State.{State, exchange}
use Rattle.quiesce_core.specs.Rules.{is_taken}

-- how far a transaction in this phase has come; there is none at an idle port
abbrev pub stage_of : Phase → Bool → Option Stage
stage_of phase.Idle taken = None
stage_of phase.Asked taken = Some (if taken then stage.Taken else stage.Waiting)
stage_of phase.Answered taken = Some stage.Answered
stage_of phase.More taken = Some stage.Taken

-- the open transaction of a port
abbrev pub open_txn : State → ℕ → Option OpenTxn
open_txn s p =
    option_map (λ (st : Stage). record { port = p; serial = (exchange s p).serial; root = is_none (exchange s p).within; stage = st })
    (stage_of (exchange s p).phase (is_taken s p))

-- the open transactions, by port
abbrev pub open_txns : State → List OpenTxn
open_txns s = filter_map (open_txn s) (range_with_len 0 (length s.config.gates))
