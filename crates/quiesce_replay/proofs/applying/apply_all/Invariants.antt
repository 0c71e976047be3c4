-- The events so far are steps to the state.
use Rattle.std.proofs.Common.{take}
use Rattle.quiesce_core.specs.Runs.{Steps}
use Rattle.quiesce_replay.proofs.applying.apply_all.Given as goal

abbrev pub invariant-loop-index : goal.invariant-loop-index
invariant-loop-index l = Steps l.initial.core.state (take l.index l.events) l.core.state
