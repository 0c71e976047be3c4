-- What becomes of events in a state: the first that is no step is denied, or all are steps to a state that the text
-- shows.
use Rattle.std.specs.Prelude.{List, length}
use Rattle.quiesce_core.specs.declared.event.Event.{Event}
use Rattle.quiesce_core.specs.Runs.{Steps}
use Rattle.quiesce_core.specs.State.{State}
use Rattle.quiesce_replay.specs.declared.replaying.Outcome.{Outcome}
use Rattle.quiesce_replay.specs.declared.replaying.Outcome.TheVariants.{Denied, Replayed}
use Rattle.quiesce_replay.specs.Replay.{IsDenied}
use Rattle.quiesce_replay.specs.ReplayText.{IsReplayText}

abbrev pub Becomes : State → List Event → Outcome → Type 0
Becomes s events (Denied d) = IsDenied s events d.number d.rule
Becomes s events (Replayed text) = (t : State) × Steps s events t × IsReplayText (length events) t text.items
