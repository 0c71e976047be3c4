-- To be believed (definitions.md).
-- What events come to over a component of a description.
use Rattle.std.specs.Prelude.{ℕ, List, length}
use Rattle.config_graph.specs.Graph.{Graph}
use Rattle.quiesce_core.specs.declared.event.Event.{Event}
use Rattle.quiesce_core.specs.Runs.{Steps}
use Rattle.quiesce_core.specs.Start.{started}
use Rattle.quiesce_core.specs.State.{State}
use Rattle.change_script.specs.declared.event_files.EventFile.{EventFile}
use Rattle.quiesce_replay.specs.Replay.{AreSettled, IsDenied}
use Rattle.quiesce_replay.specs.ReplayText.{replay_text}
use Rattle.command_answers.specs.RefusalLines.{denied_line}
use Rattle.command_answers.specs.declared.status.Status.{Status}
use Rattle.command_answers.specs.declared.status.Status.TheVariants as status
use Rattle.command_spec.specs.Plans.{Starts}

-- The status and the text: the first event that is no step is denied; or all are steps, and the text is that of the
-- state to which they lead.
pub data Replays (s : State) (events : List Event) : Status → List ℕ → Type 0 where
  one_denied : (number rule : ℕ) → IsDenied s events number rule → Replays s events status.Denied (denied_line number rule)
  all_steps :
      (t : State) (settled : List ℕ) → Steps s events t → AreSettled t settled
      → Replays s events status.Ok (replay_text (length events) t settled)

-- the same from the start with the component that the file of events names
pub record HasReplay (text : List ℕ) (events_file : EventFile) (own : Status) (written : List ℕ) : Type 0 where
  pub graph : Graph
  pub starts : Starts text events_file.name events_file.args graph
  pub replays : Replays (started graph) events_file.events own written
