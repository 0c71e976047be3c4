-- To be believed (definitions.md).
-- What the program does: it holds a session where the words ask for one, and else runs the command that they ask for.
use Rattle.std.specs.Prelude.{◌≡◌}
use Rattle.cfg_io.specs.declared.sink.Sink.{Ghosts as SinkWords}
use Rattle.command_apply.specs.Talks.{Bytes}
use Rattle.command_answers.specs.Answers.{no_memory_line}
use Rattle.command_answers.specs.declared.status.Status.TheVariants as status
use Rattle.command_apply.specs.Applying.{AppliesBy}
use Rattle.command_live.specs.Notes.{RunsNoted}
use Rattle.command_spec.specs.Runs.{Run, Written}
use Rattle.command_words.specs.SessionWords.{AskForNoSession, AsksToApply}
use Rattle.command_words.specs.declared.sessions.SessionWords.{SessionWords}

-- where this comes of the input, and what was noted
pub data Does {N : Type 0} (input : Bytes) (sinks : SinkWords N) (notes notes' : N) (seen : Run) : Type 0 where
  holds_session :
      (asked : SessionWords) → AsksToApply seen.words asked → AppliesBy asked input seen → notes' ≡ notes
      → Does input sinks notes notes' seen
  runs_command : AskForNoSession seen.words → RunsNoted sinks notes notes' seen → Does input sinks notes notes' seen
  -- memory runs out before the words are read
  reads_nothing :
      seen.failures' ≡ seen.failures → Written status.NoMemory no_memory_line seen → notes' ≡ notes
      → Does input sinks notes notes' seen
