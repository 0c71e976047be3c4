-- To be believed (definitions.md).
-- What is noted, as on standard error: behind `usage` the form that is nearest to the words.
use Rattle.std.specs.Prelude.{◌≡◌, ◌<◌, ℕ, List, length, take}
use Rattle.base.specs.Count.{Rose}
use Rattle.cfg_io.specs.Sink.{with_bytes}
use Rattle.cfg_io.specs.declared.sink.Sink.{Ghosts as SinkWords}
use Rattle.command_answers.specs.declared.status.Status.{Status}
use Rattle.command_answers.specs.declared.status.Status.TheVariants as status
use Rattle.command_words.specs.HelpTexts.{hint_of}
use Rattle.command_spec.specs.Known.{all_commands}
use Rattle.command_spec.specs.Runs.{Run, Runs}

-- A text was taken; or the notes failed, and took no more than a front of it.
pub data Takes {N : Type 0} (sinks : SinkWords N) (text : List ℕ) (notes notes' : N) : Type 0 where
  takes_all :
      sinks.taken notes' ≡ with_bytes (sinks.taken notes) text → sinks.faults notes' ≡ sinks.faults notes
      → Takes sinks text notes notes'
  takes_front :
      (n : ℕ) → n < length text → sinks.taken notes' ≡ with_bytes (sinks.taken notes) (take n text)
      → Rose (sinks.faults notes) (sinks.faults notes')
      → Takes sinks text notes notes'

-- where a run of words ended so
abbrev pub IsNoted : {N : Type 0} → SinkWords N → List (List ℕ) → Status → N → N → Type 0
IsNoted sinks words status.Usage notes notes' = Takes sinks (hint_of words) notes notes'
IsNoted sinks words _ notes notes' = notes' ≡ notes

-- a run by a call that knows all commands, and what was noted
pub record RunsNoted {N : Type 0} (sinks : SinkWords N) (notes notes' : N) (r : Run) : Type 0 where
  pub runs : Runs all_commands r
  pub noted : IsNoted sinks r.words r.status notes notes'
