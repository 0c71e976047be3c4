-- To be believed (definitions.md).
-- What a run of the program is, by its words: how the course of their command ended, and what was written of it.
use Rattle.std.specs.Prelude.{◌≡◌, ◌<◌, ℕ, Bool, List, [], ◌++◌, Option, Some, None, length, take}
use Rattle.cfg_io.specs.Shelf.{Files}
use Rattle.cfg_io.specs.Sink.{with_bytes}
use Rattle.cfg_io.specs.declared.shelf.Shelf.{Ghosts as ShelfWords}
use Rattle.cfg_io.specs.declared.sink.Sink.{Ghosts as SinkWords}
use Rattle.base.specs.Count.{Rose}
use Rattle.command_answers.specs.declared.status.Status.{Status}
use Rattle.command_answers.specs.declared.status.Status.TheVariants.{WriteFault}
use Rattle.command_answers.specs.Answers.{usage, no_memory, refusal_status, refusal_text}
use Rattle.command_words.specs.declared.words.Command.{Command}
use Rattle.command_spec.specs.Known.{AsksOf, HasNoForm}
use Rattle.command_spec.specs.Commands.{Shown, course_of, own_files}
use Rattle.command_spec.specs.Courses.{Course, End, came, refusal, Follows}

-- What is seen of a run from outside. What stands in two states has the name of the earlier one, and that name with a
-- stroke for the later one.
pub record Run : Type 0 where
  -- the words with which the program was called
  pub words : List (List ℕ)
  -- the files of the shelf, where it tells them
  pub files : Option Files
  -- the names at which the shelf failed
  pub failures : List (List ℕ)
  pub failures' : List (List ℕ)
  -- what the sink took, where it tells it
  pub taken : Option (List ℕ)
  pub taken' : Option (List ℕ)
  -- how often the sink failed
  pub faults : ℕ
  pub faults' : ℕ
  -- how the run ended
  pub status : Status

-- the run that these make, of a shelf and a sink as they were and as they are
abbrev pub run_of : {H K : Type 0} → ShelfWords H → SinkWords K → List (List ℕ) → H → H → K → K → Status → Run
run_of shelves sinks words shelf shelf' out out' own = record {
  words = words;
  files = shelves.files shelf;
  failures = shelves.failed shelf;
  failures' = shelves.failed shelf';
  taken = sinks.taken out;
  taken' = sinks.taken out';
  faults = sinks.faults out;
  faults' = sinks.faults out';
  status = own;
}

-- the same run where it wrote to this sink, and ended so
abbrev pub writing_to : {K : Type 0} → SinkWords K → Run → K → K → Status → Run
writing_to sinks r out out' own = record r {
  taken = sinks.taken out;
  taken' = sinks.taken out';
  faults = sinks.faults out;
  faults' = sinks.faults out';
  status = own;
}

-- A text was written, and the run ends with its status; or the sink failed, and took no more than a front of the text.
pub data Written (own : Status) (text : List ℕ) (r : Run) : Type 0 where
  whole : r.taken' ≡ with_bytes r.taken text → r.faults' ≡ r.faults → r.status ≡ own → Written own text r
  stopped :
      (n : ℕ) → n < length text → r.taken' ≡ with_bytes r.taken (take n text) → Rose r.faults r.faults' → r.status ≡ WriteFault
      → Written own text r

-- how a run ends where nothing fails, and the text that is written
abbrev pub status_of : End Shown → Status
status_of (came s) = s.own
status_of (refusal why) = refusal_status why

abbrev pub text_of : End Shown → List ℕ
text_of (came s) = s.text
text_of (refusal why) = refusal_text why

-- by the files of the shelf, or by its own where there are some: of these no fetch fails
abbrev pub FollowsOwn : Option Files → Option Files → Course Shown → List (List ℕ) → End Shown → Type 0
FollowsOwn None files course failing end = Follows files course failing end
FollowsOwn (Some own) files course failing end = (failing ≡ []) × Follows (Some own) course [] end

-- how the course of a command may end by what the files hold, where the fetches of these names failed
abbrev pub Does : Option Files → Command → List (List ℕ) → End Shown → Type 0
Does files command failing end = FollowsOwn (own_files command) files (course_of command) failing end

-- Of words, by a call that knows these commands: words of no form are refused, and those that ask for a command have its
-- course. Memory may run out as soon as they are read.
pub data DoesWords (knows : Command → Bool) (files : Option Files) (words : List (List ℕ)) : List (List ℕ) → End Shown → Type 0 where
  no_form : HasNoForm knows words → DoesWords knows files words [] (refusal usage)
  not_read : DoesWords knows files words [] (refusal no_memory)
  asked :
      (command : Command) (failing : List (List ℕ)) (end : End Shown) → AsksOf knows words command
      → Does files command failing end → DoesWords knows files words failing end

-- A course ended so, the shelf notes the fetches that failed, and what it came to was written.
pub record EndsBy (By : List (List ℕ) → End Shown → Type 0) (r : Run) : Type 0 where
  pub failing : List (List ℕ)
  pub end : End Shown
  pub by : By failing end
  pub noted : r.failures' ≡ r.failures ++ failing
  pub written : Written (status_of end) (text_of end) r

-- what a run does, by its words
abbrev pub Runs : (Command → Bool) → Run → Type 0
Runs knows r = EndsBy (DoesWords knows r.files r.words) r

-- what it does for a command
abbrev pub Answered : Command → Run → Type 0
Answered command r = EndsBy (Does r.files command) r
