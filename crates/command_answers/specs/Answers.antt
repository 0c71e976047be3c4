-- To be believed (definitions.md).
-- Why the program refuses, with the status and the line of each refusal; and how a run and a roll end.
use Rattle.std.specs.Prelude.{◌==◌, ℕ, if◌then◌else◌, List, [], ◌∷◌, ◌++◌, codes, Option, None, Some}
use Rattle.command_answers.specs.declared.status.Status.{Status}
use Rattle.command_answers.specs.declared.status.Status.TheVariants as status
use Rattle.command_answers.specs.RefusalLines.{read_fault_line, description_line, script_line}

pub data Refusal : Type 0 where
  -- the words have none of the forms
  usage : Refusal
  -- a description is too long, or it or its use has a fault, which these words name
  description : (file : List ℕ) (fault : List (List ℕ)) → Refusal
  -- the same of a script, a file of events or a report
  script : (file : List ℕ) (fault : List (List ℕ)) → Refusal
  -- a file can't be read
  read_fault : (file : List ℕ) → Refusal
  -- memory ran out
  no_memory : Refusal

abbrev pub refusal_status : Refusal → Status
refusal_status usage = status.Usage
refusal_status (description file fault) = status.Description
refusal_status (script file fault) = status.Script
refusal_status (read_fault file) = status.ReadFault
refusal_status no_memory = status.NoMemory

-- a run ends as its report says: a change was given up, or a node wasn't done, or neither
abbrev pub run_status : ℕ → Status
run_status n = if n == 7 then status.Pending else if n == 8 then status.Unfinished else status.Ok

-- a roll ends by whether a part was given up
abbrev pub roll_status : Option ℕ → Status
roll_status None = status.Ok
roll_status (Some number) = status.Pending

abbrev pub usage_line : List ℕ
usage_line = codes "usage" ++ 10 ∷ []

abbrev pub no_memory_line : List ℕ
no_memory_line = codes "no memory" ++ 10 ∷ []

abbrev pub consistent_line : List ℕ
consistent_line = codes "consistent\n"

abbrev pub unlawful_line : List ℕ
unlawful_line = codes "unlawful\n"

abbrev pub refusal_text : Refusal → List ℕ
refusal_text usage = usage_line
refusal_text (description file fault) = description_line file fault
refusal_text (script file fault) = script_line file fault
refusal_text (read_fault file) = read_fault_line file
refusal_text no_memory = no_memory_line
