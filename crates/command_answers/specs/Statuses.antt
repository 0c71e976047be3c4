-- To be believed (definitions.md).
-- The number of each status, with which the program ends.
use Rattle.std.specs.Prelude.{ℕ, Bool, true, false}
use Rattle.command_answers.specs.declared.status.Status.{Status}
use Rattle.command_answers.specs.declared.status.Status.TheVariants as status

abbrev pub status_number : Status → ℕ
status_number status.Ok = 0
status_number status.Usage = 1
status_number status.Description = 2
status_number status.Script = 3
status_number status.ReadFault = 4
status_number status.WriteFault = 5
status_number status.NoMemory = 6
status_number status.Pending = 7
status_number status.Unfinished = 8
status_number status.Denied = 9
status_number status.Unlawful = 10

-- whether a run of a script may end with the status, by its report
abbrev pub is_of_run : Status → Bool
is_of_run status.Ok = true
is_of_run status.Pending = true
is_of_run status.Unfinished = true
is_of_run _ = false
