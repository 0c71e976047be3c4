-- To be believed (definitions.md).
-- The code with which the program exits.
use Rattle.std.specs.Prelude.{◌≡◌}
use Rattle.std.specs.Process.{exit_status}
use Rattle.std.specs.declared.process.ExitCode.{ExitCode}
use Rattle.command_answers.specs.Statuses.{status_number}
use Rattle.command_answers.specs.declared.status.Status.{Status}

-- the code is the number of a status of this kind
pub record Exits (Is : Status → Type 0) (code : ExitCode) : Type 0 where
  pub own : Status
  pub is : Is own
  pub numbered : exit_status code ≡ status_number own
