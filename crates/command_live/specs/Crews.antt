-- How many threads a run has beside the one that changes the system.
use Rattle.std.specs.Prelude.{◌≤◌}
use Rattle.command_live.specs.declared.running.Crew.{Crew}

-- as many as words may ask for
abbrev pub IsCrew : Crew → Type 0
IsCrew crew = (crew.workers ≤ 8) × (crew.observers ≤ 4)
