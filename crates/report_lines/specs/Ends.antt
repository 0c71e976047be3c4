-- To be believed (definitions.md).
-- The lines behind the logs of a report.
use Rattle.std.specs.Prelude.{ℕ, if◌then◌else◌, List, [], ◌∷◌, bytes_eq, codes, Option, None}
use Rattle.report_lines.specs.Numbers.{max32, one_in}

-- `unfinished SLOT`
abbrev pub unfinished_in : List (List ℕ) → Option ℕ
unfinished_in [] = None
unfinished_in (verb ∷ rest) = if bytes_eq verb (codes "unfinished") then one_in max32 rest else None

-- `status N`, the exit status of a run
abbrev pub status_in : List (List ℕ) → Option ℕ
status_in [] = None
status_in (verb ∷ rest) = if bytes_eq verb (codes "status") then one_in 255 rest else None
