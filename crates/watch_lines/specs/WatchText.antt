-- To be believed (definitions.md).
-- The lines of observers.
use Rattle.std.specs.Prelude.{ℕ, List, [], ◌∷◌, ◌++◌, codes, decimal, flat_map}
use Rattle.std.specs.List.{enumerate_from}
use Rattle.report_writing.specs.Reports.{ended}
use Rattle.report_writing.specs.Writing.{spaced}
use Rattle.watch_lines.specs.declared.sighting.Sighting.{Sighting}

-- `seen I C K L`: the observer's number, the number of commits, and those of nodes and links
abbrev pub seen_line : ℕ → Sighting → List ℕ
seen_line observer s =
    ended (codes "seen" ++ spaced (decimal observer ∷ decimal s.commits ∷ decimal s.nodes ∷ decimal s.links ∷ []))

abbrev pub observer_text : ℕ → List Sighting → List ℕ
observer_text observer lines = flat_map (seen_line observer) lines

-- of all observers, numbered from 0
abbrev pub watch_text : List (List Sighting) → List ℕ
watch_text observers = flat_map (λ o. observer_text o.0 o.1) (enumerate_from 0 observers)
