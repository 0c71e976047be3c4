-- What is noted of a run itself, and the lines of an observer by it.
use Rattle.std.specs.Prelude.{◌≡◌, ◌==◌, ◌&&◌, ℕ, ◌+◌, ◌-◌, Bool, false, if◌then◌else◌, nat_le, nat_lt, List, [], ◌∷◌, length, slice_get, Some}
use Rattle.std.specs.Option.{option_map_or}
use Rattle.config_graph.specs.Graph.{Graph}
use Rattle.watch_lines.specs.Sightings.{IsSightingOf}
use Rattle.watch_lines.specs.declared.sighting.Sighting.{Sighting}

-- of each number of commits, from 0, the counts of its graph
pub record AreCountsOf (graphs : List Graph) (counts : List Sighting) : Type 0 where
  pub count : length counts ≡ length graphs + 1
  pub each : (number : ℕ) (s : Sighting) → slice_get counts number ≡ Some s → (s.commits ≡ number) × IsSightingOf graphs s

-- whether the same counts are noted of its number
abbrev pub is_counted : List Sighting → Sighting → Bool
is_counted counts s = option_map_or (λ c. c.nodes == s.nodes && c.links == s.links) (slice_get counts s.commits) false

-- whether it is written, where the numbers from this one on below that of all commits may be
abbrev pub is_next : List Sighting → Sighting → ℕ → Sighting → Bool
is_next counts last next s = nat_le next s.commits && nat_lt s.commits last.commits && is_counted counts s

-- what was seen, as far as it is written, and behind it the last
abbrev pub lines_from : List Sighting → Sighting → ℕ → List Sighting → List Sighting
lines_from counts last next [] = last ∷ []
lines_from counts last next (s ∷ seen) =
    if is_next counts last next s then s ∷ lines_from counts last (s.commits + 1) seen else lines_from counts last next seen

abbrev pub before_all : Sighting
before_all = record { commits = 0; nodes = 0; links = 0 }

abbrev pub lines_of : List Sighting → List Sighting → List Sighting
lines_of counts seen = lines_from counts (option_map_or (λ s. s) (slice_get counts (length counts - 1)) before_all) 0 seen
