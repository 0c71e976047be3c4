-- What an observer notes of the list of published graphs that it saw.
use Rattle.std.specs.Prelude.{◌≡◌, ℕ, ◌-◌, ◌≤◌, Bool, true, nat_lt, List, [], ◌∷◌, ◌++◌, All, AllPairs, length, slice_get}
use Rattle.std.specs.Option.{option_map_or}
use Rattle.config_graph.specs.Graph.{Graph}
use Rattle.watch_lines.specs.Sightings.{IsBelow, IsSightingOf}
use Rattle.watch_lines.specs.declared.sighting.Sighting.{Sighting}
use Rattle.watch_view.specs.Known.{Watching}

-- what contracts see of an observer: what it knows as a viewer, and what it noted
pub record Observing : Type 0 where
  pub list : List Graph
  pub seen : ℕ
  pub noted : List Sighting

abbrev pub watching : Observing → Watching
watching o = record { list = o.list; seen = o.seen }

-- each is of this list, and their numbers rise strictly
pub record AreNoted (list : List Graph) (noted : List Sighting) : Type 0 where
  pub each : All (IsSightingOf list) noted
  pub rising : AllPairs IsBelow noted

-- what was noted last is of the whole list
abbrev pub EndAt : List Graph → List Sighting → Type 0
EndAt list noted =
    (earlier : List Sighting) × (last : Sighting) × (noted ≡ earlier ++ last ∷ []) × (last.commits ≡ length list)

-- they are of one list, of so many graphs or more, and end with the whole of it
abbrev pub AreNotedTo : ℕ → List Sighting → Type 0
AreNotedTo commits noted = (list : List Graph) × (commits ≤ length list) × AreNoted list noted × EndAt list noted

-- whether a number is above that of what was noted last
abbrev pub is_new : List Sighting → ℕ → Bool
is_new noted commits = option_map_or (λ s. nat_lt s.commits commits) (slice_get noted (length noted - 1)) true
