-- What is heard of a run that is watched.
use Rattle.std.specs.Prelude.{◌≡◌, false, List, Option, IfSome}
use Rattle.config_graph.specs.Graph.{Graph}
use Rattle.watch_lines.specs.Counts.{AreCountsOf}
use Rattle.watch_lines.specs.declared.sighting.Sighting.{Sighting}
use Rattle.watch_view.specs.Known.{Writing}

-- what contracts see of a watch: what was published where there is anyone to read it, and what was noted of the run itself
pub record Hearing : Type 0 where
  pub published : Option Writing
  pub counts : List Sighting

-- these are the graphs that were published
abbrev pub ArePublished : List Graph → Option Writing → Type 0
ArePublished graphs published = IfSome published (λ w. w ≡ record { list = graphs; failed = false })

-- it heard of these graphs: they were published and noted, each in its turn
pub record HasHeard (h : Hearing) (graphs : List Graph) : Type 0 where
  pub published : ArePublished graphs h.published
  pub counted : AreCountsOf graphs h.counts
