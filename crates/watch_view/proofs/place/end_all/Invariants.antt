use Rattle.std.proofs.Common.{◌≡◌, List, length, All}
use Rattle.config_graph.specs.Graph.{Graph}
use Rattle.watch_lines.specs.Counts.{AreCountsOf}
use Rattle.watch_lines.specs.Sightings.{AreSightingsOf}
use Rattle.watch_view.proofs.place.end_all.Given as goal

abbrev pub invariant-loop : goal.invariant-loop
invariant-loop g l =
    (length l.lines.items ≡ l.counter)
    × ((graphs : List Graph) → AreCountsOf graphs l.counts → All (AreSightingsOf graphs) l.lines.items)
