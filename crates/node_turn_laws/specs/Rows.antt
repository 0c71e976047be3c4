-- Two small systems, on which rounds are evaluated.
use Rattle.std.specs.Prelude.{List, [], ◌∷◌, codes, fold, Some, None}
use Rattle.config_graph.specs.declared.kind.Kind.TheVariants as kind
use Rattle.config_graph.specs.declared.node.Node.{Node}
use Rattle.quiesce_core.specs.declared.event.Event.{Event}
use Rattle.quiesce_core.specs.declared.event.Event.TheVariants.{Make, Link, Reopen}
use Rattle.node_turn_laws.specs.World.{World, nowhere, with_event}

-- a source of three items leads through a map that adds ten to a sink
abbrev map_m : Node
map_m = record { path = codes "m"; kind = kind.Map; arg = Some 10 }

abbrev source_s : Node
source_s = record { path = codes "s"; kind = kind.Source; arg = Some 3 }

abbrev sink_t : Node
sink_t = record { path = codes "t"; kind = kind.Sink; arg = None }

abbrev line_started : List Event
line_started =
    Make 0 map_m None ∷ Make 1 source_s None ∷ Make 2 sink_t None ∷ Link 0 2 0 ∷ Link 1 0 0 ∷ Reopen 0 ∷ Reopen 1 ∷ []

abbrev pub line : World
line = fold with_event nowhere line_started

-- an asker asks an adder for two sums, each of which takes a further message
abbrev adder_a : Node
adder_a = record { path = codes "a"; kind = kind.Adder; arg = None }

abbrev asker_q : Node
asker_q = record { path = codes "q"; kind = kind.Asker; arg = Some 2 }

abbrev sums_started : List Event
sums_started = Make 0 adder_a None ∷ Make 1 asker_q None ∷ Link 0 0 0 ∷ Reopen 0 ∷ []

abbrev pub sums : World
sums = fold with_event nowhere sums_started
