-- Two short runs, worked out by hand.
use Rattle.std.specs.Prelude.{List, [], ◌∷◌, Some, None, codes}
use Rattle.config_graph.specs.declared.kind.Kind.TheVariants as kind
use Rattle.config_graph.specs.declared.node.Node.{Node}
use Rattle.quiesce_core.specs.declared.event.Event.{Event}
use Rattle.quiesce_core.specs.declared.event.Event.TheVariants.{Begin, Call, Take, Give, End, More, Ask, Hear, Reopen, Make, Link}

abbrev asker : Node
asker = record { path = codes "a"; kind = kind.Asker; arg = Some 2 }

abbrev adder : Node
adder = record { path = codes "d"; kind = kind.Adder; arg = None }

abbrev source : Node
source = record { path = codes "a"; kind = kind.Source; arg = Some 1 }

abbrev map : Node
map = record { path = codes "b"; kind = kind.Map; arg = Some 10 }

abbrev sink : Node
sink = record { path = codes "c"; kind = kind.Sink; arg = None }

-- An asker in slot 0 asks an adder in slot 1, which replies, hears a further message, and has not answered yet.
abbrev pub further_message : List Event
further_message =
    Make 0 asker None ∷ Make 1 adder None ∷ Link 0 1 0 ∷ Reopen 0
    ∷ Begin 0 1 5 ∷ Take 0 1 5 ∷ More 0 1 7 ∷ Ask 0 1 6 ∷ Hear 0 1 6 ∷ []

-- the answer, and its end
abbrev pub its_answer : List Event
its_answer = Give 0 1 8 ∷ End 0 1 8 ∷ []

-- A source in slot 0 leads to a map in slot 1, which serves it and has called a sink in slot 2 by its own port, port 1.
abbrev pub consequent_call : List Event
consequent_call =
    Make 0 source None ∷ Make 1 map None ∷ Make 2 sink None ∷ Link 1 2 0 ∷ Link 0 1 0 ∷ Reopen 0
    ∷ Begin 0 1 1 ∷ Take 0 1 1 ∷ Call 1 1 11 ∷ []
