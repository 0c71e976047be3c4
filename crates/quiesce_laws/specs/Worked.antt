-- Small runs on which the definitions are evaluated.
use Rattle.std.specs.Prelude.{ℕ, List, [], ◌∷◌, ◌++◌, Option, Some, None, codes}
use Rattle.config_graph.specs.declared.kind.Kind.{Kind}
use Rattle.config_graph.specs.declared.kind.Kind.TheVariants.{Source, Map, Sink, Asker, Adder}
use Rattle.config_graph.specs.declared.node.Node.{Node}
use Rattle.quiesce_core.specs.declared.event.Event.{Event}
use Rattle.quiesce_core.specs.declared.event.Event.TheVariants.{Begin, Call, Take, Give, End, More, Ask, Hear, Miss, Reopen, Make, Link}
use Rattle.quiesce_core.specs.State.{State}
use Rattle.quiesce_core.specs.Effect.{effect}
use Rattle.quiesce_core.specs.Rest.{rest}
use Rattle.quiesce_core.specs.Rules.{denial}

abbrev pub node : List ℕ → Kind → Option ℕ → Node
node path kind arg = record { path = path; kind = kind; arg = arg }

-- what is left after each of these events, from a state on
abbrev pub rests : State → List Event → List ℕ
rests s [] = []
rests s (e ∷ es) = rest (effect s e) ∷ rests (effect s e) es

-- by which rule each of these events is denied, from a state on
abbrev pub denials : State → List Event → List (Option ℕ)
denials s [] = []
denials s (e ∷ es) = denial s e ∷ denials (effect s e) es

-- a sink, and a source that is linked to it; and a transaction of theirs
abbrev pub pair : List Event
pair = Make 0 (node (codes "sink") Sink None) None ∷ Make 1 (node (codes "source") Source (Some 3)) None ∷ Link 0 0 0 ∷ Reopen 0 ∷ []

abbrev pub served : List Event
served = Take 0 1 7 ∷ Give 0 1 9 ∷ End 0 1 9 ∷ []

-- a sink, a map, and a source that is linked to the map; then the map's service has one call, which is missed
abbrev pub unlinked : List Event
unlinked =
    Make 0 (node (codes "sink") Sink None) None ∷ Make 1 (node (codes "map") Map (Some 1)) None ∷ Make 2 (node (codes "source") Source (Some 3)) None
    ∷ Link 1 1 0 ∷ Reopen 1 ∷ []

abbrev pub missed : List Event
missed = Begin 1 1 7 ∷ Take 1 1 7 ∷ Miss 0 ∷ Give 1 1 9 ∷ End 1 1 9 ∷ []

-- or the map is linked to the sink, and calls it
abbrev pub chain : List Event
chain = unlinked ++ Link 0 0 0 ∷ Reopen 0 ∷ []

abbrev pub called : List Event
called = Take 1 1 7 ∷ Call 0 1 8 ∷ Take 0 1 8 ∷ Give 0 1 9 ∷ End 0 1 9 ∷ Give 1 1 9 ∷ End 1 1 9 ∷ []

-- an adder, and an asker that is linked to it; and a transaction with an intermediate reply
abbrev pub adding : List Event
adding = Make 0 (node (codes "adder") Adder None) None ∷ Make 1 (node (codes "asker") Asker (Some 2)) None ∷ Link 0 0 0 ∷ Reopen 0 ∷ []

abbrev pub replied : List Event
replied = Begin 0 1 7 ∷ Take 0 1 7 ∷ More 0 1 1 ∷ Ask 0 1 8 ∷ Hear 0 1 8 ∷ Give 0 1 9 ∷ End 0 1 9 ∷ []
