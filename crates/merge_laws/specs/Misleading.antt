-- Worked histories and logs, each of which misleads where one guard is left out (`Guards`). Each has a source with
-- port 0 in slot 0. It leads to a sink; or to a map, with port 1, and that to a sink. Chain 0 is the history, and chain
-- n + 1 the log of slot n.
use Rattle.std.specs.Prelude.{List, [], ◌∷◌, ◌++◌, codes, None}
use Rattle.quiesce_core.specs.declared.event.Event.{Event}
use Rattle.quiesce_core.specs.declared.event.Event.TheVariants.{Begin, Call, Take, Give, End}
use Rattle.report_types.specs.declared.report.HistoryLine.{HistoryLine}
use Rattle.report_types.specs.declared.report.HistoryLine.TheVariants as to
use Rattle.change_plan_laws.specs.Systems.{map_m, sink_t, source_at}

-- a source and a sink, ready
abbrev pub pair : List HistoryLine
pair = to.Make 0 (source_at (codes "s") 1) None ∷ to.Make 1 sink_t None ∷ to.Link 0 1 0 ∷ to.Reopen 0 ∷ []

-- a source, a map and a sink, ready but for the map's port
abbrev pub triple : List HistoryLine
triple =
    to.Make 0 (source_at (codes "s") 1) None ∷ to.Make 1 (map_m 10) None ∷ to.Make 2 sink_t None ∷ to.Link 0 1 0
    ∷ to.Link 1 2 0 ∷ to.Reopen 0 ∷ []

-- the source hands one item to the sink, or asks the map for a service that calls the sink
abbrev pub handed : List (List Event)
handed = (Begin 0 1 1 ∷ End 0 1 1 ∷ []) ∷ (Take 0 1 1 ∷ Give 0 1 1 ∷ []) ∷ []

abbrev pub begun : List (List Event)
begun = (Begin 0 1 1 ∷ []) ∷ [] ∷ []

abbrev pub called : List (List Event)
called = (Begin 0 1 1 ∷ []) ∷ (Take 0 1 1 ∷ Call 1 1 11 ∷ []) ∷ [] ∷ []

-- a close that doesn't wait for the transaction that is told of its port
abbrev pub closing : List HistoryLine
closing = pair ++ to.Close 0 ∷ to.Drained 0 1 ∷ []

-- a begin that comes before a close although the port is told to be drained without it
abbrev pub beginning : List HistoryLine
beginning = pair ++ to.Close 0 ∷ to.Drained 0 0 ∷ to.Reopen 0 ∷ []

-- a call that does
abbrev pub calling : List HistoryLine
calling = triple ++ to.Reopen 1 ∷ to.Close 1 ∷ to.Drained 1 0 ∷ []

-- a begin at a port at which services call, whose closes don't wait
abbrev pub beginning_there : List HistoryLine
beginning_there = triple ++ to.Reopen 1 ∷ to.Close 1 ∷ to.Drained 1 1 ∷ []

abbrev pub begun_there : List (List Event)
begun_there = [] ∷ (Begin 1 1 5 ∷ End 1 1 1 ∷ []) ∷ (Take 1 1 5 ∷ Give 1 1 1 ∷ []) ∷ []

-- an end that comes before the close at which its root is told to be open
abbrev pub ending : List HistoryLine
ending = pair ++ to.Close 0 ∷ to.Root 0 1 ∷ []

-- an `open` line of a port that is open, before a serial is told that its root is beyond
abbrev pub opening : List HistoryLine
opening = pair ++ to.Root 0 1 ∷ to.Close 0 ∷ to.Drained 0 0 ∷ to.Reopen 0 ∷ []

-- one of a port at which services call
abbrev pub opening_there : List HistoryLine
opening_there = triple ++ to.Root 1 1 ∷ to.Drained 1 0 ∷ []
