-- A source that a change doesn't freeze begins nothing on one thread, in the rounds for which the change waits: so the
-- sink that it shares is free, and the rounds are enough.
use Rattle.std.specs.Prelude.{ℕ, List, [], ◌∷◌, codes, pos, Some, None}
use Rattle.config_graph.specs.Graph.{Graph}
use Rattle.config_graph.specs.declared.kind.Kind.TheVariants as kind
use Rattle.config_graph.specs.declared.node.Node.{Node}
use Rattle.quiesce_core.specs.declared.event.Event.TheVariants as event
use Rattle.report_types.specs.declared.report.HistoryLine.{HistoryLine}
use Rattle.report_types.specs.declared.report.HistoryLine.TheVariants as to
use Rattle.report_types.specs.declared.report.Last.TheVariants as last
use Rattle.report_types.specs.declared.report.NodeLog.{NodeLog}
use Rattle.report_types.specs.declared.report.Report.{Report}
use Rattle.change_spec.specs.Statements.{Statement, start, change, run}
use Rattle.change_plan_laws.specs.Systems.{leads, map_m, sink_t, source_at}

abbrev pub map_n : Node
map_n = record { path = codes "n"; kind = kind.Map; arg = Some 1 }

-- a source leads to a sink, and another to the same sink through two maps, the first of which adds k
abbrev pub lanes : ℕ → Graph
lanes k =
    record {
      nodes = source_at (codes "b") 3 ∷ map_m k ∷ map_n ∷ source_at (codes "s") 1 ∷ sink_t ∷ [];
      links = leads 0 0 4 ∷ leads 1 0 2 ∷ leads 2 0 4 ∷ leads 3 0 1 ∷ [];
    }

abbrev pub script : List Statement
script =
    start (codes "Lanes") (pos 10 ∷ []) (lanes 10) ∷ run 1 ∷ change (codes "Lanes") (pos 20 ∷ []) (lanes 20) 6 [] ∷ []

abbrev pub history : List HistoryLine
history =
    to.Start (codes "Lanes") (pos 10 ∷ []) ∷ to.Make 0 (source_at (codes "b") 3) None ∷ to.Make 1 (map_m 10) None
    ∷ to.Make 2 map_n None ∷ to.Make 3 (source_at (codes "s") 1) None ∷ to.Make 4 sink_t None ∷ to.Link 0 4 0
    ∷ to.Link 1 2 0 ∷ to.Link 2 4 0 ∷ to.Link 3 1 0 ∷ to.Reopen 0 ∷ to.Reopen 1 ∷ to.Reopen 2 ∷ to.Reopen 3 ∷ to.Commit
    ∷ to.Run 1 1 ∷ to.Change (codes "Lanes") (pos 20 ∷ []) ∷ to.Close 1 ∷ to.Close 3 ∷ to.Drained 1 1 ∷ to.Drained 3 1
    ∷ to.Unlink 1 ∷ to.Unlink 3 ∷ to.Remove 1 ∷ to.Make 5 (map_m 20) None ∷ to.Link 3 5 0 ∷ to.Link 4 2 0 ∷ to.Reopen 3
    ∷ to.Reopen 4 ∷ to.Commit ∷ to.Stop ∷ to.Close 0 ∷ to.Close 2 ∷ to.Close 3 ∷ to.Close 4 ∷ to.Drained 0 1
    ∷ to.Drained 2 1 ∷ to.Drained 3 1 ∷ to.Drained 4 0 ∷ []

abbrev pub logs : List NodeLog
logs =
    record { slot = 0; events = event.Begin 0 1 1 ∷ event.End 0 1 1 ∷ []; last = last.State (1 ∷ []) }
    ∷ record {
      slot = 1;
      events = event.Take 3 1 1 ∷ event.Call 1 1 11 ∷ event.End 1 1 1 ∷ event.Give 3 1 1 ∷ [];
      last = last.State [];
    } ∷ record {
      slot = 2;
      events = event.Take 1 1 11 ∷ event.Call 2 1 12 ∷ event.End 2 1 1 ∷ event.Give 1 1 1 ∷ [];
      last = last.State [];
    } ∷ record { slot = 3; events = event.Begin 3 1 1 ∷ event.End 3 1 1 ∷ []; last = last.State (1 ∷ []) }
    ∷ record {
      slot = 4;
      events = event.Take 0 1 1 ∷ event.Give 0 1 1 ∷ event.Take 2 1 12 ∷ event.Give 2 1 1 ∷ [];
      last = last.State (1 ∷ 12 ∷ []);
    } ∷ record { slot = 5; events = []; last = last.State [] } ∷ []

abbrev pub report : Report
report = record { history = history; logs = logs; unfinished = None; status = 0 }
