-- Small systems on which the definitions are evaluated.
use Rattle.std.specs.Prelude.{ℕ, List, [], ◌∷◌, ◌++◌, Some, None, codes}
use Rattle.config_graph.specs.Graph.{Graph}
use Rattle.config_graph.specs.declared.kind.Kind.TheVariants.{Source, Map, Sink, Teller}
use Rattle.quiesce_core.specs.declared.event.Event.TheVariants as event
use Rattle.quiesce_laws.specs.Worked.{node}
use Rattle.change_plan_laws.specs.Systems.{leads}
use Rattle.report_types.specs.declared.report.HistoryLine.TheVariants as to
use Rattle.report_types.specs.declared.report.Last.TheVariants as last
use Rattle.report_types.specs.declared.report.NodeLog.{NodeLog}
use Rattle.change_spec.specs.Members.{Member, by_node, of_history}

-- two maps between a source and a sink; the order of paths is another than that of the way
abbrev pub row_of_two : Graph
row_of_two = record {
  nodes = node (codes "a") Map (Some 10) ∷ node (codes "b") Sink None ∷ node (codes "c") Source (Some 3) ∷ node (codes "d") Map (Some 16777215) ∷ [];
  links = leads 0 0 1 ∷ leads 2 0 3 ∷ leads 3 0 0 ∷ [];
}

-- a source and a sink alone
abbrev pub row_of_none : Graph
row_of_none = record { nodes = node (codes "a") Sink None ∷ node (codes "b") Source (Some 3) ∷ []; links = leads 1 0 0 ∷ [] }

-- a map that stands aside
abbrev pub with_one_aside : Graph
with_one_aside = record { nodes = node (codes "a") Map (Some 1) ∷ node (codes "b") Sink None ∷ node (codes "c") Source (Some 3) ∷ []; links = leads 0 0 1 ∷ leads 2 0 1 ∷ [] }

-- a row, and a teller that leads to its sink
abbrev pub row_with_teller : Graph
row_with_teller = record {
  nodes = node (codes "m") Map (Some 10) ∷ node (codes "s") Source (Some 3) ∷ node (codes "t") Sink None ∷ node (codes "w") Teller (Some 1) ∷ [];
  links = leads 0 0 2 ∷ leads 1 0 0 ∷ leads 3 0 2 ∷ [];
}

-- a source, a map that adds 10, and a sink
abbrev pub row_of_one : Graph
row_of_one = record {
  nodes = node (codes "a") Source (Some 1) ∷ node (codes "b") Map (Some 10) ∷ node (codes "c") Sink None ∷ [];
  links = leads 0 0 1 ∷ leads 1 0 2 ∷ [];
}

-- it is started, and one value passes through it
abbrev pub until_begun : List Member
until_begun =
    of_history (to.Make 0 (node (codes "a") Source (Some 1)) None) ∷ of_history (to.Make 1 (node (codes "b") Map (Some 10)) None) ∷ of_history (to.Make 2 (node (codes "c") Sink None) None)
    ∷ of_history (to.Link 0 1 0) ∷ of_history (to.Link 1 2 0) ∷ of_history (to.Reopen 0) ∷ of_history (to.Reopen 1) ∷ of_history to.Commit ∷ []

abbrev pub under_way : List Member
under_way =
    by_node (event.Take 0 1 1) ∷ by_node (event.Call 1 1 11) ∷ by_node (event.Take 1 1 11) ∷ by_node (event.Give 1 1 1) ∷ by_node (event.End 1 1 1) ∷ by_node (event.Give 0 1 1) ∷ []

abbrev pub members : List Member
members = until_begun ++ by_node (event.Begin 0 1 1) ∷ (under_way ++ by_node (event.End 0 1 1) ∷ [])

-- the same in the midst of a commit, which has made a teller beside before the value sets out
abbrev pub row_beside_teller : Graph
row_beside_teller = record {
  nodes = node (codes "a") Source (Some 1) ∷ node (codes "b") Map (Some 10) ∷ node (codes "c") Sink None ∷ node (codes "w") Teller (Some 1) ∷ [];
  links = leads 0 0 1 ∷ leads 1 0 2 ∷ [];
}

abbrev pub until_amidst : List Member
until_amidst = until_begun ++ of_history (to.Make 3 (node (codes "w") Teller (Some 1)) None) ∷ []

abbrev pub members_amidst : List Member
members_amidst = until_amidst ++ by_node (event.Begin 0 1 1) ∷ (under_way ++ by_node (event.End 0 1 1) ∷ [])

abbrev pub source_log : NodeLog
source_log = record { slot = 0; events = event.Begin 0 1 1 ∷ event.End 0 1 1 ∷ []; last = last.State (1 ∷ []) }

-- the log of the sink, with this item
abbrev pub sink_log : ℕ → NodeLog
sink_log item = record { slot = 2; events = event.Take 1 1 11 ∷ event.Give 1 1 1 ∷ []; last = last.State (item ∷ []) }
