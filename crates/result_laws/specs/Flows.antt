-- To be believed (definitions.md).
-- Systems of sources, maps, buffers and sinks alone, in any wiring; and what a report tells of their items: those that
-- sources have sent, and those that buffers and sinks hold. An item counts as much as it weighs.
use Rattle.std.specs.Prelude.{◌≡◌, ℕ, ◌+◌, ◌%◌, ◌<◌, Bool, true, false, not, ◌==◌, List, [], ◌∷◌, Some, All, ⊤, if◌then◌else◌, sum_by}
use Rattle.std.specs.List.{list_any, range_with_len}
use Rattle.component_trait.specs.Making.{argument_or_0}
use Rattle.config_graph.specs.Graph.{Graph}
use Rattle.config_graph.specs.declared.TheConstants.{VALUE_LIMIT}
use Rattle.config_graph.specs.declared.kind.Kind.{Kind}
use Rattle.config_graph.specs.declared.kind.Kind.TheVariants.{Source, Map, Buffer, Sink}
use Rattle.report_types.specs.declared.report.HistoryLine.{HistoryLine}
use Rattle.report_types.specs.declared.report.HistoryLine.TheVariants as to
use Rattle.report_types.specs.declared.report.Last.{Last}
use Rattle.report_types.specs.declared.report.Last.TheVariants as last
use Rattle.report_types.specs.declared.report.NodeLog.{NodeLog}
use Rattle.report_types.specs.declared.report.Report.{Report}
use Rattle.change_spec.specs.Statements.{Statement}
use Rattle.result_laws.specs.Describing.{Describes, LinksAre, kind_at, makes}

abbrev pub is_of_flow : Kind → Bool
is_of_flow Source = true
is_of_flow Map = true
is_of_flow Buffer = true
is_of_flow Sink = true
is_of_flow _ = false

abbrev pub is_source : Kind → Bool
is_source Source = true
is_source _ = false

-- buffers and sinks hold items
abbrev pub holds_items : Kind → Bool
holds_items Buffer = true
holds_items Sink = true
holds_items _ = false

-- whether a line makes a node of another kind than these four
abbrev pub makes_another : HistoryLine → Bool
makes_another (to.Make n node from) = not (is_of_flow node.kind)
makes_another _ = false

-- each node that was made is a source, a map, a buffer or a sink
abbrev pub IsOfFlows : List HistoryLine → Type 0
IsOfFlows history = list_any makes_another history ≡ false

-- each description of the statements has such nodes alone; how they are linked is left open
abbrev pub IsFlow : Graph → Type 0
IsFlow g = (i : ℕ) (k : Kind) → kind_at g i ≡ Some k → is_of_flow k ≡ true

abbrev pub AreFlows : List Statement → Type 0
AreFlows statements = All (Describes IsFlow) statements

-- Or there are others too, and links join sources, maps, buffers and sinks with one another alone.
abbrev pub same_side : Kind → Kind → Bool
same_side from to = if is_of_flow from then is_of_flow to else not (is_of_flow to)

abbrev pub AreApart : List Statement → Type 0
AreApart statements = All (Describes (LinksAre same_side)) statements

-- Last states, weighed: the items of a buffer or sink; of a source, which sends 1, 2 and so on, those up to its count.
-- What was moved is counted where it went.
abbrev pub weight_of_items : (ℕ → ℕ) → Last → ℕ
weight_of_items weight (last.State xs) = sum_by weight xs
weight_of_items weight (last.Moved j) = 0

abbrev pub weight_of_count : (ℕ → ℕ) → Last → ℕ
weight_of_count weight (last.State (n ∷ [])) = sum_by weight (range_with_len 1 n)
weight_of_count weight _ = 0

abbrev pub held_at : (ℕ → ℕ) → List HistoryLine → NodeLog → ℕ
held_at weight history l = if list_any (makes holds_items l.slot) history then weight_of_items weight l.last else 0

abbrev pub sent_at : (ℕ → ℕ) → List HistoryLine → NodeLog → ℕ
sent_at weight history l = if list_any (makes is_source l.slot) history then weight_of_count weight l.last else 0

-- of all nodes, live or not
abbrev pub held : (ℕ → ℕ) → Report → ℕ
held weight report = sum_by (held_at weight report.history) report.logs

abbrev pub sent : (ℕ → ℕ) → Report → ℕ
sent weight report = sum_by (sent_at weight report.history) report.logs

-- a map that a line makes leaves a value its weight
abbrev pub KeepsWeight : (ℕ → ℕ) → HistoryLine → Type 0
KeepsWeight weight (to.Make n node from) = node.kind ≡ Map → (v : ℕ) → v < VALUE_LIMIT → weight ((v + argument_or_0 node.arg) % VALUE_LIMIT) ≡ weight v
KeepsWeight weight _ = ⊤

-- and none that it makes adds anything
abbrev pub AddsNothing : HistoryLine → Type 0
AddsNothing (to.Make n node from) = node.kind ≡ Map → argument_or_0 node.arg ≡ 0
AddsNothing _ = ⊤

-- each item weighs 1
abbrev pub one : ℕ → ℕ
one v = 1

-- an item of this value weighs 1, and others nothing
abbrev pub only : ℕ → ℕ → ℕ
only x v = if v == x then 1 else 0
