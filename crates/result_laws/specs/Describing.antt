-- To be believed (definitions.md).
-- What the statements of a script describe, and a graph that one of them describes where it stands; which kinds links
-- join, and which nodes a line makes.
use Rattle.std.specs.Prelude.{◌≡◌, ℕ, Bool, true, false, ◌==◌, List, Option, Some, Any, IfSome, option_map, slice_get, if◌then◌else◌}
use Rattle.config_graph.specs.Cycles.{IsLinked}
use Rattle.config_graph.specs.Graph.{Graph}
use Rattle.config_graph.specs.declared.kind.Kind.{Kind}
use Rattle.config_graph.specs.declared.node.Node.{Node}
use Rattle.quiesce_core.specs.Live.{IsGraphOf}
use Rattle.report_types.specs.declared.report.HistoryLine.{HistoryLine}
use Rattle.report_types.specs.declared.report.HistoryLine.TheVariants as to
use Rattle.change_spec.specs.Members.{Member, state_at}
use Rattle.change_spec.specs.Statements.{Statement, graph_of}

-- the kind of node i of a graph
abbrev pub kind_at : Graph → ℕ → Option Kind
kind_at g i = option_map (λ (n : Node). n.kind) (slice_get g.nodes i)

-- kinds that a link of a graph joins pass a test
abbrev pub LinksAre : (Kind → Kind → Bool) → Graph → Type 0
LinksAre test g = (i r j x : ℕ) (k l : Kind) → IsLinked g i r j x → kind_at g i ≡ Some k → kind_at g j ≡ Some l → test k l ≡ true

-- the graph of a statement, where it has one, is of this shape
abbrev pub Describes : (Graph → Type 0) → Statement → Type 0
Describes P st = IfSome (graph_of st) P

-- behind these members the live nodes and their links are a graph that a statement describes
pub record StandsAsDescribed (statements : List Statement) (before : List Member) : Type 0 where
  pub graph : Graph
  pub described : Any (λ st. graph_of st ≡ Some graph) statements
  pub stands : IsGraphOf (state_at before).config graph

-- whether a line makes a node in slot n whose kind passes a test
abbrev pub makes : (Kind → Bool) → ℕ → HistoryLine → Bool
makes test n (to.Make i node from) = if i == n then test node.kind else false
makes test n _ = false
