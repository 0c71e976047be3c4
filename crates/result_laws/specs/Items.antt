-- To be believed (definitions.md).
-- What a row system computes: the items of the last sink, each by the graph that stood when its transaction began.
use Rattle.std.specs.Prelude.{◌≡◌, ◌≢◌, ℕ, ◌+◌, true, List, [], ◌∷◌, ◌++◌, length, Some, option_map, slice_get, Contains}
use Rattle.config_graph.specs.Graph.{Graph}
use Rattle.config_graph.specs.declared.kind.Kind.{Kind}
use Rattle.config_graph.specs.declared.kind.Kind.TheVariants.{Source}
use Rattle.quiesce_core.specs.Live.{IsGraphOf}
use Rattle.quiesce_core.specs.State.{Configuration, owner, slot}
use Rattle.quiesce_core.specs.declared.event.Event.TheVariants.{Begin, End}
use Rattle.quiesce_core.specs.declared.state.Slot.{Slot}
use Rattle.report_types.specs.declared.report.Last.TheVariants as last
use Rattle.report_types.specs.declared.report.NodeLog.{NodeLog}
use Rattle.report_types.specs.declared.report.Report.{Report}
use Rattle.change_spec.specs.Members.{Member, by_node, state_at}
use Rattle.result_laws.specs.Rows.{IsRow, through}

-- a port's node is a source
abbrev pub IsOfSource : Configuration → ℕ → Type 0
IsOfSource c p = option_map (λ (n : Slot). n.node.kind) (slot c (owner c p)) ≡ Some Source

-- a source's Begin with value v that was not answered 0
pub record WasAnswered (m : List Member) (v : ℕ) : Type 0 where
  pub before : List Member
  pub between : List Member
  pub after : List Member
  pub port : ℕ
  pub serial : ℕ
  pub answer : ℕ
  pub parts : m ≡ before ++ by_node (Begin port serial v) ∷ (between ++ by_node (End port serial answer) ∷ after)
  pub of_source : IsOfSource (state_at before).config port
  pub not_0 : answer ≢ 0

-- what the value became on its way, by the graph of the live nodes and links before that Begin
pub record IsItem (m : List Member) (v item : ℕ) (b : WasAnswered m v) : Type 0 where
  pub graph : Graph
  pub stands : IsGraphOf (state_at b.before).config graph
  pub row : IsRow graph
  pub is : item ≡ through graph row.maps v

-- the log of a node of this kind that is live at the end
pub record IsLogOfLive (m : List Member) (report : Report) (k : Kind) (l : NodeLog) : Type 0 where
  pub there : Contains report.logs l
  pub made : Slot
  pub at : slot (state_at m).config l.slot ≡ Some made
  pub live : made.live ≡ true
  pub kind : made.node.kind ≡ k

-- The last sink has as many items as the last source's state says, and each of them is what became of its value: there
-- is a source's Begin with that value that was not answered 0, and this holds of each such Begin.
pub record HasItems (m : List Member) (source sink : NodeLog) : Type 0 where
  pub items : List ℕ
  pub source_says : source.last ≡ last.State (length items ∷ [])
  pub sink_has : sink.last ≡ last.State items
  pub began : (j item : ℕ) → slice_get items j ≡ Some item → WasAnswered m (j + 1)
  pub each : (j item : ℕ) (b : WasAnswered m (j + 1)) → slice_get items j ≡ Some item → IsItem m (j + 1) item b
