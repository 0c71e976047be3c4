-- A reader between two statements: what it holds, by the lines that it has read.
use Rattle.std.specs.Prelude.{◌≡◌, ◌≤◌, ⊤, ℕ, ℤ, Bool, true, false, List, ◌∷◌, ◌++◌, filter_map, length, map, Option, None, Some}
use Rattle.std.specs.List.{list_any}
use Rattle.config_graph.specs.Graph.{Graph, IsGraph}
use Rattle.config_graph.specs.declared.TheConstants.{MAX_PORTS}
use Rattle.quiesce_core.specs.Live.{IsGraphOf}
use Rattle.quiesce_core.specs.Runs.{IsRun}
use Rattle.quiesce_core.specs.declared.event.Event.{Event}
use Rattle.change_plan_laws.specs.Committing.{made_in}
use Rattle.report_types.specs.declared.report.HistoryLine.{HistoryLine}
use Rattle.report_types.specs.declared.report.HistoryLine.TheVariants as to
use Rattle.change_spec.specs.Asked.{Above, CanChange, after_change, statement_of}
use Rattle.change_spec.specs.Follows.{IsFinishLine, IsRight, IsRunLine, IsShowLine, skip_lines}
use Rattle.change_spec.specs.Members.{event_of, is_pending}
use Rattle.change_spec.specs.Scene.{config_after}
use Rattle.change_spec.specs.declared.steps.Replacement.{Replacement}
use Rattle.change_spec.specs.declared.steps.Step.{Step}
use Rattle.change_spec.specs.declared.steps.Step.TheVariants as steps
use Rattle.change_lists.specs.Layouts.{IsLayoutOf}
use Rattle.change_lists.specs.declared.layout.Layout.{Layout}
use Rattle.merge_laws.specs.Reading.{IsCommittedSo, IsGivenUpSo}

-- while each change was committed: the graph is the one that was named last, so much was made, and the change's events
-- are a run by themselves
pub record AllCommitted (above : Above) (before : List HistoryLine) (graph : Graph) : Type 0 where
  pub named : graph ≡ above.graph
  pub made : made_in (config_after before) ≡ above.made
  pub runs : IsRun (filter_map event_of before)

-- The graph and the layout are those that the lines before leave. Behind a change that was given up they stay, and no
-- plan is looked at any more.
pub record IsBehind (above : Above) (before : List HistoryLine) (graph : Graph) (layout : Layout) (given_up : Bool) : Type 0 where
  pub gave_up : given_up ≡ list_any is_pending before
  pub committed : given_up ≡ false → AllCommitted above before graph
  pub is_graph : IsGraph graph
  pub graph_is : IsGraphOf (config_after before) graph
  pub layout_is : IsLayoutOf layout (config_after before) graph
  pub few_ports : length layout.ports.items ≤ MAX_PORTS

-- what may be asked where this stands above, and what stands above behind it
abbrev pub CanGo : Above → Step → Type 0
CanGo above (steps.Change c) = CanChange above c
CanGo above _ = ⊤

abbrev pub after_step : (above : Above) (s : Step) → CanGo above s → Above
after_step above (steps.Change c) can = after_change above c can
after_step above _ can = above

-- the lines of a step, behind which the reader stands so
abbrev pub IsReadSo : (above : Above) (s : Step) → CanGo above s → List HistoryLine → Graph → Layout → Bool → List HistoryLine → Type 0
IsReadSo above s can before graph layout given_up lines =
    IsRight before (statement_of s) lines × IsBehind (after_step above s can) (before ++ lines) graph layout given_up

-- the change that a step tries: none is tried once one was given up
abbrev pub tried : Bool → Step → Option Replacement
tried false (steps.Change c) = Some c
tried _ _ = None

-- the lines of a step that tries none
abbrev pub IsStill : Step → List HistoryLine → Type 0
IsStill (steps.Run k) lines = IsRunLine k lines
IsStill (steps.Change c) lines = lines ≡ skip_lines c.name c.args
IsStill (steps.Finish n) lines = IsFinishLine n lines
IsStill steps.Show lines = IsShowLine lines

-- the lines of a change behind its closes, of either end
abbrev pub EndsSo : Bool → ℕ → List ℕ → List Event → List HistoryLine → Type 0
EndsSo false within closed events lines = IsCommittedSo within closed events lines
EndsSo true within closed events lines = IsGivenUpSo within closed lines

-- the lines of a change with this end
pub record IsEndedSo (given_up : Bool) (name : List ℕ) (args : List ℤ) (within : ℕ) (closed : List ℕ) (events : List Event) (lines : List HistoryLine)
    : Type 0 where
  pub rest : List HistoryLine
  pub are : lines ≡ to.Change name args ∷ map to.Close closed ++ rest
  pub ends : EndsSo given_up within closed events rest
