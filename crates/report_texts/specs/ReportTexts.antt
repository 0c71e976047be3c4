-- To be believed (definitions.md).
-- Which texts are report texts, and of which report.
use Rattle.std.specs.Prelude.{◌≡◌, ◌<◌, ℕ, Bool, true, false, List, [], ◌∷◌, All, IfSome, length, map}
use Rattle.base.specs.Each.{Each}
use Rattle.config_graph.specs.Graph.{Graph}
use Rattle.config_graph.specs.GraphText.{graph_text}
use Rattle.config_graph.specs.Sound.{Sound}
use Rattle.config_graph.specs.declared.node.Node.{Node}
use Rattle.quiesce_core.specs.declared.event.Event.{Event}
use Rattle.report_writing.specs.Reports as reports
use Rattle.report_writing.specs.Reports.{SlotPath, ended, history_text, made_by, makes, text_by}
use Rattle.report_types.specs.declared.report.HistoryLine.{HistoryLine}
use Rattle.report_types.specs.declared.report.HistoryLine.TheVariants as history
use Rattle.report_types.specs.declared.report.NodeLog.{NodeLog}
use Rattle.report_types.specs.declared.report.Report.{Report}
use Rattle.change_script.specs.Written.{IsNumber}
use Rattle.report_lines.specs.ReportLines.{IsLast, IsLine, IsNodeEvent, lacks}
use Rattle.report_texts.specs.declared.version.Version.{Version}
use Rattle.report_texts.specs.declared.version.Version.TheVariants as versions
use Rattle.report_texts.specs.Limits.{event_keeps, is_slot, last_keeps, line_keeps}

-- one word: it isn't empty, and has no space and no line feed
abbrev pub IsWord : List ℕ → Type 0
IsWord text = (0 < length text) × (lacks 32 text ≡ true) × (lacks 10 text ≡ true)

-- A graph is shown where it is sound and the paths of its nodes are words.
pub record CanBeShown (graph : Graph) : Type 0 where
  pub sound : Sound graph
  pub paths : All (λ (node : Node). IsWord node.path) graph.nodes

-- This text shows this graph.
abbrev pub IsGraphText : List ℕ → Graph → Type 0
IsGraphText text graph = (text ≡ graph_text graph) × CanBeShown graph

-- the text of a line of the history is one line
abbrev pub IsOneLine : HistoryLine → Type 0
IsOneLine says = (text : List ℕ) × (history_text says ≡ ended text) × (lacks 10 text ≡ true)

-- what a line of the history can be
abbrev pub CanStand : Version → HistoryLine → Type 0
CanStand version (history.Show graph) = CanBeShown graph
CanStand version says = IsLine says × IsOneLine says × (line_keeps version says ≡ true)

abbrev pub is_root : HistoryLine → Bool
is_root (history.Root port serial) = true
is_root says = false

-- `pending`, or an `open` line
abbrev pub is_pending_or_root : HistoryLine → Bool
is_pending_or_root (history.Pending rounds) = true
is_pending_or_root (history.Root port serial) = true
is_pending_or_root says = false

abbrev pub ends_pending : List HistoryLine → Bool
ends_pending [] = false
ends_pending (last ∷ []) = is_pending_or_root last
ends_pending (first ∷ next ∷ more) = ends_pending (next ∷ more)

-- A line can stand behind these: nodes are made in the slots 0, 1 and on, and `open` lines stand behind `pending`, with
-- nothing but such lines between.
pub record StandsBehind (version : Version) (before : List HistoryLine) (says : HistoryLine) : Type 0 where
  pub can : CanStand version says
  pub slot : IfSome (made_by says) (λ (made : SlotPath). made.slot ≡ length (makes before))
  pub opens : is_root says ≡ true → ends_pending before ≡ true

-- what the log of a node can be
pub record IsLog (version : Version) (log : NodeLog) : Type 0 where
  pub events : All (λ (event : Event). IsNodeEvent event × (event_keeps version event ≡ true)) log.events
  pub last : IsLast log.last
  pub keeps : last_keeps version log.last ≡ true

-- A report that can be written, and that can be read again: it has one log of each node that is made, in order.
pub record IsReport (version : Version) (report : Report) : Type 0 where
  pub history : Each (StandsBehind version) report.history
  pub logs : map (λ (log : NodeLog). log.slot) report.logs ≡ map (λ (made : SlotPath). made.slot) (makes report.history)
  pub each_log : All (IsLog version) report.logs
  pub unfinished : IfSome report.unfinished (λ slot. IsNumber slot × (is_slot version slot ≡ true))
  pub status : report.status < 256

-- the version by which a text is written
abbrev pub written_by : Version → reports.Version
written_by versions.First = reports.first
written_by versions.Second = reports.second

-- This text is the text of this report, in this version.
abbrev pub IsReportText : Version → List ℕ → Report → Type 0
IsReportText version text report = (text ≡ text_by (written_by version) report) × IsReport version report
