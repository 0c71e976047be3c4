-- To be believed (definitions.md).
-- What is written of observers behind the report of a run.
use Rattle.std.specs.Prelude.{◌≡◌, ℕ, ◌+◌, List, [], ◌∷◌, ◌++◌, All, AllPairs, length}
use Rattle.std.specs.List.{count_by}
use Rattle.config_graph.specs.Graph.{Graph}
use Rattle.quiesce_core.specs.Live.{IsGraphOf}
use Rattle.report_types.specs.declared.report.HistoryLine.{HistoryLine}
use Rattle.report_types.specs.declared.report.HistoryLine.TheVariants as to
use Rattle.report_types.specs.declared.report.Report.{Report}
use Rattle.report_writing.specs.Reports.{report_text}
use Rattle.change_spec.specs.Members.{is_commit}
use Rattle.change_spec.specs.Scene.{config_after}
use Rattle.watch_lines.specs.Lists.{no_graph}
use Rattle.watch_lines.specs.Sightings.{CountsOf, IsBelow}
use Rattle.watch_lines.specs.WatchText.{watch_text}
use Rattle.watch_lines.specs.declared.sighting.Sighting.{Sighting}

-- which graph stands at which commit line, counted from 1: that of the live nodes and their links there. At 0 it is the
-- empty graph
pub data StandsAt (history : List HistoryLine) : ℕ → Graph → Type 0 where
  at_none : StandsAt history 0 no_graph
  at_commit : (before after : List HistoryLine) (graph : Graph) → history ≡ before ++ to.Commit ∷ after → IsGraphOf (config_after before) graph → StandsAt history (count_by is_commit before + 1) graph

-- a line tells a number of commits, and how many nodes and links the graph has that stands there
pub record IsToldOf (history : List HistoryLine) (s : Sighting) : Type 0 where
  pub graph : Graph
  pub stands : StandsAt history s.commits graph
  pub counts : CountsOf s graph

-- the lines of one observer: their numbers rise strictly, and the last is that of all commits
pub record AreToldOf (history : List HistoryLine) (lines : List Sighting) : Type 0 where
  pub each : All (IsToldOf history) lines
  pub rising : AllPairs IsBelow lines
  pub earlier : List Sighting
  pub last : Sighting
  pub ends : lines ≡ earlier ++ last ∷ []
  pub all : last.commits ≡ count_by is_commit history

-- the bytes are the text of the report, and behind it the lines of so many observers
pub record Watched (report : Report) (observers : ℕ) (bytes : List ℕ) : Type 0 where
  pub seen : List (List Sighting)
  pub one_each : length seen ≡ observers
  pub told : All (AreToldOf report.history) seen
  pub text : bytes ≡ report_text report ++ watch_text seen
