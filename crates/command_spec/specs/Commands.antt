-- To be believed (definitions.md).
-- The course of each command.
use Rattle.std.specs.Prelude.{◌≡◌, ℕ, List, Option, Some, None}
use Rattle.cfg_io.specs.Shelf.{Files}
use Rattle.command_words.specs.BigFiles.{made_files, script_name}
use Rattle.report_types.specs.declared.report.Report.{Report}
use Rattle.report_writing.specs.Reports.{report_text}
use Rattle.change_spec.specs.Consistent.{Consistent}
use Rattle.change_spec.specs.Statements.{Statement}
use Rattle.command_answers.specs.Answers.{consistent_line, run_status, unlawful_line}
use Rattle.command_answers.specs.Summaries.{summary_text}
use Rattle.command_answers.specs.declared.status.Status.{Status}
use Rattle.command_answers.specs.declared.status.Status.TheVariants as status
use Rattle.command_words.specs.HelpTexts.{help_text, version_text}
use Rattle.command_words.specs.declared.words.Command.{Command}
use Rattle.command_words.specs.declared.words.Command.TheVariants as commands
use Rattle.command_words.specs.declared.words.Change.{Change}
use Rattle.command_words.specs.declared.words.Cut.{Cut}
use Rattle.config_graph.specs.Graph.{Graph}
use Rattle.command_spec.specs.declared.query.Query.{Query}
use Rattle.command_spec.specs.declared.query.Query.TheVariants as queries
use Rattle.command_spec.specs.Courses.{Course, ends, fetches, judges, reads, says, then_by}
use Rattle.command_spec.specs.Lines.{begun, of_lines}
use Rattle.command_spec.specs.Plans.{lines_of_change, statements_of_change}
use Rattle.command_spec.specs.Queries.{AnswersQuery, IsRefused, IsTextBy}
use Rattle.command_spec.specs.Schedules.{Schedule, IsReportBy, IsShownBy, rounds, threads}
use Rattle.command_spec.specs.Scripts.{prepares}
use Rattle.command_spec.specs.Sorts.{of_description, of_events, of_report}

-- what a command shows where it isn't stopped: how it ends, and the text that is written
pub record Shown : Type 0 where
  pub own : Status
  pub text : List ℕ

abbrev pub shown : Status → List ℕ → Shown
shown own text = record { own = own; text = text }

-- what is wanted of the description in a file
abbrev pub of_query : List ℕ → Query → Course Shown
of_query file query =
    fetches of_description file
    (λ bytes. judges Shown of_description file (IsRefused query bytes) (λ s. AnswersQuery query bytes s.own s.text) ends)

-- the change that these statements say is shown, made as it is cut
pub record ShowsChange (cut : Cut) (c : Change) (statements : List Statement) (s : Shown) : Type 0 where
  pub old : Graph
  pub new : Graph
  pub said_are : statements ≡ statements_of_change c old new
  pub is_text : IsTextBy cut c.call c.target s.own old new s.text

-- A change is followed line by line, as a script with these lines is, and shown.
abbrev pub of_change : Cut → Change → Course Shown
of_change cut c = then_by (of_lines begun (lines_of_change c)) (λ p. says (ShowsChange cut c p.statements))

-- A run of these statements ended as its report says, and the text shows the report. What must be so of the report is
-- given, and what of the bytes that show it.
pub record IsRunOf (IsReport : List Statement → Report → Type 0) (Shows : Report → List ℕ → Type 0)
    (statements : List Statement) (s : Shown) : Type 0 where
  pub report : Report
  pub is_report : IsReport statements report
  pub shows : Shows report s.text
  pub ended : s.own ≡ run_status report.status

-- the script of a name is run
abbrev pub runs_script : (List Statement → Report → Type 0) → (Report → List ℕ → Type 0) → List ℕ → Course Shown
runs_script IsReport Shows name = then_by (prepares name) (λ p. says (IsRunOf IsReport Shows p.statements))

-- by a schedule, and its report is shown as those of the schedule are
abbrev pub runs_by : Schedule → List ℕ → Course Shown
runs_by schedule = runs_script (IsReportBy schedule) (IsShownBy schedule)

-- the summary of a run of so many lanes
abbrev pub IsSummary : ℕ → Report → List ℕ → Type 0
IsSummary lanes report bytes = bytes ≡ summary_text lanes report

-- whether a report can be one of this machine for these statements
pub data IsJudged (statements : List Statement) (report : Report) : Status → List ℕ → Type 0 where
  can_be : Consistent statements report → IsJudged statements report status.Ok consistent_line
  can_not_be : ¬ Consistent statements report → IsJudged statements report status.Unlawful unlawful_line

-- the report in a file is judged by these statements
abbrev pub judging : List ℕ → List Statement → Course Shown
judging file statements = then_by (reads of_report file) (λ report. says (λ s. IsJudged statements report s.own s.text))

abbrev pub course_of : Command → Course Shown
course_of (commands.Help topic) = says (λ s. s ≡ shown status.Ok (help_text topic))
course_of commands.Version = says (λ s. s ≡ shown status.Ok version_text)
course_of (commands.Flat file call) = of_query file (queries.Graph call)
course_of (commands.Change cut change) = of_change cut change
course_of (commands.Replay file name) = then_by (reads of_events name) (λ events. of_query file (queries.Replay events))
course_of (commands.Upgrade file) = then_by (reads of_report file) (λ report. ends (shown status.Ok (report_text report)))
course_of (commands.Step name) = runs_by rounds name
course_of (commands.Live name workers observers) = runs_by (threads observers) name
course_of (commands.Check name file) = then_by (prepares name) (λ p. judging file p.statements)
course_of (commands.Big lanes) = runs_script (IsReportBy rounds) (IsSummary lanes) script_name

-- The files that a command brings itself: it fetches none of the shelf then, and no fetch fails.
abbrev pub own_files : Command → Option Files
own_files (commands.Big lanes) = Some (made_files lanes)
own_files _ = None
