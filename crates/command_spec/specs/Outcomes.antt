-- To be believed (definitions.md).
-- What each status of a run says, of the words and of what the files hold.
use Rattle.std.specs.Prelude.{◌≡◌, ◌≢◌, ◌<◌, ◌⊎◌, ℕ, Bool, true, List, [], ◌++◌, Option, Some, None, length, take}
use Rattle.cfg_io.specs.Shelf.{Files}
use Rattle.cfg_io.specs.Sink.{with_bytes}
use Rattle.config_graph.specs.Graph.{Graph}
use Rattle.config_graph.specs.GraphText.{graph_text}
use Rattle.change_script.specs.EventFiles.{IsEventFile}
use Rattle.change_script.specs.ScriptFiles.{IsScript}
use Rattle.change_script.specs.declared.event_files.EventFile.{EventFile}
use Rattle.command_answers.specs.Answers.{run_status}
use Rattle.command_answers.specs.Statuses.{is_of_run}
use Rattle.command_answers.specs.declared.status.Status.{Status}
use Rattle.command_answers.specs.declared.status.Status.TheVariants as status
use Rattle.command_words.specs.BigFiles.{made_files, script_name}
use Rattle.command_words.specs.declared.words.Command.{Command}
use Rattle.command_words.specs.declared.words.Command.TheVariants as commands
use Rattle.command_words.specs.declared.words.TopCall.{TopCall}
use Rattle.report_types.specs.declared.report.Report.{Report}
use Rattle.report_types.specs.declared.script.Script.{Script}
use Rattle.report_writing.specs.Reports.{report_text}
use Rattle.change_spec.specs.Scripts.{StatementsOf}
use Rattle.change_spec.specs.Statements.{Statement}
use Rattle.command_spec.specs.Commands.{IsJudged, IsSummary, Shown, own_files}
use Rattle.command_spec.specs.Courses.{End}
use Rattle.command_spec.specs.Descriptions.{HasGraph}
use Rattle.command_spec.specs.Files.{IsTold}
use Rattle.command_spec.specs.Known.{AsksOf, on_one_thread}
use Rattle.change_plan.specs.Refusals.{CanPlan}
use Rattle.command_words.specs.declared.words.Change.{Change}
use Rattle.command_words.specs.declared.words.Cut.TheVariants as cuts
use Rattle.command_spec.specs.Plans.{Starts, IsPartsText, IsPlanText, IsRollText, lines_of_change, made_of_graph}
use Rattle.command_spec.specs.Replays.{HasReplay}
use Rattle.command_spec.specs.Runs.{DoesWords, Run, status_of, text_of}
use Rattle.command_spec.specs.Schedules.{Schedule, rounds, threads, IsReportBy, IsShownBy}
use Rattle.command_spec.specs.Scripts.{Elaborates, Uses, lines_of_script}
use Rattle.command_spec.specs.Sorts.{TellsReport, limit_of, of_description, of_events, of_report, of_script}

-- ---- how runs end

-- the status, unless memory ran out or the sink failed
abbrev pub Ends : Status → Status → Type 0
Ends result own = (result ≡ own) ⊎ (result ≡ status.NoMemory) ⊎ (result ≡ status.WriteFault)

-- a proper front went out of a text that the words could have given with another status
pub record WroteFront (knows : Command → Bool) (r : Run) : Type 0 where
  pub failing : List (List ℕ)
  pub end : End Shown
  pub does : DoesWords knows r.files r.words failing end
  pub noted : r.failures' ≡ r.failures ++ failing
  pub other : status_of end ≢ status.WriteFault
  pub count : ℕ
  pub short : count < length (text_of end)
  pub front : r.taken' ≡ with_bytes r.taken (take count (text_of end))

-- the shelf tells its files, and no fetch failed
pub record ReadFrom (r : Run) (files : Files) : Type 0 where
  pub tells : r.files ≡ Some files
  pub steady : r.failures' ≡ r.failures

-- the shelf's files are read, or else those that a command brings itself
abbrev pub ReadsFrom : Run → Files → Option Files → Type 0
ReadsFrom r files None = ReadFrom r files
ReadsFrom r files (Some own) = files ≡ own

-- the files by which a command goes are these, and no fetch failed
abbrev pub GoesBy : Command → Run → Files → Type 0
GoesBy command r files = ReadsFrom r files (own_files command)

-- what a command shows is the same, but what comes of threads, which may take their turns in other ways
abbrev pub SameShown : Command → Shown → Shown → Type 0
SameShown command s t = on_one_thread command ≡ true → (s.own ≡ t.own) × (s.text ≡ t.text)

-- a run of a script may end with the status, by its report
abbrev pub IsRunStatus : Status → Type 0
IsRunStatus own = is_of_run own ≡ true

-- a check may, by what a report was judged to
abbrev pub IsVerdict : Status → Type 0
IsVerdict own = (own ≡ status.Ok) ⊎ (own ≡ status.Unlawful)

-- a roll may: all parts were carried out, or one was given up
abbrev pub IsRollStatus : Status → Type 0
IsRollStatus own = (own ≡ status.Ok) ⊎ (own ≡ status.Pending)

-- A command may end with the status where nothing stops it: with Ok, or as a report, the rounds, an event or a verdict say.
pub data MayEnd : Command → Status → Type 0 where
  well : (command : Command) → MayEnd command status.Ok
  given_up : (run within : ℕ) (change : Change) → MayEnd (commands.Change (cuts.Rolled run within) change) status.Pending
  denied : (file events : List ℕ) → MayEnd (commands.Replay file events) status.Denied
  unlawful : (name file : List ℕ) → MayEnd (commands.Check name file) status.Unlawful
  stepped : (name : List ℕ) (own : Status) → IsRunStatus own → MayEnd (commands.Step name) own
  lived : (name : List ℕ) (workers observers : ℕ) (own : Status) → IsRunStatus own → MayEnd (commands.Live name workers observers) own
  summed_up : (lanes : ℕ) (own : Status) → IsRunStatus own → MayEnd (commands.Big lanes) own

-- the same, unless memory ran out or the sink failed
abbrev pub EndsAs : (Status → Type 0) → Status → Type 0
EndsAs May result = May result ⊎ (result ≡ status.NoMemory) ⊎ (result ≡ status.WriteFault)

-- ---- which files are fetched

-- the script, or a file that a line of it uses
abbrev pub IsOfScript : Option Files → List ℕ → List ℕ → Type 0
IsOfScript files script name =
    (name ≡ script) ⊎ ((bytes : List ℕ) × (lines : Script) × IsTold files (limit_of of_script) script bytes × IsScript bytes lines
    × Uses (lines_of_script lines.lines) name)

-- the words name the file, or a `use` line of the script that they name
abbrev pub MentionsFile : Option Files → Command → List ℕ → Type 0
MentionsFile files (commands.Flat file call) name = name ≡ file
MentionsFile files (commands.Change cut change) name = Uses (lines_of_change change) name
MentionsFile files (commands.Replay file events) name = (name ≡ file) ⊎ (name ≡ events)
MentionsFile files (commands.Upgrade file) name = name ≡ file
MentionsFile files (commands.Step script) name = IsOfScript files script name
MentionsFile files (commands.Live script workers observers) name = IsOfScript files script name
MentionsFile files (commands.Check script report) name = (name ≡ report) ⊎ IsOfScript files script name
MentionsFile files _ name = ⊥

-- ---- what commands write

-- The file holds a description that has a graph for the component and its arguments, and the text of this graph was
-- written.
pub record Flattened (files : Option Files) (file : List ℕ) (call : TopCall) (taken taken' : Option (List ℕ)) : Type 0 where
  pub text : List ℕ
  pub graph : Graph
  pub is_told : IsTold files (limit_of of_description) file text
  pub has_graph : HasGraph text call.top call.args graph
  pub written : taken' ≡ with_bytes taken (graph_text graph)

-- by the description of this text, or of another file where one is named, the component has the graph
abbrev pub TargetHas : Option Files → List ℕ → Option (List ℕ) → TopCall → Graph → Type 0
TargetHas files text None target graph = HasGraph text target.top target.args graph
TargetHas files text (Some other) target graph = Elaborates files other target.top target.args graph

-- The files hold descriptions in which the two components of a change have these graphs. A run can start with the first,
-- and has room for the change to the second.
pub record HaveGraphs (files : Option Files) (change : Change) (old new : Graph) : Type 0 where
  pub text : List ℕ
  pub is_told : IsTold files (limit_of of_description) change.file text
  pub starts : Starts text change.call.top change.call.args old
  pub target : TargetHas files text change.other change.target new
  pub has_room : CanPlan old new [] (made_of_graph old)

-- and a text of the change was written
pub record WroteChange (IsText : Graph → Graph → List ℕ → Type 0) (files : Option Files) (change : Change)
    (taken taken' : Option (List ℕ)) : Type 0 where
  pub old : Graph
  pub new : Graph
  pub have_graphs : HaveGraphs files change old new
  pub text : List ℕ
  pub is_text : IsText old new text
  pub written : taken' ≡ with_bytes taken text

-- the text of its plan
abbrev pub Planned : Option Files → Change → Option (List ℕ) → Option (List ℕ) → Type 0
Planned = WroteChange IsPlanText

-- the text of its parts
abbrev pub Parted : Option Files → Change → Option (List ℕ) → Option (List ℕ) → Type 0
Parted = WroteChange IsPartsText

-- that of its roll, which ended so
abbrev pub Rolled : ℕ → ℕ → Option Files → Change → Status → Option (List ℕ) → Option (List ℕ) → Type 0
Rolled run within files change own = WroteChange (IsRollText run within change.call change.target own) files change

-- The file of events is one, and what its events come to over the description was written, with this status.
pub record Replayed (files : Option Files) (file events : List ℕ) (own : Status) (taken taken' : Option (List ℕ)) : Type 0 where
  pub bytes : List ℕ
  pub events_file : EventFile
  pub told_events : IsTold files (limit_of of_events) events bytes
  pub is_event_file : IsEventFile bytes events_file
  pub text : List ℕ
  pub written : List ℕ
  pub is_told : IsTold files (limit_of of_description) file text
  pub has_replay : HasReplay text events_file own written
  pub wrote : taken' ≡ with_bytes taken written

-- The file holds a report, and its text of the version that is written today was written.
pub record Upgraded (files : Option Files) (file : List ℕ) (taken taken' : Option (List ℕ)) : Type 0 where
  pub bytes : List ℕ
  pub report : Report
  pub is_told : IsTold files (limit_of of_report) file bytes
  pub is_report : TellsReport bytes report
  pub written : taken' ≡ with_bytes taken (report_text report)

-- ---- runs of scripts

-- the script of a name, whose statements are those of its file
pub record IsScriptOf (files : Option Files) (name : List ℕ) (script : Script) : Type 0 where
  pub bytes : List ℕ
  pub is_told : IsTold files (limit_of of_script) name bytes
  pub is_script : IsScript bytes script

-- The script was run: its statements have the graphs to which the descriptions elaborate that the files hold, and the
-- run ended as the report of it says. What must be so of statements and report is given.
pub record WasRun (IsReport : List Statement → Report → Type 0) (files : Option Files) (name : List ℕ) (own : Status) : Type 0 where
  pub script : Script
  pub is_script : IsScriptOf files name script
  pub statements : List Statement
  pub have_graphs : StatementsOf (Elaborates files) script statements
  pub report : Report
  pub is_report : IsReport statements report
  pub ended : own ≡ run_status report.status

-- And bytes were written that show the report. What must be so of these is given too.
pub record Reported (IsReport : List Statement → Report → Type 0) (Shows : Report → List ℕ → Type 0) (files : Option Files)
    (name : List ℕ) (own : Status) (taken taken' : Option (List ℕ)) : Type 0 where
  pub was_run : WasRun IsReport files name own
  pub bytes : List ℕ
  pub shown : Shows was_run.report bytes
  pub written : taken' ≡ with_bytes taken bytes

-- it was run by a schedule
abbrev pub WasRunBy : Schedule → Option Files → List ℕ → Status → Type 0
WasRunBy schedule = WasRun (IsReportBy schedule)

-- and bytes that show its report so were written
abbrev pub RanShowing : Schedule → (Report → List ℕ → Type 0) → Option Files → List ℕ → Status → Option (List ℕ) → Option (List ℕ) → Type 0
RanShowing schedule = Reported (IsReportBy schedule)

-- as reports of the schedule are shown
abbrev pub RanBy : Schedule → Option Files → List ℕ → Status → Option (List ℕ) → Option (List ℕ) → Type 0
RanBy schedule = RanShowing schedule (IsShownBy schedule)

-- in rounds, of which the text of the report is written
abbrev pub Ran : Option Files → List ℕ → Status → Option (List ℕ) → Option (List ℕ) → Type 0
Ran = RanShowing rounds (λ report bytes. bytes ≡ report_text report)

-- the script of so many lanes was run, with the files that were made, and the summary of its report was written
abbrev pub SummedUp : ℕ → Status → Option (List ℕ) → Option (List ℕ) → Type 0
SummedUp lanes = RanShowing rounds (IsSummary lanes) (Some (made_files lanes)) script_name

-- The script has statements as the run of one has them, and the file holds a report. By the verdict the report can be
-- one of this machine for them, or can't, and so its line was written.
pub record Judged (files : Option Files) (name file : List ℕ) (own : Status) (taken taken' : Option (List ℕ)) : Type 0 where
  pub script : Script
  pub is_script : IsScriptOf files name script
  pub statements : List Statement
  pub have_graphs : StatementsOf (Elaborates files) script statements
  pub bytes : List ℕ
  pub is_told : IsTold files (limit_of of_report) file bytes
  pub report : Report
  pub is_report : TellsReport bytes report
  pub line : List ℕ
  pub is_judged : IsJudged statements report own line
  pub written : taken' ≡ with_bytes taken line

-- the words ask for the run of a script by a schedule
abbrev pub AsksToRun : (Command → Bool) → List (List ℕ) → Schedule → List ℕ → Type 0
AsksToRun knows words rounds name = AsksOf knows words (commands.Step name)
AsksToRun knows words (threads observers) name = (workers : ℕ) × AsksOf knows words (commands.Live name workers observers)

-- the words ask for what may end so: the run of a script, their own or a made one; or a roll, which may be given up
abbrev pub AsksForRun : (Command → Bool) → List (List ℕ) → Status → Type 0
AsksForRun knows words own =
    ((schedule : Schedule) × (name : List ℕ) × AsksToRun knows words schedule name)
    ⊎ ((lanes : ℕ) × AsksOf knows words (commands.Big lanes))
    ⊎ ((own ≡ status.Pending) × (run within : ℕ) × (change : Change)
    × AsksOf knows words (commands.Change (cuts.Rolled run within) change))
