-- To be believed (definitions.md).
-- Sorts of files: how many bytes a file of a sort may have, by which words its bytes are refused, and what they say.
use Rattle.std.specs.Prelude.{◌≡◌, ℕ, List}
use Rattle.change_script.specs.EventFiles.{IsEventFile, IsFirstFault}
use Rattle.change_script.specs.ScriptFiles.{IsScript, IsScriptFault}
use Rattle.change_script.specs.declared.error.ScriptError.{ScriptError}
use Rattle.change_script.specs.declared.event_files.EventFile.{EventFile}
use Rattle.darwin_lexer.specs.declared.lexing.TheConstants.{MAX_TEXT}
use Rattle.darwin_parser.specs.Tree.{Tree}
use Rattle.report_texts.specs.ReportTexts.{IsReportText}
use Rattle.report_texts.specs.Stages.{IsReportFault}
use Rattle.report_texts.specs.declared.error.ReportFault.{ReportFault}
use Rattle.report_texts.specs.declared.texts.TheConstants.{MAX_REPORT}
use Rattle.report_texts.specs.declared.version.Version.{Version}
use Rattle.report_types.specs.declared.report.Report.{Report}
use Rattle.report_types.specs.declared.script.Script.{Script}
use Rattle.command_answers.specs.Answers.{Refusal, description, script}
use Rattle.command_answers.specs.RefusalLines.{report_words, script_words}
use Rattle.command_spec.specs.Descriptions.{IsChecked, IsTextRefusal}

pub data Sort : Type 0 where
  of_script : Sort
  -- a file of events
  of_events : Sort
  of_report : Sort
  of_description : Sort

-- the most bytes of a file of the sort
abbrev pub limit_of : Sort → ℕ
limit_of of_script = MAX_TEXT
limit_of of_events = MAX_TEXT
limit_of of_report = MAX_REPORT
limit_of of_description = MAX_TEXT

-- a file of the sort is refused by these words
abbrev pub refusal_of : Sort → (file : List ℕ) → (words : List (List ℕ)) → Refusal
refusal_of of_script = script
refusal_of of_events = script
refusal_of of_report = script
refusal_of of_description = description

-- the words of what refuses the bytes of a file: the first fault of its lines, or what it lacks; of a description a
-- fault of its text
abbrev pub Refuses : Sort → List ℕ → List (List ℕ) → Type 0
Refuses of_script bytes words = (fault : ScriptError) × IsScriptFault bytes fault × (words ≡ script_words fault)
Refuses of_events bytes words = (fault : ScriptError) × IsFirstFault bytes fault × (words ≡ script_words fault)
Refuses of_report bytes words = (fault : ReportFault) × IsReportFault bytes fault × (words ≡ report_words fault)
Refuses of_description bytes words = IsTextRefusal bytes words

-- the bytes are the text of the report, in some version
abbrev pub TellsReport : List ℕ → Report → Type 0
TellsReport bytes r = (version : Version) × IsReportText version bytes r

-- what a file of the sort says
abbrev pub Value : Sort → Type 0
Value of_script = Script
Value of_events = EventFile
Value of_report = Report
Value of_description = Tree

-- and that its bytes say this
abbrev pub Reads : (sort : Sort) → List ℕ → Value sort → Type 0
Reads of_script bytes said = IsScript bytes said
Reads of_events bytes said = IsEventFile bytes said
Reads of_report bytes said = TellsReport bytes said
Reads of_description bytes said = IsChecked bytes said
