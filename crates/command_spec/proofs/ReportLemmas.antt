-- Reports of runs: one is told by its text or has a fault; a script has one; and what all of them have.
use Rattle.std.proofs.Common.{◌≡◌, ◌⊎◌, inl, inr, ℕ, List, ℤ, Option, subst, ◌∙◌, [], ◌++◌, append-nil, refl, sym, ap}
use Rattle.report_types.specs.declared.report.Report.{Report}
use Rattle.report_texts.specs.ReportTexts.{IsReportText}
use Rattle.report_texts.specs.Stages.{IsReportFault}
use Rattle.report_texts.specs.declared.error.ReportFault.{ReportFault}
use Rattle.report_texts.specs.declared.version.Version.{Version}
use Rattle.command_spec.specs.Sorts.{TellsReport}
use Rattle.cfg_io.specs.Shelf.{Files}
use Rattle.config_graph.specs.Graph.{Graph}
use Rattle.config_graph.specs.Sound.{Sound}
use Rattle.change_spec.specs.Lawful.{LawfulInRounds, LawfulOnThreads}
use Rattle.change_spec.specs.Scripts.{StatementsOf}
use Rattle.change_spec.specs.Serial.{Serial}
use Rattle.change_spec.specs.Statements.{Statement}
use Rattle.change_script.specs.ScriptFiles.{IsScript}
use Rattle.report_types.specs.declared.script.Script.{Script}
use Rattle.darwin_parser.specs.Tree.{Name, Tree}
use Rattle.darwin_types.specs.Faults.{NoFault}
use Rattle.elaborator.specs.Elaboration.{HasNoFault, ElaboratesTo}
use Rattle.elaborator.specs.Faults.{Faults}
use Rattle.elaborator.specs.declared.error.ElabError.{ElabError}
use Rattle.change_round_laws.specs.SoundStatements.{AreSound, IsSoundGraph}
use Rattle.change_round_laws.proofs.StatementLaws.{sound_list}
use Rattle.command_spec.specs.RunReports.{IsReportOf}
use Rattle.command_spec.specs.Scripts.{Elaborates}
use Rattle.command_spec.proofs.GraphLaws.{is_graph}
use Rattle.base.specs.Each.{Each}
use Rattle.change_round_laws.specs.Waits.{DrainsInTime}
use Rattle.command_answers.specs.declared.status.Status.{Status}
use Rattle.command_spec.specs.Outcomes.{WasRunBy}
use Rattle.command_spec.specs.Schedules.{rounds, IsReportBy, Schedule, threads}
use Rattle.change_spec.specs.Consistent.{Consistent}
use Rattle.std.specs.Prelude.{◌↔◌}
use Rattle.std.proofs.lemmas.List.Elements.{All-nil}
use Rattle.std.proofs.lemmas.List.{nil_from_length}
use Rattle.report_writing.specs.Reports.{report_text}
use Rattle.watch_lines.specs.Observers.{AreToldOf, Watched}
use Rattle.watch_lines.specs.WatchText.{watch_text}

-- From laws of the reader of reports, as they stand there.
pub never_both :
    ((version : Version) (text : List ℕ) (report : Report) (fault : ReportFault) → IsReportText version text report → IsReportFault text fault → ⊥)
    → (bytes : List ℕ) (r : Report) (fault : ReportFault) → TellsReport bytes r → IsReportFault bytes fault → ⊥
never_both alone bytes r fault tells first = alone tells.0 bytes r fault tells.1 first

pub one_report :
    ((version other : Version) (text : List ℕ) (report same : Report) → IsReportText version text report → IsReportText other text same
    → (version ≡ other) × (report ≡ same))
    → (bytes : List ℕ) (r s : Report) → TellsReport bytes r → TellsReport bytes s → r ≡ s
one_report alone bytes r s tells also = (alone tells.0 also.0 bytes r s tells.1 also.1).1

pub one_or_fault :
    ((text : List ℕ) → ((version : Version) × (report : Report) × IsReportText version text report) ⊎ ((fault : ReportFault) × IsReportFault text fault))
    → (bytes : List ℕ) → ((r : Report) × TellsReport bytes r) ⊎ ((fault : ReportFault) × IsReportFault bytes fault)
one_or_fault always bytes = elim (always bytes) [ inl w ↦ inl (w.1, (w.0, w.2)) | inr w ↦ inr w ]

-- Laws of the crates below, as they stand there.
module _ (graphs : (tree : Tree) (name : Name) (args : List ℤ) → NoFault tree → ((e : ElabError) × Faults tree name args e) ⊎ ((g : Graph) × HasNoFault tree name args × ElaboratesTo tree name args g × Sound g)) (one_graph : (tree : Tree) (name : Name) (args : List ℤ) (g h : Graph) → ElaboratesTo tree name args g → ElaboratesTo tree name args h → g ≡ h) (files : Option Files) where
  sound_graph : (file name : List ℕ) (args : List ℤ) (g : Graph) → Elaborates files file name args g → IsSoundGraph g
  sound_graph file name args g e = by (graphs e.has_graph.tree name args e.has_graph.checked.sound)
    where
      of : Sound g → IsSoundGraph g
      of sound = record { is_graph = is_graph e.has_graph.tree name args g e.has_graph.is.no_fault e.has_graph.is.is_graph sound; sound = sound }

      by :
          ((f : ElabError) × Faults e.has_graph.tree name args f)
          ⊎ ((h : Graph) × HasNoFault e.has_graph.tree name args × ElaboratesTo e.has_graph.tree name args h × Sound h) → IsSoundGraph g
      by (inl (f, faults)) = absurd (e.has_graph.is.no_fault f faults)
      by (inr (h, none, elaborates, sound)) = of (subst Sound (one_graph e.has_graph.tree name args h g elaborates e.has_graph.is.is_graph) sound)

  pub are_sound : (bytes : List ℕ) (script : Script) (statements : List Statement) → IsScript bytes script → StatementsOf (Elaborates files) script statements → AreSound statements
  are_sound bytes script statements is says = sound_list (Elaborates files) sound_graph bytes script is statements says

  pub report_there :
      ((statements : List Statement) → AreSound statements → (report : Report) × Serial statements report)
      → ((statements : List Statement) (report : Report) → AreSound statements → (serial : Serial statements report) → LawfulInRounds statements report serial)
      → (bytes : List ℕ) (script : Script) (statements : List Statement) → IsScript bytes script → StatementsOf (Elaborates files) script statements
      → (report : Report) × IsReportOf statements report
  report_there exists lawful bytes script statements is says =
      let sound = are_sound bytes script statements is says in
      let there = exists statements sound in
      (there.0, record { serial = there.1; lawful = lawful statements there.0 sound there.1 })

pub drained :
    (sound : (files : Option Files) (bytes : List ℕ) (script : Script) (statements : List Statement) → IsScript bytes script → StatementsOf (Elaborates files) script statements → AreSound statements)
    → (each : (statements : List Statement) (report : Report) → AreSound statements → (serial : Serial statements report) → Each DrainsInTime serial.parts)
    → (files : Option Files) (name : List ℕ) (own : Status) (ran : WasRunBy rounds files name own)
    → Each DrainsInTime ran.is_report.serial.parts
drained sound each files name own ran =
    let are_sound = sound files ran.is_script.bytes ran.script ran.statements ran.is_script.is_script ran.have_graphs in
    each ran.statements ran.report are_sound ran.is_report.serial

abbrev pub AreConsistent : Type 0
AreConsistent = (schedule : Schedule) (statements : List Statement) (report : Report) → IsReportBy schedule statements report → Consistent statements report

pub consistent_by :
    ((statements : List Statement) (report : Report) (serial : Serial statements report) → LawfulInRounds statements report serial → Consistent statements report)
    → ((statements : List Statement) (report : Report) → LawfulOnThreads statements report → Consistent statements report)
    → AreConsistent
consistent_by in_rounds on_threads rounds statements report is = in_rounds statements report is.serial is.lawful
consistent_by in_rounds on_threads (threads observers) statements report is = on_threads statements report is.lawful

pub unwatched : (report : Report) (bytes : List ℕ) → Watched report 0 bytes ↔ (bytes ≡ report_text report)
unwatched report bytes = (
  λ w. w.text ∙ ap (λ seen. report_text report ++ watch_text seen) (nil_from_length w.seen w.one_each) ∙ append-nil (report_text report),
  λ is. record { seen = []; one_each = refl; told = All-nil (AreToldOf report.history); text = is ∙ sym (append-nil (report_text report)) },
)
