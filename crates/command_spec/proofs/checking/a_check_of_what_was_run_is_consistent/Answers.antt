-- The report that is read is the one that was written, and it is consistent for the statements of the script.
use Rattle.std.proofs.Common.{◌≡◌, ℕ, List, Option, Some, sym, subst}
use Rattle.cfg_io.specs.Shelf.{Files}
use Rattle.report_writing.specs.Reports.{report_text}
use Rattle.command_answers.specs.declared.status.Status.{Status}
use Rattle.command_answers.specs.declared.status.Status.TheVariants as status
use Rattle.command_words.specs.declared.words.Command.TheVariants as commands
use Rattle.command_spec.specs.Files.{StillHolds}
use Rattle.command_spec.specs.Sorts.{TellsReport}
use Rattle.command_spec.specs.Outcomes.{Judged, WasRunBy}
use Rattle.command_spec.specs.Schedules.{Schedule}
use Rattle.command_spec.proofs.OneRun.{checked_so, ends_well, read_there}
use Rattle.command_spec.proofs.Reported.{as_verdict}
use Rattle.command_spec.proofs.Prepared.{check_refuses_nothing, report_unrefused}
use Rattle.command_spec.proofs.ReportLemmas.{consistent_by}
use Rattle.command_spec.proofs.checking.a_check_of_what_was_run_is_consistent.Goals as goal

pub returns : goal.returns
returns c =
    let consistent = consistent_by c.lawful_reports_are_consistent.ensures.in_rounds c.lawful_reports_are_consistent.ensures.on_threads in
    let verdicts : (schedule : Schedule) (before after : Files) (name file : List ℕ) (own verdict : Status) (also u : Option (List ℕ)) (ran : WasRunBy schedule (Some before) name own) → TellsReport (report_text ran.report) ran.report → StillHolds before after
    → (j : Judged (Some after) name file verdict also u) → j.bytes ≡ report_text ran.report → verdict ≡ status.Ok =
    λ schedule before after name file own verdict also u ran tells still j wrote.
    (c.checks_end_by_what_is_lawful.ensures.consistent (Some after) name file verdict also u j).1
    (checked_so before after still schedule name file own verdict also u ran j consistent
    (c.what_bytes_give_is_one.ensures.one_report j.bytes ran.report j.report (subst (λ b. TellsReport b ran.report) (sym wrote) tells) j.is_report)) in
    record {
      consistent = λ schedule files name own ran. consistent schedule ran.statements ran.report ran.is_report;
      judged = verdicts;
      ends = λ knows schedule before after name file own ran tells still wrote short r run read asks nothing.
          let a = c.runs_answer_their_commands.ensures knows r run (commands.Check name file) asks in
          ends_well r.status (λ is.
          let j = c.check_promises.ensures r name file a is in
          verdicts schedule before after name file own r.status r.taken r.taken' ran tells still
          (subst (λ fs. Judged fs name file r.status r.taken r.taken') read.tells j) (read_there after r.files read.tells name file r.status r.taken r.taken' j (report_text ran.report) wrote))
          (as_verdict name file r.status
          (c.what_is_not_refused_is_answered.ensures.complete (commands.Check name file) r after a read
          (check_refuses_nothing after name file nothing
          (report_unrefused after file (report_text ran.report) (record { told = wrote; within = short })
          (λ fault first. c.one_report_or_one_fault.ensures.never_both tells.0 (report_text ran.report) ran.report fault tells.1 first)))));
    }
