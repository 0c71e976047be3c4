use Rattle.std.proofs.Common.{List, ℕ, Option, Some}
use Rattle.cfg_io.specs.Shelf.{Files}
use Rattle.report_writing.specs.Reports.{report_text}
use Rattle.report_texts.specs.declared.version.Version.TheVariants as versions
use Rattle.command_answers.specs.declared.status.Status.{Status}
use Rattle.command_spec.specs.Outcomes.{WasRunBy}
use Rattle.command_spec.specs.Schedules.{Schedule}
use Rattle.command_spec.specs.Sorts.{TellsReport}
use Rattle.result_laws.proofs.telling_laws.checks_of_runs_are_consistent.Goals as goal

pub returns : goal.returns
returns c =
    let tells : (schedule : Schedule) (files : Option Files) (name : List ℕ) (own : Status) (ran : WasRunBy schedule files name own) → TellsReport (report_text ran.report) ran.report =
    λ schedule files name own ran. (versions.Second, c.a_written_report_is_read.ensures.text ran.report (c.texts_tell_the_reports_of_runs.ensures.told schedule files name own ran)) in
    record {
      judged = λ schedule before after name file own verdict also u ran.
          c.a_check_of_what_was_run_is_consistent.ensures.judged schedule before after name file own verdict also u ran (tells schedule (Some before) name own ran);
      ends = λ knows schedule before after name file own ran.
          c.a_check_of_what_was_run_is_consistent.ensures.ends knows schedule before after name file own ran (tells schedule (Some before) name own ran);
    }
