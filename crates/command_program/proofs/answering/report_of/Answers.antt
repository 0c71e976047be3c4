-- The report is the one of rounds, and lawful, since the statements are sound.
use Rattle.std.proofs.Common.{Result, Ok, Err, IfOk, List}
use Rattle.change_round_laws.proofs.AskedLaws.{asked_are_sound}
use Rattle.change_spec.specs.Lawful.{LawfulInRounds}
use Rattle.change_spec.specs.Serial.{Serial}
use Rattle.change_spec.specs.Statements.{Statement}
use Rattle.report_types.specs.declared.report.Report.{Report}
use Rattle.command_spec.specs.RunReports.{IsReportOf}
use Rattle.command_program.specs.Preparing.{statements_in}
use Rattle.command_program.proofs.answering.report_of.Goals as goal

reported :
    {E : Type 0} (statements : List Statement) (r : Result Report E) → IfOk r (λ report. Serial statements report)
    → ((report : Report) (serial : Serial statements report) → LawfulInRounds statements report serial) → IfOk r (λ report. IsReportOf statements report)
reported statements (Ok report) serial lawful = record { serial = serial; lawful = lawful report serial }
reported statements (Err e) serial lawful = tt

pub returns-clause-report : goal.returns-clause-report
returns-clause-report c =
    let asked = c.args.asked in
    reported (statements_in asked) c.run_in_rounds.result c.run_in_rounds.ensures.serial
    (λ report serial. c.reports_of_rounds_are_lawful.ensures.lawful (statements_in asked) report (asked_are_sound asked.start asked.steps.items c.requires.0 c.requires.1) serial)
