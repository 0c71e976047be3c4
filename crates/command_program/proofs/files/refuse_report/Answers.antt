-- A fault that is no want of memory has its line.
use Rattle.std.proofs.Common.{◌≡◌, ◌≢◌, refl}
use Rattle.command_answers.specs.Answers.{script}
use Rattle.command_answers.specs.RefusalLines.{report_words}
use Rattle.report_texts.specs.declared.error.ReportFault.TheVariants as faults
use Rattle.command_program.proofs.ComingLaws.{stops_so}
use Rattle.command_program.proofs.files.refuse_report.Goals as goal

pub returns-in_default : goal.returns-in_default
returns-in_default c =
    let fault = c.args.fault.now in
    let why = script c.args.name.now (report_words fault) in
    stops_so (λ other. other ≡ why) (λ other. (fault ≢ faults.NoMemory) × (other ≡ why)) c.stop_with.result
    (λ other is. (c.in_default.not-NoMemory, is)) (c.stop_with.ensures why refl c.report_line.ensures)
