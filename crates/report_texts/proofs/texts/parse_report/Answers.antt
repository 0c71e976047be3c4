use Rattle.std.proofs.Common.{ap, inl, inr}
use Rattle.std.specs.Prelude.{Err}
use Rattle.report_texts.proofs.ParsingLemmas.{is_made_once, is_text, no_memory_beside, same_report}
use Rattle.report_texts.proofs.texts.parse_report.Goals as goal

pub returns-in-Ok-clause-report : goal.returns-in-Ok-clause-report
returns-in-Ok-clause-report c = (c.in-Ok.field-0-0, is_text c.in-Ok.field-0-0 c.args.text.now c.in-Ok.report c.in-Ok.ensures.read)

pub returns-in-Ok-clause-logs : goal.returns-in-Ok-clause-logs
returns-in-Ok-clause-logs c = is_made_once c.in-Ok.field-0-0 c.args.text.now c.in-Ok.report c.in-Ok.ensures.read

pub returns-in-Ok-clause-whenever_report : goal.returns-in-Ok-clause-whenever_report
returns-in-Ok-clause-whenever_report c = λ version report is. inl (same_report c.in-Ok.field-0-0 version c.args.text.now c.in-Ok.report report c.in-Ok.ensures.read is)

pub returns-in-Err-clause-whenever_report : goal.returns-in-Err-clause-whenever_report
returns-in-Err-clause-whenever_report c = λ version report is. inr (ap Err (no_memory_beside c.args.text.now c.in-Err.fault version report c.in-Err.ensures.fault is))
