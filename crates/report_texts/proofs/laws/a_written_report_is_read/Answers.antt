use Rattle.std.proofs.Common.{refl}
use Rattle.report_writing.specs.Reports.{report_text}
use Rattle.report_texts.specs.declared.version.Version.TheVariants as versions
use Rattle.report_texts.proofs.ParsingLemmas.{text_is_read}
use Rattle.report_texts.proofs.laws.a_written_report_is_read.Goals as goal

pub returns-clause-text : goal.returns-clause-text
returns-clause-text c = λ report is. (refl, is)

pub returns-clause-read : goal.returns-clause-read
returns-clause-read c = λ report is. text_is_read versions.Second (report_text report) report (refl, is)
