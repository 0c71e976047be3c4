use Rattle.report_texts.proofs.ParsingLemmas.{one_report}
use Rattle.report_texts.proofs.laws.a_text_tells_its_report.Goals as goal

pub returns : goal.returns
returns c = one_report
