use Rattle.std.proofs.Common.{◌∙◌, inr, sym}
use Rattle.report_texts.proofs.GraphFaultLemmas.{bad_line, open_line}
use Rattle.report_texts.proofs.graph_texts.check_lines.Goals as goal

pub returns-in-Some-clause-fault : goal.returns-in-Some-clause-fault
returns-in-Some-clause-fault c = inr (bad_line c.args.text.now c.in-Some.number (sym c.in_ok-number.ensures ∙ c.in-Some.is))

pub returns-in-Some-open_end-clause-fault : goal.returns-in-Some-open_end-clause-fault
returns-in-Some-open_end-clause-fault c =
    inr (open_line c.args.text.now c.in-Some-open_end.number (sym c.in_ok-number.ensures ∙ c.in_default.is) (sym c.in-Some-open_end.ensures))
