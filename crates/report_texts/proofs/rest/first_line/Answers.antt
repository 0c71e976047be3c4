use Rattle.report_texts.proofs.LineLemmas.{first_line, no_line}
use Rattle.report_texts.proofs.rest.first_line.Goals as goal

pub returns-in-Some-clause-line : goal.returns-in-Some-clause-line
returns-in-Some-clause-line c = (first_line c.args.text.now c.cut.result.0.now c.in-Some.behind.now (rw c.in-Some.is at c.cut.ensures.cut)).ls

pub returns-in-Some-clause-tail : goal.returns-in-Some-clause-tail
returns-in-Some-clause-tail c = (first_line c.args.text.now c.cut.result.0.now c.in-Some.behind.now (rw c.in-Some.is at c.cut.ensures.cut)).end

pub returns-in-Some-clause-parts : goal.returns-in-Some-clause-parts
returns-in-Some-clause-parts c = (first_line c.args.text.now c.cut.result.0.now c.in-Some.behind.now (rw c.in-Some.is at c.cut.ensures.cut)).parts

pub returns-in-None-clause-line : goal.returns-in-None-clause-line
returns-in-None-clause-line c = no_line c.args.text.now c.cut.result.0.now (rw c.in-None.is at c.cut.ensures.cut)
