use Rattle.std.proofs.Common.{◌∙◌, inr}
use Rattle.report_texts.proofs.GraphFaultLemmas.{unlike_line}
use Rattle.report_texts.proofs.graph_texts.check_text.Goals as goal

pub returns-in-Some-clause-fault : goal.returns-in-Some-clause-fault
returns-in-Some-clause-fault c =
    inr (unlike_line c.args.text.now c.args.graph.now c.as_slice.result.now c.in-Some.number c.requires.fit c.requires.whole c.requires.drawn (c.as_slice.ensures.value ∙ c.in_ok-wanted.ensures) c.in-Some.ensures)
