use Rattle.report_texts.proofs.CycleLemmas.{no_cycle_is}
use Rattle.report_texts.proofs.graphs.has_no_cycle.Goals as goal

pub returns : goal.returns
returns c = no_cycle_is c.args.graph.now c.requires c.in_ok-has_cycle.field-0 c.in_ok-has_cycle.ensures
