use Rattle.std.proofs.Common.{◌∙◌, sym, arith}
use Rattle.report_texts.proofs.DrawingLemmas.{rise_end}
use Rattle.report_texts.proofs.graphs.paths_rise.Goals as goal

pub returns : goal.returns
returns c = sym (rise_end c.nodes.rest.now (omega arith)) ∙ c.nodes.invariant
