use Rattle.std.proofs.Common.{rules}
use Rattle.report_texts.proofs.LineLemmas.{all_lines}
use Rattle.report_texts.proofs.graphs.is_text_of.Goals as goal

pub returns : goal.returns
returns c = let e = all_lines c.args.text.now c.requires in search (rules, e)
