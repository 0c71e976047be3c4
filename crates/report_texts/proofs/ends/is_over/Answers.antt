use Rattle.std.proofs.Common.{rules}
use Rattle.report_texts.proofs.LineLemmas.{over_is}
use Rattle.report_texts.proofs.ends.is_over.Goals as goal

pub returns : goal.returns
returns c = let e = over_is c.args.rest.text.now in search (rules, e)
