use Rattle.std.proofs.Common.{rules}
use Rattle.report_lines.proofs.PartLemmas.{end_if_none}
use Rattle.report_lines.proofs.parts.is_used_up.Goals as goal

pub returns : goal.returns
returns c = let e = end_if_none 32 c.args.words in search (rules, e)
