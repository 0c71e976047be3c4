use Rattle.std.proofs.Common.{◌==◌, arith}
use Rattle.base.proofs.LinesLaws.{cut_none, cut_at}
use Rattle.change_script.proofs.cuts.cut.Goals as goal

pub returns-then-len-bytes-clause-cut : goal.returns-then-len-bytes-clause-cut
returns-then-len-bytes-clause-cut c = cut_at (λ b. b == c.args.at) c.args.bytes.now _ c.len_before-len.ensures.len (omega arith)

pub returns-else-len-bytes-clause-cut : goal.returns-else-len-bytes-clause-cut
returns-else-len-bytes-clause-cut c = cut_none (λ b. b == c.args.at) c.args.bytes.now (omega arith)
