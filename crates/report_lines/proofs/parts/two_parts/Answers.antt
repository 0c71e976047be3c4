use Rattle.std.proofs.Common.{rules, ◌≡◌, false}
use Rattle.std.specs.Option.{is_none}
use Rattle.report_lines.proofs.PartLemmas.{cut_more}
use Rattle.report_lines.proofs.parts.two_parts.Goals as goal

pub returns-else-is_none : goal.returns-else-is_none
returns-else-is_none c =
    let some : is_none c.cut-2.result.1 ≡ false = search rules in
    let more = cut_more c.args.at c.args.bytes.now c.cut.result.0.now c.in_ok-rest.rest.now c.cut-2.result.0.now c.cut-2.result.1 in
    search (rules, some, more)
