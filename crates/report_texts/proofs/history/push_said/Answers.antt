use Rattle.std.proofs.Common.{◌≡◌, ◌&&◌, Some, true, rules}
use Rattle.report_lines.specs.Parts.{words}
use Rattle.report_lines.specs.Readings.{line_in}
use Rattle.report_texts.specs.Limits.{line_keeps}
use Rattle.report_texts.specs.Stages.{stands}
use Rattle.report_texts.proofs.PastLemmas.{said_step}
use Rattle.report_texts.proofs.history.push_said.Goals as goal

pub returns : goal.returns
returns c =
    let said : line_in (words c.args.line.now) ≡ Some c.in-Some.says = search rules in
    let fits : (line_keeps c.args.version c.in-Some.says && stands c.args.place.made c.args.place.above c.in-Some.says) ≡ true = search rules in
    said_step c.args.version c.args.history.now.items c.push.new.self.items c.args.place.above c.and-next.result.above c.args.line.now c.in-Some.says c.args.place.made c.and-next.result.made
    said fits c.requires.made c.and-next.ensures.made c.and-next.ensures.above c.in_ok-push.ensures.items
