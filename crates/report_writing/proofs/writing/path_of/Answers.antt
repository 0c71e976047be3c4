use Rattle.std.proofs.Common.{sym, ◌∙◌}
use Rattle.report_writing.proofs.ReportTextLemmas.{path_found}
use Rattle.report_writing.proofs.writing.path_of.Goals as goal

pub returns-in-Some : goal.returns-in-Some
returns-in-Some c =
    let h = c.in-Some.ensures in
    sym h.3 ∙ path_found c.args.made.now c.args.slot h.0 c.requires h.1 h.2
