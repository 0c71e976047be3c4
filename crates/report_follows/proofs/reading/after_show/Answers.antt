use Rattle.change_spec.specs.Follows.{IsShowLine}
use Rattle.report_follows.specs.Fronts.{behind_first, is_show_line}
use Rattle.report_follows.proofs.FoundLemmas.{none_found, some_found}
use Rattle.report_follows.proofs.StillLemmas.{show_finds, show_means}
use Rattle.report_follows.proofs.reading.after_show.Goals as goal

pub returns-clause-found : goal.returns-clause-found
returns-clause-found c =
    let ls = c.args.lines.now in
    some_found (λ s. s.now) IsShowLine ls (behind_first is_show_line ls) c.behind_show.result c.behind_show.ensures (show_means ls)

pub returns-clause-none : goal.returns-clause-none
returns-clause-none c =
    let ls = c.args.lines.now in
    none_found (λ s. s.now) IsShowLine ls (behind_first is_show_line ls) c.behind_show.result c.behind_show.ensures (show_finds ls)
