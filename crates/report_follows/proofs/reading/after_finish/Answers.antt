use Rattle.change_spec.specs.Follows.{IsFinishLine}
use Rattle.report_follows.specs.Fronts.{behind_first, is_finish_line}
use Rattle.report_follows.proofs.FoundLemmas.{none_found, some_found}
use Rattle.report_follows.proofs.StillLemmas.{finish_finds, finish_means}
use Rattle.report_follows.proofs.reading.after_finish.Goals as goal

pub returns-clause-found : goal.returns-clause-found
returns-clause-found c =
    let ls = c.args.lines.now in
    some_found (λ s. s.now) (IsFinishLine c.args.n) ls (behind_first (is_finish_line c.args.n) ls) c.behind_finish.result c.behind_finish.ensures (finish_means c.args.n ls)

pub returns-clause-none : goal.returns-clause-none
returns-clause-none c =
    let ls = c.args.lines.now in
    none_found (λ s. s.now) (IsFinishLine c.args.n) ls (behind_first (is_finish_line c.args.n) ls) c.behind_finish.result c.behind_finish.ensures (finish_finds c.args.n ls)
