use Rattle.change_spec.specs.Follows.{IsRunLine}
use Rattle.report_follows.specs.Fronts.{behind_first, is_run_line}
use Rattle.report_follows.proofs.FoundLemmas.{none_found, some_found}
use Rattle.report_follows.proofs.StillLemmas.{run_finds, run_means}
use Rattle.report_follows.proofs.reading.after_run.Goals as goal

pub returns-clause-found : goal.returns-clause-found
returns-clause-found c =
    let ls = c.args.lines.now in
    some_found (λ s. s.now) (IsRunLine c.args.k) ls (behind_first (is_run_line c.args.k) ls) c.behind_run.result c.behind_run.ensures (run_means c.args.k ls)

pub returns-clause-none : goal.returns-clause-none
returns-clause-none c =
    let ls = c.args.lines.now in
    none_found (λ s. s.now) (IsRunLine c.args.k) ls (behind_first (is_run_line c.args.k) ls) c.behind_run.result c.behind_run.ensures (run_finds c.args.k ls)
