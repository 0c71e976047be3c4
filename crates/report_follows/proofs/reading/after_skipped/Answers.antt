use Rattle.std.proofs.Common.{◌≡◌, ◌∙◌, List, ◌++◌, ap, refl}
use Rattle.report_types.specs.declared.report.HistoryLine.{HistoryLine as Line}
use Rattle.change_spec.specs.Follows.{skip_lines}
use Rattle.report_follows.specs.Fronts.{behind_skipped}
use Rattle.report_follows.proofs.FoundLemmas.{none_found, some_found}
use Rattle.report_follows.proofs.StillLemmas.{skipped_finds, skipped_means}
use Rattle.report_follows.proofs.reading.after_skipped.Goals as goal

pub returns-clause-found : goal.returns-clause-found
returns-clause-found c =
    let ls = c.args.lines.now in
    let name = c.args.name.now in
    let args = c.args.args.now in
    some_found (λ s. s.now) (λ (xs : List Line). xs ≡ skip_lines name args) ls (behind_skipped name args ls) c.behind_skipped.result c.behind_skipped.ensures
    (λ rest is. record { front = skip_lines name args; is = refl; parts = skipped_means name args ls rest is })

pub returns-clause-none : goal.returns-clause-none
returns-clause-none c =
    let ls = c.args.lines.now in
    let name = c.args.name.now in
    let args = c.args.args.now in
    none_found (λ s. s.now) (λ (xs : List Line). xs ≡ skip_lines name args) ls (behind_skipped name args ls) c.behind_skipped.result c.behind_skipped.ensures
    (λ front rest is are. skipped_finds name args ls rest (are ∙ ap (λ xs. xs ++ rest) is))
