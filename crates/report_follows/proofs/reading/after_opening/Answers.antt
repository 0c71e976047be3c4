use Rattle.std.proofs.Common.{◌≡◌, ◌∙◌, List, ◌∷◌, ◌++◌, map, ap, refl}
use Rattle.report_types.specs.declared.report.HistoryLine.{HistoryLine as Line}
use Rattle.report_types.specs.declared.report.HistoryLine.TheVariants as to
use Rattle.report_follows.specs.Fronts.{behind_opening}
use Rattle.report_follows.proofs.FoundLemmas.{none_found, some_found}
use Rattle.report_follows.proofs.OpeningLemmas.{opening_finds, opening_means}
use Rattle.report_follows.proofs.reading.after_opening.Goals as goal

pub returns-clause-found : goal.returns-clause-found
returns-clause-found c =
    let ls = c.args.lines.now in
    let name = c.args.name.now in
    let args = c.args.args.now in
    let closed = c.args.closed.now in
    some_found (λ s. s.now) (λ (xs : List Line). xs ≡ to.Change name args ∷ map to.Close closed) ls (behind_opening name args closed ls) c.behind_opening.result c.behind_opening.ensures
    (λ rest is. record { front = to.Change name args ∷ map to.Close closed; is = refl; parts = opening_means name args closed ls rest is })

pub returns-clause-none : goal.returns-clause-none
returns-clause-none c =
    let ls = c.args.lines.now in
    let name = c.args.name.now in
    let args = c.args.args.now in
    let closed = c.args.closed.now in
    none_found (λ s. s.now) (λ (xs : List Line). xs ≡ to.Change name args ∷ map to.Close closed) ls (behind_opening name args closed ls) c.behind_opening.result c.behind_opening.ensures
    (λ front rest is are. opening_finds name args closed ls rest (are ∙ ap (λ xs. xs ++ rest) is))
