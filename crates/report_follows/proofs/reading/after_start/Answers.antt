use Rattle.std.proofs.Common.{◌≡◌, ◌∙◌, List, [], ◌∷◌, ◌++◌, ap, refl}
use Rattle.report_types.specs.declared.report.HistoryLine.{HistoryLine as Line}
use Rattle.report_types.specs.declared.report.HistoryLine.TheVariants as to
use Rattle.change_spec.specs.Members.{lines_of_events}
use Rattle.report_follows.specs.Fronts.{behind_start}
use Rattle.report_follows.proofs.FoundLemmas.{none_found, some_found}
use Rattle.report_follows.proofs.OpeningLemmas.{start_finds, start_means}
use Rattle.report_follows.proofs.reading.after_start.Goals as goal

pub returns-clause-found : goal.returns-clause-found
returns-clause-found c =
    let ls = c.args.lines.now in
    let name = c.args.name.now in
    let args = c.args.args.now in
    let es = c.args.events.now in
    some_found (λ s. s.now) (λ (xs : List Line). xs ≡ to.Start name args ∷ lines_of_events es ++ to.Commit ∷ []) ls (behind_start name args es ls) c.behind_start.result c.behind_start.ensures
    (λ rest is. record { front = to.Start name args ∷ lines_of_events es ++ to.Commit ∷ []; is = refl; parts = start_means name args es ls rest c.requires.tellable is })

pub returns-clause-none : goal.returns-clause-none
returns-clause-none c =
    let ls = c.args.lines.now in
    let name = c.args.name.now in
    let args = c.args.args.now in
    let es = c.args.events.now in
    none_found (λ s. s.now) (λ (xs : List Line). xs ≡ to.Start name args ∷ lines_of_events es ++ to.Commit ∷ []) ls (behind_start name args es ls) c.behind_start.result c.behind_start.ensures
    (λ front rest is are. start_finds name args es ls rest c.requires.tellable (are ∙ ap (λ xs. xs ++ rest) is))
