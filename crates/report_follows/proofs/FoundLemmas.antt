-- What is found, or not, where a computed front is.
use Rattle.std.proofs.Common.{◌≡◌, ◌∙◌, List, Option, Some, None, sym}
use Rattle.std.specs.Prelude.{◌++◌, IfNone, IfSome, MatchOption}
use Rattle.std.proofs.lemmas.Option.{none-some}
use Rattle.report_types.specs.declared.report.HistoryLine.{HistoryLine}
use Rattle.report_follows.specs.Fronts.{HasNoFront, LeadsTo}

module _ {A : Type 0} (now : A → List HistoryLine) (Is : List HistoryLine → Type 0) (lines : List HistoryLine) (computed : Option (List HistoryLine)) where
  abbrev pub Computed : Option A → Type 0
  Computed o = MatchOption o (computed ≡ None) (λ rest. computed ≡ Some (now rest))

  pub some_found : (o : Option A) → Computed o → ((rest : List HistoryLine) → computed ≡ Some rest → LeadsTo Is lines rest) → IfSome o (λ rest. LeadsTo Is lines (now rest))
  some_found None c means = tt
  some_found (Some a) c means = means (now a) c

  pub none_found : (o : Option A) → Computed o → ((front rest : List HistoryLine) → Is front → lines ≡ front ++ rest → computed ≡ Some rest) → IfNone o (HasNoFront Is lines)
  none_found None c finds = λ front rest is are. none-some rest (sym c ∙ finds front rest is are)
  none_found (Some a) c finds = tt
