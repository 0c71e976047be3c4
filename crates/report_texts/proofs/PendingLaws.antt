-- Which lines a history ends with.
use Rattle.std.proofs.Common.{◌≡◌, List, [], ◌∷◌, ◌++◌, refl}
use Rattle.report_types.specs.declared.report.HistoryLine.{HistoryLine}
use Rattle.report_texts.specs.ReportTexts.{ends_pending, is_pending_or_root}

-- what the last line of a history is
pub ends_so : (past : List HistoryLine) (says : HistoryLine) → ends_pending (past ++ says ∷ []) ≡ is_pending_or_root says
ends_so [] says = refl
ends_so (first ∷ []) says = refl
ends_so (first ∷ next ∷ more) says = ends_so (next ∷ more) says
