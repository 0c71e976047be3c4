use Rattle.worked_report_laws.proofs.WrongDrainLemmas.{not_hasty}
use Rattle.worked_report_laws.proofs.WrongLookLemmas.{not_early, not_outdated}
use Rattle.worked_report_laws.proofs.wrong.wrong_looks_are_refuted.Goals as goal

pub returns : goal.returns
returns c = record { early = not_early; hasty = not_hasty c.open_roots_are_seen.ensures; outdated = not_outdated }
