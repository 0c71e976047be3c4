use Rattle.merge_laws.proofs.LawfulLemmas as laws
use Rattle.merge_laws.proofs.lawful.lawful_reports_are_found.Goals as goal

pub returns : goal.returns
returns c = laws.lawful_reports_are_found
