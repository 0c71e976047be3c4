use Rattle.report_texts.proofs.FaultLemmas.{no_memory}
use Rattle.report_texts.proofs.ParsingLemmas.{always_one, never_both, same_fault}
use Rattle.report_texts.proofs.laws.one_report_or_one_fault.Goals as goal

pub returns-clause-always_one : goal.returns-clause-always_one
returns-clause-always_one c = always_one

pub returns-clause-never_both : goal.returns-clause-never_both
returns-clause-never_both c = never_both

pub returns-clause-one_fault : goal.returns-clause-one_fault
returns-clause-one_fault c = same_fault

pub returns-clause-no_want_of_memory : goal.returns-clause-no_want_of_memory
returns-clause-no_want_of_memory c = no_memory
