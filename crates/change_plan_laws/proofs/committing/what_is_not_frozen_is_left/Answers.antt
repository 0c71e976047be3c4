use Rattle.change_plan_laws.specs.Commit.{ports_to_reopen}
use Rattle.quiesce_laws.proofs.MemberLaws.{contains_in}
use Rattle.change_plan_laws.proofs.WholeLemmas.{unopened}
use Rattle.change_plan_laws.proofs.CommitLemmas.{flag_stays, target_stays}
use Rattle.change_plan_laws.proofs.committing.what_is_not_frozen_is_left.Goals as goal

pub returns-clause-unopened : goal.returns-clause-unopened
returns-clause-unopened c = λ old plan before after p low unfrozen there. unopened old plan before after p low unfrozen (contains_in (ports_to_reopen old plan before after) p there)

pub returns-clause-target : goal.returns-clause-target
returns-clause-target c = λ old new moves plan es more_ left p may low unfrozen is. target_stays old new moves plan es may p low unfrozen more_ left is

pub returns-clause-gate : goal.returns-clause-gate
returns-clause-gate c = λ old new moves plan es more_ left p may low unfrozen is. flag_stays old new moves plan es may p low unfrozen more_ left is
