use Rattle.quiesce_core.specs.Runs.{state_after}
use Rattle.quiesce_laws.proofs.MemberLaws.{contains_in}
use Rattle.change_plan_laws.specs.Commit.{work}
use Rattle.change_plan_laws.proofs.CommitLemmas.{allowed_at, events_may, runs_to_its_end, whole}
use Rattle.change_plan_laws.proofs.TakingOverLemmas.{handed_over}
use Rattle.change_plan_laws.proofs.committing.commits_can_not_fail.Goals as goal

pub returns-clause-is_commit : goal.returns-clause-is_commit
returns-clause-is_commit c = λ old new moves plan es may. whole old new moves plan es may

pub returns-clause-handed_over : goal.returns-clause-handed_over
returns-clause-handed_over c = λ old new moves plan es m k may there. handed_over old new moves plan es may m (contains_in (work old new plan (state_after es).config).makes m there) k

pub returns-clause-by_the_configuration : goal.returns-clause-by_the_configuration
returns-clause-by_the_configuration c = λ old new moves plan es may. events_may old new moves plan es may

pub returns-clause-allowed : goal.returns-clause-allowed
returns-clause-allowed c = λ old new moves plan es more_ left e may run is. allowed_at old new moves plan es may more_ left e run is

pub returns-clause-runs : goal.returns-clause-runs
returns-clause-runs c = λ old new moves plan es may. runs_to_its_end old new moves plan es may
