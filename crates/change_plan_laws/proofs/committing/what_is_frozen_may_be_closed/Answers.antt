use Rattle.change_plan_laws.specs.Commit.{ports_to_close}
use Rattle.change_plan_laws.proofs.GateLemmas.{close_at, is_closed_for_it, unclosed}
use Rattle.quiesce_laws.proofs.MemberLaws.{contains_in}
use Rattle.change_plan_laws.proofs.committing.what_is_frozen_may_be_closed.Goals as goal

pub returns-clause-allowed : goal.returns-clause-allowed
returns-clause-allowed c = λ old plan es more_ left e run is. close_at old plan es more_ left e run is

pub returns-clause-all : goal.returns-clause-all
returns-clause-all c = λ old plan d p low frozen. is_closed_for_it old plan d p low frozen

pub returns-clause-no_others : goal.returns-clause-no_others
returns-clause-no_others c = λ old plan d p unfrozen there. unclosed old plan d p unfrozen (contains_in (ports_to_close old plan d) p there)
