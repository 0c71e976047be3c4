use Rattle.quiesce_core.proofs.EngagedLaws.{services_keep_bounds}
use Rattle.quiesce_core.proofs.run_laws.services_keep_their_bounds.Goals as goal

pub returns : goal.returns
returns c = record {
  calls = λ es n v run serves. (services_keep_bounds es run n v serves).0;
  mores = λ es n v run serves. (services_keep_bounds es run n v serves).1;
}
