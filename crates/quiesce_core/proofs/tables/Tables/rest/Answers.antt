use Rattle.config_graph.specs.declared.TheConstants.{MAX_NODES}
use Rattle.quiesce_core.specs.Tables.{state_of}
use Rattle.quiesce_core.proofs.RestLaws.{none_counted}
use Rattle.quiesce_core.proofs.tables.Tables.rest.Goals as goal

pub rest_with-requires-clause-known : goal.rest_with-requires-clause-known
rest_with-requires-clause-known c = none_counted (state_of c.args.self.now).config MAX_NODES
