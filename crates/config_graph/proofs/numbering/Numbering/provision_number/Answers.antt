use Rattle.std.proofs.Common.{◌≡◌, ◌+◌, ◌<◌, ◌^◌, arith, length}
use Rattle.config_graph.specs.Graph.{provides_of}
use Rattle.config_graph.specs.Numbering.{provision_number}
use Rattle.config_graph.proofs.NumberingLaws.{start_within, provision_is, provision_below, provisions-le}
use Rattle.config_graph.proofs.numbering.Numbering.provision_number.Goals as goal
use Rattle.config_graph.proofs.numbering.Numbering.provision_number.Goals.{After-index}

pub index-requires : goal.index-requires
index-requires c =
    omega (arith, c.self.inside.starts.ok.0, start_within _ _ _ _ c.self.view_is c.self.invariant provides_of c.args.node c.args.provide c.requires)

number : (c : After-index) → c.index.result.now.provision + c.args.provide ≡ provision_number c.args.self.now c.args.node c.args.provide
number c = provision_is _ _ _ _ c.self.view_is c.self.invariant _ _ _ c.requires c.index.ensures

few : (c : After-index) → length c.args.self.now < 2 ^ 32
few c = rw (← c.self.view_is) c.self.invariant.few_nodes

pub overflow_add-result : goal.overflow_add-result
overflow_add-result c =
    omega (arith, number c, few c, provisions-le c.args.self.now, provision_below c.args.self.now c.args.node c.args.provide c.requires)

pub returns-clause-number : goal.returns-clause-number
returns-clause-number c = number c

pub returns-clause-within : goal.returns-clause-within
returns-clause-within c = omega (arith, number c, provision_below c.args.self.now c.args.node c.args.provide c.requires)
