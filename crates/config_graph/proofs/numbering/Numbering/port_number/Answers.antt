use Rattle.std.proofs.Common.{◌≡◌, ◌+◌, ◌<◌, ◌^◌, arith, length}
use Rattle.config_graph.specs.Graph.{requires_of, ports, port_number}
use Rattle.config_graph.proofs.NumberingLaws.{start_within, port_is, port_below}
use Rattle.config_graph.proofs.numbering.Numbering.port_number.Goals as goal
use Rattle.config_graph.proofs.numbering.Numbering.port_number.Goals.{After-index}

pub index-requires : goal.index-requires
index-requires c =
    omega (arith, c.self.inside.starts.ok.0, start_within _ _ _ _ c.self.view_is c.self.invariant requires_of c.args.node c.args.require c.requires)

number : (c : After-index) → c.index.result.now.port + c.args.require ≡ port_number c.args.self.now c.args.node c.args.require
number c = port_is _ _ _ _ c.self.view_is c.self.invariant _ _ _ c.requires c.index.ensures

few : (c : After-index) → length (ports c.args.self.now) < 2 ^ 32
few c = rw (← c.self.view_is) c.self.invariant.few_ports

pub overflow_add-result : goal.overflow_add-result
overflow_add-result c = omega (arith, number c, few c, port_below c.args.self.now c.args.node c.args.require c.requires)

pub returns-clause-number : goal.returns-clause-number
returns-clause-number c = number c

pub returns-clause-within : goal.returns-clause-within
returns-clause-within c = omega (arith, number c, port_below c.args.self.now c.args.node c.args.require c.requires)
