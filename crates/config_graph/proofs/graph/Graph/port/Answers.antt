use Rattle.std.proofs.Common.{◌∙◌, ap}
use Rattle.config_graph.specs.Graph.{ports}
use Rattle.config_graph.proofs.LinkLaws.{number_read, require_read}
use Rattle.config_graph.proofs.graph.Graph.port.Goals as goal

pub returns-clause-number : goal.returns-clause-number
returns-clause-number c =
    number_read c.args.self.now.nodes c.ports.result.now c.args.number _ (c.ports.ensures.ports ∙ ap (λ g. ports g.nodes) c.self.view_is) c.requires

pub returns-clause-within : goal.returns-clause-within
returns-clause-within c =
    require_read c.args.self.now.nodes c.ports.result.now c.args.number _ (c.ports.ensures.ports ∙ ap (λ g. ports g.nodes) c.self.view_is) c.requires
