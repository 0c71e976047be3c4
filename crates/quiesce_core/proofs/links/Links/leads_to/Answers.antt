use Rattle.std.proofs.Common.{◌&&◌, ap}
use Rattle.std.specs.List.{list_any}
use Rattle.quiesce_core.specs.State.{is_depended}
use Rattle.quiesce_core.specs.Reach.{reaches}
use Rattle.config_graph.specs.declared.TheConstants.{MAX_PORTS}
use Rattle.quiesce_core.specs.Links.{config_in}
use Rattle.quiesce_core.proofs.ReachLaws.{none_known}
use Rattle.quiesce_core.proofs.links.Links.leads_to.Goals as goal

pub loop-port-init : goal.loop-port-init
loop-port-init c = record { known = none_known (config_in c.args.self.now) c.args.other MAX_PORTS; left = ap (λ ps. list_any (λ q. is_depended (config_in c.args.self.now) c.args.node q && reaches (config_in c.args.self.now) c.args.other q) ps) c.ports_of-ports.ensures.ports }
