use Rattle.std.proofs.Common.{◌≡◌, ◌∙◌, ap, map}
use Rattle.std.proofs.lemmas.Result.{IfOk-weaker}
use Rattle.change_plan.specs.Differences.{GonePorts, link_port}
use Rattle.change_plan.proofs.differences.list_gone_ports.Goals as goal

pub returns : goal.returns
returns c =
    let links = c.in_ok-links.links.items in
    IfOk-weaker c.list_ports.result (λ ports. ports.items ≡ map link_port c.deref.result.now) (λ ports. GonePorts c.args.graph.now c.args.other.now ports.items) (λ ports are. (links, c.in_ok-links.ensures, are ∙ ap (map link_port) c.deref.ensures.value)) c.list_ports.ensures
