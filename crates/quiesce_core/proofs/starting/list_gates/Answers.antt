use Rattle.std.proofs.Common.{map, ap, ◌∙◌, arith}
use Rattle.std.proofs.lemmas.List.{take_all}
use Rattle.config_graph.specs.Graph.{ports}
use Rattle.quiesce_core.specs.declared.state.Gate.{Gate}
use Rattle.std.proofs.Common.{false}
use Rattle.quiesce_core.specs.Start.{gate_of}
use Rattle.quiesce_core.proofs.starting.list_gates.Goals as goal
use Rattle.base.proofs.MapLaws.{mapped_more}

pub loop-number-preserved : goal.loop-number-preserved
loop-number-preserved c =
    let gate : Gate = record { owner = c.port-port.result.node; require = c.port-port.result.require; closed = false; target = c.target.result } in
    mapped_more (gate_of c.args.graph.now) (ports c.args.graph.now.nodes) c.loop-number.number c.port-port.result c.loop-number.gates.items c.push.new.self.items gate
    c.port-port.ensures.port c.loop-number.invariant
    (ap (λ t. record { owner = c.port-port.result.node; require = c.port-port.result.require; closed = false; target = t }) c.target.ensures.target)
    c.in_ok-push.ensures.items

pub returns : goal.returns
returns c =
    let all_ports = ports c.args.graph.now.nodes in
    c.loop-number.invariant ∙ ap (λ xs. map (gate_of c.args.graph.now) xs) (take_all c.loop-number.number all_ports (omega (arith, c.loop-number-test.false, c.port_count-number-end.ensures)))
