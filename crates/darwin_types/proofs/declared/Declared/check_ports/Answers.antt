use Rattle.std.proofs.Common.{◌∙◌, map, drop}
use Rattle.base.proofs.AnswerLaws.{Answers-exit}
use Rattle.darwin_parser.specs.Tree.{port_of}
use Rattle.darwin_types.specs.NameUses.{port_uses}
use Rattle.darwin_types.specs.Check.{uses_faults}
use Rattle.darwin_types.specs.Within.{tree_in, component_in}
use Rattle.darwin_types.proofs.UseFaults.{uses_faults-flat_map}
use Rattle.darwin_types.proofs.declared.Declared.check_ports.Goals as goal
use Rattle.base.proofs.ContainsLaws.{Contains-from}

pub returns-in_err-check_optional_value : goal.returns-in_err-check_optional_value
returns-in_err-check_optional_value c =
    let t = tree_in c.args.self.now in
    let k = component_in c.args.self.now in
    let ports = c.args.ports.now in
    let i = c.loop-port.port-index in
    let rest = c.loop-port.invariant ∙ uses_faults-flat_map t k (port_uses c.args.params.now) (map port_of (drop i ports)) in
    Answers-exit _ _ c.from_residual.ensures.1 (Contains-from (λ q. uses_faults t k (port_uses c.args.params.now q)) port_of ports i c.port-item.result _ c.loop-port-test.true c.port-item.is rest) c.in_err-check_optional_value.ensures
