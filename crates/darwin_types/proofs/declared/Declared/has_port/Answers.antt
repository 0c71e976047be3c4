use Rattle.std.proofs.Common.{ap, sym, ◌∙◌}
use Rattle.darwin_types.specs.Scope.{has}
use Rattle.darwin_types.proofs.Components.{is_some-port_named}
use Rattle.darwin_types.proofs.declared.Declared.has_port.Goals as goal

pub returns : goal.returns
returns c =
    let d = c.args.self.now in
    c.contains.ensures ∙ ap (has d.ports.now) c.as_bytes.ensures ∙ ap (λ ns. has ns c.args.name.now) d.ports_named ∙ sym (is_some-port_named d.component.now c.args.name.now)
