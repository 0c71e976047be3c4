use Rattle.std.proofs.Common.{◌∙◌, ap, sym, position}
use Rattle.std.specs.Str.{bytes_eq}
use Rattle.base.proofs.MapLaws.{position-map}
use Rattle.darwin_parser.specs.Tree.{component_of, port_of}
use Rattle.darwin_parser.specs.declared.tree.PortDecl as code
use Rattle.darwin_types.specs.Scope.{component_named}
use Rattle.elaborator.proofs.ports.place_in.Goals as goal

pub returns-then-len-le-FEW_PORTS : goal.returns-then-len-le-FEW_PORTS
returns-then-len-le-FEW_PORTS c =
    let ports = c.args.component.now.ports.items in
    let named = λ (p : code.PortDecl). bytes_eq c.args.name.now p.name in
    c.port_place.ensures ∙ ap (position named) c.as_slice.ensures.value ∙ sym (position-map (λ p. bytes_eq c.args.name.now p.name) port_of ports)

pub returns-else-len-le-FEW_PORTS : goal.returns-else-len-le-FEW_PORTS
returns-else-len-le-FEW_PORTS c = c.port_place-else-len-le-FEW_PORTS.ensures (component_of c.args.component.now) (ap (component_named _) c.as_bytes.ensures ∙ c.requires)
