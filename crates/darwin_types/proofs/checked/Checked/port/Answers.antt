use Rattle.std.proofs.Common.{◌∙◌, ◌<◌, ap, sym, refl, length, Some, arith}
use Rattle.std.proofs.lemmas.List.{length-map}
use Rattle.std.proofs.lemmas.Option.{slice_get_read}
use Rattle.darwin_parser.specs.Tree.{component_of}
use Rattle.darwin_types.specs.Check.{names_in_component}
use Rattle.darwin_types.proofs.Components.{port-at}
use Rattle.darwin_types.proofs.checked.Checked.port.Goals as goal

pub index-requires : goal.index-requires
index-requires c =
    let d = c.args.self.now in
    let items = d.unit.components.items in
    omega (arith, ap length d.with_ports ∙ length-map items names_in_component, length-map items component_of, d.ports.ok.0, c.requires)

pub returns : goal.returns
returns c =
    let d = c.args.self.now in
    let items = d.unit.components.items in
    let within : c.args.place < length d.ports.items = omega (arith, ap length d.with_ports ∙ length-map items names_in_component, length-map items component_of, c.requires) in
    port-at items d.ports.items c.args.place c.index.result.now c.args.name.now d.with_ports
    (slice_get_read d.ports.items (length d.ports.items) c.args.place c.index.result.now refl within c.index.ensures)
    ∙ ap Some (sym c.position.ensures.place)
