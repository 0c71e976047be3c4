use Rattle.std.proofs.Common.{◌∙◌, ap, sym, position, bytes_eq}
use Rattle.base.proofs.MapLaws.{position-map}
use Rattle.darwin_parser.specs.Tree.{component_of}
use Rattle.darwin_types.proofs.checked.Checked.component.Goals as goal

pub returns-clause-place : goal.returns-clause-place
returns-clause-place c =
    let d = c.args.self.now in
    let name = c.args.name.now in
    let items = d.unit.components.items in
    c.position.ensures.place ∙ ap (position (bytes_eq name)) d.named ∙ position-map (bytes_eq name) (λ k. k.name) items
    ∙ sym (position-map (λ k. bytes_eq name k.name) component_of items)
