use Rattle.std.proofs.Common.{◌∙◌, sym}
use Rattle.std.proofs.lemmas.Option.{none-some}
use Rattle.darwin_types.specs.Checked.{description}
use Rattle.elaborator.proofs.NamingLemmas.{place_among, component-none, port_told}
use Rattle.elaborator.proofs.directory.Directory.port_place.Goals as goal

pub returns-in_err-place : goal.returns-in_err-place
returns-in_err-place c = λ x named.
    let d = c.args.self.now in
    let items = d.unit.now.components.items in
    let name = c.args.component.now in
    let place = place_among items (description d.checked.now) name _ d.same_names c.component.ensures.place ∙ c.in_err-place.was in
    absurd (none-some x (sym (component-none items name place) ∙ named))

pub port-requires : goal.port-requires
port-requires c = rw c.in_ok-place.was at c.component.ensures.within

pub returns : goal.returns
returns c = λ x named.
    let d = c.args.self.now in
    let u = description d.checked.now in
    let items = d.unit.now.components.items in
    let name = c.args.component.now in
    let place = place_among items u name _ d.same_names c.component.ensures.place ∙ c.in_ok-place.was in
    port_told items u name c.args.name.now c.in_ok-place.place x c.port.result d.same_ports place named c.port.ensures
