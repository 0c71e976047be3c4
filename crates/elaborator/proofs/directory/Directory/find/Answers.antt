use Rattle.std.proofs.Common.{◌∙◌, refl, arith}
use Rattle.std.proofs.lemmas.Option.{slice_get_read}
use Rattle.darwin_types.specs.Checked.{description}
use Rattle.elaborator.proofs.NamingLemmas.{place_among, component-none, component-at, primitive_told}
use Rattle.base.proofs.FindLaws.{position_within}
use Rattle.elaborator.proofs.directory.Directory.find.Goals as goal

pub returns-in_err-place : goal.returns-in_err-place
returns-in_err-place c =
    let d = c.args.self.now in
    let items = d.unit.now.components.items in
    let name = c.args.name.now in
    rw c.from_residual.ensures (component-none items name (place_among items (description d.checked.now) name _ d.same_names c.component.ensures.place ∙ c.in_err-place.was))

pub is_primitive-is_primitive-requires : goal.is_primitive-is_primitive-requires
is_primitive-is_primitive-requires c = rw c.in_ok-place.was at c.component.ensures.within

pub index-requires : goal.index-requires
index-requires c =
    let d = c.args.self.now in
    let items = d.unit.now.components.items in
    let name = c.args.name.now in
    omega (arith, d.unit.now.components.ok.0, position_within _ items c.in_ok-place.place (place_among items (description d.checked.now) name _ d.same_names c.component.ensures.place ∙ c.in_ok-place.was))

pub returns : goal.returns
returns c =
    let d = c.args.self.now in
    let name = c.args.name.now in
    let items = d.unit.now.components.items in
    let u = description d.checked.now in
    let k = c.in_ok-place.place in
    let x = c.index.result.now in
    let place = place_among items u name _ d.same_names c.component.ensures.place ∙ c.in_ok-place.was in
    let at = slice_get_read items _ k x refl (position_within _ items k place) c.index.ensures in
    record {
      named = component-at items name k x place at;
      primitive = primitive_told items u k x _ d.same_kinds c.is_primitive-is_primitive.ensures at;
    }
