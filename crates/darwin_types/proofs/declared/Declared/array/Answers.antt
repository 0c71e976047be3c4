use Rattle.std.proofs.Common.{ap, sym, ◌∙◌, Some, None, option_map, refl, length}
use Rattle.std.proofs.lemmas.Option.{slice_get_read}
use Rattle.darwin_parser.specs.Tree.{array_of}
use Rattle.darwin_types.proofs.Components.{array_named-at, within_arrays}
use Rattle.darwin_types.proofs.declared.Declared.array.Goals as goal

pub returns-in_err-place : goal.returns-in_err-place
returns-in_err-place c =
    let d = c.args.self.now in
    ap (option_map (λ a. array_of a.now)) c.from_residual.ensures ∙ sym (array_named-at d.component.now c.args.name.now None (rw (c.as_bytes.ensures, d.arrays_named) at c.in_err-place.ensures.place))

pub returns : goal.returns
returns c =
    let d = c.args.self.now in
    let x = c.index-arrays-place.result in
    let place = rw (c.as_bytes.ensures, d.arrays_named) at c.in_ok-place.ensures.place in
    let within = within_arrays d.component.now d.arrays c.in_ok-place.place d.arrays_named c.in_ok-place.ensures.within in
    let at = slice_get_read d.component.now.arrays.items (length d.component.now.arrays.items) c.in_ok-place.place x refl within (rw c.as_slice-arrays.ensures.value at c.index-arrays-place.is) in
    sym (array_named-at d.component.now c.args.name.now (Some c.in_ok-place.place) place ∙ ap (option_map array_of) at)
