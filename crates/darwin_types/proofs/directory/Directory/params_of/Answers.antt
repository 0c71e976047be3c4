use Rattle.std.proofs.Common.{◌≡◌, ap, sym, ◌∙◌, Some, refl, length, position, bytes_eq, vec_len}
use Rattle.std.proofs.lemmas.Option.{slice_get_read}
use Rattle.darwin_types.proofs.Components.{params_of_named-at, params_of_named-none, within_components}
use Rattle.darwin_types.proofs.directory.Directory.params_of.Goals as goal

pub returns-in_err-index : goal.returns-in_err-index
returns-in_err-index c =
    let d = c.args.self.now in
    c.from_residual.ensures ∙ sym (params_of_named-none d.components.now c.args.name.now (c.in_err-index.ensures.place ∙ ap (position (bytes_eq c.args.name.now)) d.named))

pub returns : goal.returns
returns c =
    let d = c.args.self.now in
    let i = c.in_ok-index.index in
    let x = c.index-self-index.result in
    let place = c.in_ok-index.ensures.place ∙ ap (position (bytes_eq c.args.name.now)) d.named in
    let within = within_components d.components.now d.names i d.named c.in_ok-index.ensures.within in
    let at = slice_get_read d.components.now (length d.components.now) i x refl within c.index-self-index.is in
    let count : c.len.result ≡ length x.params.items = c.len.ensures ∙ ap (λ y. vec_len y.params) (sym c.index-self-index.is) ∙ x.params.ok.0 in
    ap Some count ∙ sym (params_of_named-at d.components.now c.args.name.now i x place at)
