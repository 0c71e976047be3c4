use Rattle.std.proofs.Common.{ap, sym, ◌∙◌}
use Rattle.darwin_types.specs.Scope.{has}
use Rattle.darwin_types.proofs.Components.{is_some-array_named}
use Rattle.darwin_types.proofs.declared.Declared.has_array.Goals as goal

pub returns : goal.returns
returns c =
    let d = c.args.self.now in
    c.contains.ensures ∙ ap (has d.arrays) c.as_bytes.ensures ∙ ap (λ ns. has ns c.args.name.now) d.arrays_named ∙ sym (is_some-array_named d.component.now c.args.name.now)
