use Rattle.std.proofs.Common.{subst, ◌∷◌, []}
use Rattle.std.specs.Option.{option_map_or}
use Rattle.darwin_parser.specs.Tree.{component_of}
use Rattle.darwin_types.specs.declared.error.TypeError.TheVariants.{UnknownKind, KindPorts}
use Rattle.darwin_types.specs.Primitive.{is_like_kind}
use Rattle.darwin_types.specs.Check.{Judges, unless}
use Rattle.darwin_types.proofs.primitive.check_primitive.Goals as goal

pub returns-in-None : goal.returns-in-None
returns-in-None c =
    let d = component_of c.args.component.now in
    subst (λ o. Judges (option_map_or (λ k. unless (is_like_kind k d) (KindPorts d.name)) o (UnknownKind d.name ∷ [])) c.unknown_kind.result) (rw c.as_bytes.ensures at c.in-None.ensures.named) c.unknown_kind.ensures

pub returns-else-is_like_kind : goal.returns-else-is_like_kind
returns-else-is_like_kind c =
    let d = component_of c.args.component.now in
    subst (λ o. Judges (option_map_or (λ k. unless (is_like_kind k d) (KindPorts d.name)) o (UnknownKind d.name ∷ [])) c.kind_ports.result) (rw c.as_bytes.ensures at c.in-Some.ensures.named) (subst (λ b. Judges (unless b (KindPorts d.name)) c.kind_ports.result) c.if-is_like_kind.ensures c.kind_ports.ensures)
