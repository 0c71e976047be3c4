use Rattle.std.proofs.Common.{◌≡◌, ◌≢◌, ◌∙◌, ℕ, length, refl, ap, sym, subst, arith}
use Rattle.darwin_parser.specs.Tree.{tree_of, component_of}
use Rattle.elaborator.specs.Faults.{Faults}
use Rattle.darwin_types.specs.Faults.{carried}
use Rattle.elaborator.specs.Faults.Faults.{no_top, top_is_kind, top_args}
use Rattle.elaborator.specs.declared.error.ElabError.TheVariants as error
use Rattle.elaborator.proofs.NamingLemmas.{named_own, top_is}
use Rattle.elaborator.proofs.elaborating.top_of.Goals as goal

pub returns-in_default : goal.returns-in_default
returns-in_default c = λ other.
    subst (λ name. Faults (tree_of c.args.directory.now.unit.now) c.args.name.now c.args.args.now (error.NoTop name)) (sym c.in_ok-from_bytes.ensures) (no_top c.in_default.ensures)

pub returns-then-entry : goal.returns-then-entry
returns-then-entry c = λ other.
    let component = component_of c.in-Some.entry.component.now in
    subst (λ name. Faults (tree_of c.args.directory.now.unit.now) c.args.name.now c.args.args.now (error.TopIsKind name)) (sym c.in_ok-from_bytes-2.ensures) (top_is_kind component c.in-Some.ensures.named (sym c.in-Some.ensures.primitive ∙ c.if-entry.true))

pub returns-then-len-args : goal.returns-then-len-args
returns-then-len-args c = λ other.
    let component = component_of c.in-Some.entry.component.now in
    let named = c.in-Some.ensures.named in
    let differ : length component.params ≢ length c.args.args.now = λ same. grind (arith, same, c.len.ensures, c.if-len-args.true) in
    let wanted : c.carried.result ≡ carried (length component.params) = c.carried.ensures ∙ ap carried (omega (arith, c.len-then-len-args.ensures, c.in-Some.entry.component.now.params.ok.0)) in
    let fault : ℕ → ℕ → Type 0 = λ w g. Faults (tree_of c.args.directory.now.unit.now) c.args.name.now c.args.args.now (error.TopArgs w g) in
    subst (λ w. fault w c.carried-then-len-args.result) (sym wanted) (subst (fault (carried (length component.params))) (sym c.carried-then-len-args.ensures) (top_args component named differ))

pub returns : goal.returns
returns c =
    let tree = tree_of c.args.directory.now.unit.now in
    let component = component_of c.in-Some.entry.component.now in
    let composite = sym c.in-Some.ensures.primitive ∙ c.if-entry.false in
    let params : length component.params ≡ length c.args.args.now = grind (arith, c.len.ensures, c.if-len-args.false, c.in-Some.entry.component.now.params.ok.0) in (
      record { named = named_own tree c.args.name.now component c.in-Some.ensures.named; unmade = refl; depth = refl; composite = composite; noted = refl },
      top_is tree c.args.name.now c.args.args.now component c.in_ok-from_bytes-3.field-0 _ c.in-Some.ensures.named composite params c.in_ok-from_bytes-3.ensures c.in_ok-parameters_of.ensures,
    )
