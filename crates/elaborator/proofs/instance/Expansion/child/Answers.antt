use Rattle.std.proofs.Common.{◌≡◌, ◌∙◌, Some, refl, sym, ap, arith}
use Rattle.std.specs.List.{slice_get}
use Rattle.std.proofs.lemmas.Bool.{false≢true}
use Rattle.std.proofs.lemmas.Option.{slice_get_read, same_Some, slice_get_within}
use Rattle.base.proofs.PlaceLaws.{slice_get-map_at, slice_get-map_some}
use Rattle.base.proofs.OptionLaws.{same_option, same_option_back}
use Rattle.elaborator.specs.PathNumbers.{path_hash}
use Rattle.elaborator.specs.Expansion.{paths_of, instance_in}
use Rattle.elaborator.specs.declared.instance.Instance as code_instance
use Rattle.elaborator.proofs.ChildLaws.{find-child, find-no_child}
use Rattle.elaborator.proofs.HashLemmas.{start-kept}
use Rattle.elaborator.proofs.instance.Expansion.child.Goals as goal

pub find_from-requires : goal.find_from-requires
find_from-requires c =
    let e = c.args.self.now in
    rw c.as_slice.ensures.value (start-kept (paths_of e) e.numbers (path_hash c.args.path.now) c.last_like-last.result c.requires.mapped.hashed c.last_like-last.ensures)

pub index-requires : goal.index-requires
index-requires c =
    let e = c.args.self.now in
    let found = rw (c.as_slice.ensures.value, c.in_ok-number.was) at c.find_from.ensures in
    let w = slice_get-map_some (λ (i : code_instance.Instance). i.path) e.instances.items c.in_ok-number.number c.args.path.now found.1 in
    omega (arith, e.instances.ok.0, slice_get_within e.instances.items c.in_ok-number.number w.0 w.1)

pub returns-then-eq : goal.returns-then-eq
returns-then-eq c = λ i at.
    let e = c.args.self.now in
    let x = c.index.result.now in
    let found = rw (c.as_slice.ensures.value, c.in_ok-number.was) at c.find_from.ensures in
    let w = slice_get-map_some (λ (i : code_instance.Instance). i.path) e.instances.items c.in_ok-number.number c.args.path.now found.1 in
    let stands = slice_get_read e.instances.items _ c.in_ok-number.number x refl (slice_get_within e.instances.items c.in_ok-number.number w.0 w.1) c.index.ensures in
    let path : x.path ≡ c.args.path.now = ap (λ (y : code_instance.Instance). y.path) (same_Some x w.0 (sym stands ∙ w.1)) ∙ w.2 in
    let child = find-child e c.requires c.args.maker c.in_ok-number.number c.args.path.now i x at stands (same_option x.maker (Some c.args.maker) (sym c.eq.ensures ∙ c.if-eq.true)) path in
    (instance_in x, child.0, child.1)

pub returns-else-eq : goal.returns-else-eq
returns-else-eq c = λ i at.
    let e = c.args.self.now in
    let x = c.index.result.now in
    let found = rw (c.as_slice.ensures.value, c.in_ok-number.was) at c.find_from.ensures in
    let w = slice_get-map_some (λ (i : code_instance.Instance). i.path) e.instances.items c.in_ok-number.number c.args.path.now found.1 in
    let stands = slice_get_read e.instances.items _ c.in_ok-number.number x refl (slice_get_within e.instances.items c.in_ok-number.number w.0 w.1) c.index.ensures in
    find-no_child e c.requires c.args.maker c.args.path.now i at (λ n y positive at_n path is_made.
    let there = slice_get-map_at (λ (z : code_instance.Instance). z.path) e.instances.items n y at_n ∙ ap Some path in
    let same : c.in_ok-number.number ≡ n = c.requires.mapped.distinct c.in_ok-number.number n c.args.path.now found.0 positive found.1 there in
    let one : x ≡ y = same_Some x y (sym stands ∙ ap (slice_get e.instances.items) same ∙ at_n) in
    false≢true (sym c.if-eq.false ∙ c.eq.ensures ∙ same_option_back _ _ (ap (λ (z : code_instance.Instance). z.maker) one ∙ is_made)))

pub returns-in_err-number : goal.returns-in_err-number
returns-in_err-number c =
    let e = c.args.self.now in
    rw c.from_residual.ensures (λ i at.
    find-no_child e c.requires c.args.maker c.args.path.now i at (λ n y positive at_n path is_made.
    let there = slice_get-map_at (λ (z : code_instance.Instance). z.path) e.instances.items n y at_n ∙ ap Some path in
    (rw (c.as_slice.ensures.value, c.in_err-number.was) at c.find_from.ensures) n (rw c.last_like-last.ensures (c.requires.mapped.hashed.leads n c.args.path.now positive there)) there))
