use Rattle.std.proofs.Common.{◌≡◌, ◌∙◌, inl, inr, map, Some, refl, sym, ap, subst, arith}
use Rattle.std.specs.List.{slice_get}
use Rattle.std.proofs.lemmas.Bool.{false≢true}
use Rattle.std.proofs.lemmas.Option.{slice_get_read, same_Some, get_or_from_slice_get}
use Rattle.std.proofs.lemmas.List.{length-map}
use Rattle.std.proofs.lemmas.Slice.Eq.{bytes_eq-Decides}
use Rattle.base.proofs.PlaceLaws.{slice_get-map_at}
use Rattle.elaborator.specs.declared.instance.Instance as shown
use Rattle.elaborator.proofs.HashLemmas.{step-back, step-smaller, step-within}
use Rattle.elaborator.proofs.path_index.PathIndex.find_from.Goals as goal

pub returns-then-eq : goal.returns-then-eq
returns-then-eq c =
    let within = rw c.in-Some.is at c.loop-next.invariant.within in
    let x = c.index-instances-number.result in
    let there = slice_get_read c.args.instances.now _ c.in-Some.number x refl (omega (arith, within.1, length-map c.args.instances.now (λ (i : shown.Instance). i.path))) c.index-instances-number.is in
    let read = ap (λ (i : shown.Instance). i.path) (sym (get_or_from_slice_get c.args.instances.now c.in-Some.number x x there)) in
    let same : x.path ≡ c.args.path.now = read ∙ sym c.as_bytes.ensures ∙ (bytes_eq-Decides _ _).0 (sym c.eq.ensures ∙ c.if-eq.true) in
    (within.0, slice_get-map_at (λ (i : shown.Instance). i.path) c.args.instances.now c.in-Some.number x there ∙ ap Some same)

pub loop-next-smaller : goal.loop-next-smaller
loop-next-smaller c =
    let index = c.args.self.now in
    let within = rw c.in-Some.is at c.loop-next.invariant.within in
    let at = slice_get_read index.before.items _ c.in-Some.number c.index-next.result.now refl (omega (arith, within.1, c.requires.long)) c.index-next.ensures in
    rw c.in-Some.is (step-smaller index.before.items c.in-Some.number c.index-next.result.now c.requires.falls at)

pub loop-next-preserved : goal.loop-next-preserved
loop-next-preserved c =
    let index = c.args.self.now in
    let within = rw c.in-Some.is at c.loop-next.invariant.within in
    let at = slice_get_read index.before.items _ c.in-Some.number c.index-next.result.now refl (omega (arith, within.1, c.requires.long)) c.index-next.ensures in
    let x = c.index-instances-number.result in
    let there = slice_get_read c.args.instances.now _ c.in-Some.number x refl (omega (arith, within.1, length-map c.args.instances.now (λ (i : shown.Instance). i.path))) c.index-instances-number.is in
    let read = ap (λ (i : shown.Instance). i.path) (sym (get_or_from_slice_get c.args.instances.now c.in-Some.number x x there)) in
    record {
      within = step-within index.before.items c.in-Some.number _ c.index-next.result.now c.requires.falls at within.1;
      left = λ n to has.
          elim (step-back index.before.items n c.in-Some.number c.index-next.result.now (rw c.in-Some.is at c.loop-next.invariant.left n to has) at) [
            | inl here ↦
                let path : x.path ≡ c.args.path.now =
                same_Some x.path c.args.path.now
                (sym (slice_get-map_at (λ (i : shown.Instance). i.path) c.args.instances.now c.in-Some.number x there)
                ∙ subst (λ m. slice_get (map (λ (i : shown.Instance). i.path) c.args.instances.now) m ≡ Some c.args.path.now) here has) in
                absurd (false≢true (sym c.if-eq.false ∙ c.eq.ensures ∙ (bytes_eq-Decides _ _).1 (c.as_bytes.ensures ∙ sym read ∙ path)))
            | inr further ↦ further
          ];
    }
