use Rattle.std.proofs.Common.{sym, subst}
use Rattle.darwin_parser.specs.Tree.{array_of}
use Rattle.darwin_types.specs.declared.error.TypeError.TheVariants.{TwoNames}
use Rattle.darwin_types.specs.Check.{Judges, repeat_faults}
use Rattle.darwin_types.proofs.checking.arrays_of.Goals as goal
use Rattle.base.proofs.MapLaws.{map-map}

pub returns-clause-judged : goal.returns-clause-judged
returns-clause-judged c =
    let k = c.args.component.now in
    subst (λ ns. Judges (repeat_faults (TwoNames k.name) ns) c.distinct.result) (sym (map-map (λ a. a.name) array_of k.arrays.items)) (rw c.as_slice.ensures.value at c.distinct.ensures.judged)
