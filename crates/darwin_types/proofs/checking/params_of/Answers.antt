use Rattle.std.proofs.Common.{subst}
use Rattle.std.proofs.lemmas.List.{map-id}
use Rattle.darwin_types.specs.declared.error.TypeError.TheVariants.{TwoNames}
use Rattle.darwin_types.specs.Check.{Judges, repeat_faults}
use Rattle.darwin_types.proofs.checking.params_of.Goals as goal

pub returns-clause-judged : goal.returns-clause-judged
returns-clause-judged c =
    let k = c.args.component.now in
    subst (λ ns. Judges (repeat_faults (TwoNames k.name) ns) c.distinct.result) (map-id k.params.items) (rw c.as_slice.ensures.value at c.distinct.ensures.judged)
