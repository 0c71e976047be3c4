use Rattle.std.proofs.Common.{sym, subst}
use Rattle.darwin_parser.specs.Tree.{port_of}
use Rattle.darwin_types.specs.declared.error.TypeError.TheVariants.{TwoNames}
use Rattle.darwin_types.specs.Check.{Judges, repeat_faults}
use Rattle.darwin_types.proofs.directory.ports_of.Goals as goal
use Rattle.base.proofs.MapLaws.{map-map}

pub returns-clause-judged : goal.returns-clause-judged
returns-clause-judged c =
    let k = c.args.component.now in
    subst (λ ns. Judges (repeat_faults (TwoNames k.name) ns) c.distinct.result) (sym (map-map (λ p. p.name) port_of k.ports.items)) (rw c.as_slice.ensures.value at c.distinct.ensures.judged)
