use Rattle.std.proofs.Common.{inr, subst, sym}
use Rattle.report_texts.specs.GraphFaults.{IsFirstCycle, first_cycle}
use Rattle.report_texts.specs.declared.graph_texts.GraphFault.TheVariants as faults
use Rattle.report_texts.proofs.graph_texts.check_cycles.Goals as goal

pub returns-in_ok-try_clone-in-Some-clause-fault : goal.returns-in_ok-try_clone-in-Some-clause-fault
returns-in_ok-try_clone-in-Some-clause-fault c =
    let first = rw c.in-Some.is at c.in_ok-node.ensures.found in
    inr (subst (λ path. IsFirstCycle c.args.graph.now (faults.DependsCycle path)) (sym c.in_ok-try_clone-in-Some.ensures) (first_cycle c.in-Some.node c.node.result.now first c.node.ensures))
