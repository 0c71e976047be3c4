use Rattle.std.proofs.Common.{sym, subst}
use Rattle.elaborator.specs.Built.{CycleFault}
use Rattle.elaborator.specs.Built.CycleFault.{first_on_cycle}
use Rattle.elaborator.specs.declared.error.ElabError.TheVariants as error
use Rattle.elaborator.proofs.BuildLemmas.{on_cycle_within}
use Rattle.elaborator.proofs.building.check_cycle.Goals as goal

pub node-requires : goal.node-requires
node-requires c = on_cycle_within c.args.graph.now c.in-Some.node (rw c.in-Some.is at c.in_ok-first_on_cycle.ensures.found)

pub returns-in_ok-try_clone-in-Some : goal.returns-in_ok-try_clone-in-Some
returns-in_ok-try_clone-in-Some c = λ other.
    let first = rw c.in-Some.is at c.in_ok-first_on_cycle.ensures.found in
    subst (λ path. CycleFault c.args.graph.now (error.DependsCycle path)) (sym c.in_ok-try_clone-in-Some.ensures) (first_on_cycle c.in-Some.node c.node.result.now first c.node.ensures)
