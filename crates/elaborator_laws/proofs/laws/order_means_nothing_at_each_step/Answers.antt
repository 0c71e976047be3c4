use Rattle.elaborator_laws.proofs.Naming.{no_fault_of_names}
use Rattle.elaborator_laws.proofs.Whole.{same_description-sym, elaborating-like, graph-like}
use Rattle.elaborator_laws.proofs.laws.order_means_nothing_at_each_step.Goals as goal

pub returns-clause-standing : goal.returns-clause-standing
returns-clause-standing c = λ tree other same.
    (no_fault_of_names tree other same, no_fault_of_names other tree (same_description-sym tree other same))

pub returns-clause-elaborating : goal.returns-clause-elaborating
returns-clause-elaborating c = λ tree other name arguments same sound.
    let back = same_description-sym tree other same in
    (elaborating-like tree other name arguments same sound, elaborating-like other tree name arguments back (no_fault_of_names tree other same sound))

pub returns-clause-graph : goal.returns-clause-graph
returns-clause-graph c = λ tree other name arguments g same sound lawful.
    let back = same_description-sym tree other same in (
      graph-like tree other name arguments g same sound lawful,
      graph-like other tree name arguments g back (no_fault_of_names tree other same sound) (elaborating-like tree other name arguments same sound lawful),
    )
