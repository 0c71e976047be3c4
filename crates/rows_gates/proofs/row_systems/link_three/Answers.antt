use Rattle.std.proofs.Common.{◌∙◌, ◌∷◌, ◌++◌, [], ap, sym, subst}
use Rattle.txn_records.specs.Records.{May}
use Rattle.txn_records.specs.declared.entry.Entry.TheVariants.{Did}
use Rattle.quiesce_core.specs.declared.event.Event.TheVariants.{Link}
use Rattle.rows_gates.proofs.Linking.{three}
use Rattle.rows_gates.proofs.row_systems.link_three.Goals as goal

pub link-requires-clause-may : goal.link-requires-clause-may
link-requires-clause-may c =
    let made = c.requires.made in
    let all = three made.0 made.1 made.2 c.args.first.now c.args.second.now c.args.third.now c.requires.kinds.0 c.requires.kinds.1 c.requires.kinds.2 in
    subst (λ r. May r (Link 0 2 0)) (sym made.3) all.0

pub link-requires-then-whole-clause-may : goal.link-requires-then-whole-clause-may
link-requires-then-whole-clause-may c =
    let made = c.requires.made in
    let all = three made.0 made.1 made.2 c.args.first.now c.args.second.now c.args.third.now c.requires.kinds.0 c.requires.kinds.1 c.requires.kinds.2 in
    subst (λ r. May r (Link 1 0 0)) (sym (ap (λ k. k.entries) c.link.ensures.change ∙ ap (λ r. r ++ Did (Link 0 2 0) ∷ []) made.3)) all.2

pub link-requires-else-whole-clause-may : goal.link-requires-else-whole-clause-may
link-requires-else-whole-clause-may c =
    let made = c.requires.made in
    let all = three made.0 made.1 made.2 c.args.first.now c.args.second.now c.args.third.now c.requires.kinds.0 c.requires.kinds.1 c.requires.kinds.2 in
    subst (λ r. May r (Link 1 0 0)) (sym made.3) all.1
