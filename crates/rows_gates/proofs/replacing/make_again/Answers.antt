use Rattle.std.proofs.Common.{◌∙◌, ◌∷◌, ◌++◌, [], Some, ap}
use Rattle.std.proofs.lemmas.Result.{IfOk-weaker}
use Rattle.txn_records.specs.declared.entry.Entry.TheVariants.{Did}
use Rattle.quiesce_core.specs.declared.event.Event.TheVariants.{Make}
use Rattle.rows_gates.proofs.replacing.make_again.Goals as goal

pub returns-clause-made : goal.returns-clause-made
returns-clause-made c =
    let removed = c.requires.removed in
    IfOk-weaker c.make.result _ _ (λ _ made. (removed.0, removed.1, removed.2, made.0, made.1 ∙ ap (λ r. r ++ Did (Make made.0 c.args.third.now (Some 1)) ∷ []) removed.3)) c.make.ensures.made
