use Rattle.elaborator.proofs.CauseLemmas.{refused}
use Rattle.elaborator.proofs.opening.walk_in.Goals as goal

pub returns-in-Err : goal.returns-in-Err
returns-in-Err c =
    refused _ _ _ c.walk.result c.in-Err.error c.refusal.result (rw c.as_slice.ensures.value at c.walk.ensures.fault)
    (rw c.as_slice.ensures.value at c.walk.ensures.too_many) c.in-Err.is c.refusal.ensures
