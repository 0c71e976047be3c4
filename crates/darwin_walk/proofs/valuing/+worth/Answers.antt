use Rattle.std.proofs.lemmas.Result.{err_from_is_err_and}
use Rattle.darwin_walk.proofs.SpineLemmas.{IsClimbing-pop, IsClimbing-err}
use Rattle.darwin_walk.proofs.valuing.+worth.Goals as goal

pub worth-returns-in_err-total-clause-says : goal.worth-returns-in_err-total-clause-says
worth-returns-in_err-total-clause-says t c =
    let h = err_from_is_err_and c.from_residual-in_err-total.result c.from_residual-in_err-total.ensures.1 in
    rw (h.1, h.2) (IsClimbing-err _ _ _ _ _ c.loop-next.invariant c.in_err-total.was)

pub worth-loop-next-preserved : goal.worth-loop-next-preserved
worth-loop-next-preserved t c =
    IsClimbing-pop _ _ _ _ _ _ _ _ c.loop-next.invariant c.in-Some.ensures.items c.in_ok-total.was c.operation_on-total.ensures.says
    c.operation_on-total.ensures.fits
