use Rattle.std.proofs.Common.{◌≡◌, ◌∙◌, drop, take, Some, None, sym, ap, subst}
use Rattle.std.specs.Prelude.{IfOk, MatchOption, option_and_then}
use Rattle.report_follows.specs.Fronts as fronts
use Rattle.report_follows.specs.Testing.{drained_in}
use Rattle.report_follows.proofs.fronts.behind_given_up.Goals as goal

pub returns-in-Some : goal.returns-in-Some
returns-in-Some c =
    let ls = c.args.lines.now in
    let within = c.args.within in
    let closed = c.args.closed.now in
    let rest = c.behind-rest.result.now in
    let drained = c.before-drained.result.now in
    let found = c.in-Some.rest.now in
    let count = c.drained_count-count.ensures in
    let rest_is : rest ≡ drop (drained_in ls) ls = c.behind-rest.ensures ∙ ap (λ n. drop n ls) count in
    let drained_is : drained ≡ take (drained_in ls) ls = c.before-drained.ensures ∙ ap (λ n. take n ls) count in
    let first : fronts.behind_first (fronts.is_pending_for within) (drop (drained_in ls) ls) ≡ Some found =
    ap (fronts.behind_first (fronts.is_pending_for within)) (sym rest_is) ∙ ap (λ b. fronts.behind_if b 1 rest) (sym c.begin_with_pending.ensures) ∙ c.in-Some.ensures in
    let all : fronts.behind_given_up within closed ls ≡ fronts.behind_roots within closed drained found =
    ap (option_and_then (fronts.behind_roots within closed (take (drained_in ls) ls))) first ∙ ap (λ ds. fronts.behind_roots within closed ds found) (sym drained_is) in
    subst (λ o. IfOk c.behind_roots.result (λ x. MatchOption x (o ≡ None) (λ r. o ≡ Some r.now))) (sym all) c.behind_roots.ensures
