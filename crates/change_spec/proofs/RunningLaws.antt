-- What follows for the list of members from its being a run: nodes are touched only while they are quiescent, and where no transaction
-- is open at the end each has ended once.
use Rattle.std.proofs.Common.{◌≡◌, ◌∙◌, ℕ, true, false, not, ◌&&◌, cond, List, [], ◌∷◌, ◌++◌, ap, sym, subst}
use Rattle.std.specs.List.{count_by, list_any}
use Rattle.std.proofs.lemmas.Bool.{not-false}
use Rattle.base.specs.Each.{Each}
use Rattle.base.proofs.EachLaws.{each_if}
use Rattle.quiesce_core.specs.declared.event.Event.{Event}
use Rattle.quiesce_core.specs.declared.event.Event.TheVariants as event
use Rattle.quiesce_core.specs.Runs.{IsRun, is_end_of, is_open_after}
use Rattle.quiesce_core.specs.State.{owner}
use Rattle.quiesce_core.proofs.InductionLaws.{place}
use Rattle.quiesce_laws.proofs.OrderLaws.{any_counted, ended_count, in_order, whole_once}
use Rattle.quiesce_laws.proofs.QuiescenceLaws.{quiescent_at}
use Rattle.report_types.specs.declared.report.HistoryLine.TheVariants as to
use Rattle.change_spec.specs.Lawful.{IsEndedOnce, IsQuiescentAt}
use Rattle.change_spec.specs.Members.{Member, of_history, events, state_at}
use Rattle.change_spec.proofs.MemberLaws.{events_parts}

quiescent_in : (before after : List Member) (x : Member) → IsRun (events before ++ events (x ∷ after)) → IsQuiescentAt before x
quiescent_in before after (of_history (to.Link p n x)) run =
    let here = place (events before) (events after) (event.Link p n x) run in
    quiescent_at (events before) (owner (state_at before).config p) here.run here.legal.settled
quiescent_in before after (of_history (to.Unlink p)) run =
    let here = place (events before) (events after) (event.Unlink p) run in
    quiescent_at (events before) (owner (state_at before).config p) here.run here.legal.settled
quiescent_in before after (of_history (to.Remove n)) run =
    let here = place (events before) (events after) (event.Remove n) run in quiescent_at (events before) n here.run here.legal.settled
quiescent_in before after _ run = tt

pub quiet : (m : List Member) → IsRun (events m) → Each IsQuiescentAt m
quiet m run = each_if IsQuiescentAt [] m (λ ys zs x e. quiescent_in ys zs x (subst IsRun (ap events e ∙ events_parts ys (x ∷ zs)) run))

pub ended_once : (es : List Event) → IsRun es → (p k : ℕ) → is_open_after es p k ≡ false → IsEndedOnce es p k
ended_once es run p k none begun =
    let ended : list_any (is_end_of p k) es ≡ true = not-false (list_any (is_end_of p k) es) (sym (ap (λ b. b && not (list_any (is_end_of p k) es)) begun) ∙ none) in
    let order = in_order es p k run in
    let once : count_by (is_end_of p k) es ≡ 1 = ended_count es p k run ∙ ap (λ b. cond b 1 0) (sym (any_counted (is_end_of p k) es _ (ended_count es p k run)) ∙ ended) in
    let whole = whole_once es p k run once in
    record { begun = whole.0; taken = whole.1; given = whole.2; ended = once; asked = order.all_asked whole.2; heard = order.all_heard whole.2 }
