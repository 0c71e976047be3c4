use Rattle.std.proofs.Common.{◌++◌, map, ap, sym, ◌∙◌, subst}
use Rattle.quiesce_core.specs.Runs.{state_after}
use Rattle.quiesce_core.specs.declared.event.Event.TheVariants.{Close, Reopen}
use Rattle.quiesce_core.specs.Live.{IsGraphOf}
use Rattle.quiesce_core.specs.State.{Configuration, gate, target}
use Rattle.quiesce_laws.specs.Steps.{change_all}
use Rattle.quiesce_laws.proofs.EndingLaws.{given_up_leaves, given_up_links, given_up_opens}
use Rattle.quiesce_laws.proofs.MeanwhileLaws.{now_is}
use Rattle.quiesce_laws.proofs.MemberLaws.{contains_in, in_contains}
use Rattle.quiesce_laws.proofs.TurningLaws.{live_port, same_graph}
use Rattle.quiesce_laws.proofs.ending.abandons_leave_all_as_it_was.Goals as goal

pub returns-clause-graph : goal.returns-clause-graph
returns-clause-graph c = λ graph es more_ ports live is h.
    let d = (state_after es).config in
    subst (λ x. IsGraphOf x graph) (sym (now_is es more_ ∙ ap (change_all (state_after es).config) is))
    (same_graph d (change_all d (map Close ports ++ map Reopen ports)) graph (given_up_links d ports (λ q j. live_port (state_after es).config q (live q (in_contains ports q j)))) h)

pub returns-clause-slots : goal.returns-clause-slots
returns-clause-slots c = λ es more_ ports live is.
    ap (λ (x : Configuration). x.slots) (now_is es more_ ∙ ap (change_all (state_after es).config) is) ∙ (given_up_links (state_after es).config ports (λ q j. live_port (state_after es).config q (live q (in_contains ports q j)))).slots

pub returns-clause-targets : goal.returns-clause-targets
returns-clause-targets c = λ es more_ ports live is p.
    ap (λ x. target x p) (now_is es more_ ∙ ap (change_all (state_after es).config) is) ∙ (given_up_links (state_after es).config ports (λ q j. live_port (state_after es).config q (live q (in_contains ports q j)))).targets p

pub returns-clause-are_open : goal.returns-clause-are_open
returns-clause-are_open c = λ es more_ ports live is p i.
    ap (λ x. (gate x p).closed) (now_is es more_ ∙ ap (change_all (state_after es).config) is) ∙ given_up_opens (state_after es).config ports (λ q j. live_port (state_after es).config q (live q (in_contains ports q j))) p (contains_in ports p i)

pub returns-clause-others : goal.returns-clause-others
returns-clause-others c = λ es more_ ports live is p out.
    ap (λ x. (gate x p).closed) (now_is es more_ ∙ ap (change_all (state_after es).config) is) ∙ given_up_leaves (state_after es).config ports (λ q j. live_port (state_after es).config q (live q (in_contains ports q j))) p (λ i. out (in_contains ports p i))
