use Rattle.std.proofs.Common.{◌≡◌, ◌∙◌, ◌++◌, ◌∷◌, [], ap, map, sym, subst, ⊎_elim}
use Rattle.std.specs.Prelude.{slice_get}
use Rattle.std.proofs.lemmas.List.{map_push}
use Rattle.component_trait.specs.Making.{handed_over}
use Rattle.base.proofs.PlaceLaws.{slice_get-push_cases}
use Rattle.state_handover.specs.contracts.any_node.AnyNodeComponent.TheImpl.{ghosts}
use Rattle.node_host.specs.Lines as line
use Rattle.node_host.proofs.LineLaws.{opens_from, arg_is}
use Rattle.step_board.specs.Entries.{Predecessor}
use Rattle.step_board.proofs.making.host_from.Goals as goal

pub host-requires-clause-opens : goal.host-requires-clause-opens
host-requires-clause-opens c =
    let parts = c.into_parts-inner.ensures in
    opens_from (ghosts.state c.args.old.inner) (ghosts.state c.import.result) c.args.arg c.args.first_port _ _ _ c.args.old.hosted.folds (c.import.ensures.state ∙ ap (λ q. handed_over (ghosts.state q.0).kind c.args.arg (ghosts.state q.0).kept) parts)
    (ap (map {B = line.LineNode} (λ p. record { first = p.first_port; arg = p.arg; log = p.log.items })) c.push_reserved.ensures.items
    ∙ map_push {Y = line.LineNode} (λ p. record { first = p.first_port; arg = p.arg; log = p.log.items }) c.into_parts-inner.result.3.items _
    ∙ ap (λ q. map {B = line.LineNode} (λ p. record { first = p.first_port; arg = p.arg; log = p.log.items }) q.3.items ++ record { first = c.args.old.first_port; arg = c.unwrap_or-old_arg.result; log = q.2.items } ∷ []) parts
    ∙ ap (λ a. map {B = line.LineNode} (λ p. record { first = p.first_port; arg = p.arg; log = p.log.items }) c.args.old.past.items ++ record { first = c.args.old.first_port; arg = a; log = c.args.old.log.items } ∷ [])
    (arg_is _ (ghosts.state c.args.old.inner) _ c.arg.ensures.arg c.unwrap_or-old_arg.ensures c.requires.old_arg))

pub host-requires-clause-past_slots : goal.host-requires-clause-past_slots
host-requires-clause-past_slots c = λ k p at.
    let parts = c.into_parts-inner.ensures in
    let there = sym (ap (λ l. slice_get l k) c.push_reserved.ensures.items) ∙ at in
    ⊎_elim (λ old. c.args.old.past_slots k p (sym (ap (λ q. slice_get q.3.items k) parts) ∙ old))
    (λ new. subst (λ x. x.seat.slot ≡ x.slot) new.1 (ap (λ q. q.1.slot) parts ∙ c.args.old.hosted.of_slot))
    (slice_get-push_cases c.into_parts-inner.result.3.items _ k p there)

pub returns-clause-past : goal.returns-clause-past
returns-clause-past c =
    let parts = c.into_parts-inner.ensures in
    ap (λ q. map {B = Predecessor} (λ p. record { slot = p.slot; first = p.first_port; arg = p.arg; log = p.log.items }) q.items) c.host.ensures.past
    ∙ ap (map {B = Predecessor} (λ p. record { slot = p.slot; first = p.first_port; arg = p.arg; log = p.log.items })) c.push_reserved.ensures.items
    ∙ map_push {Y = Predecessor} (λ p. record { slot = p.slot; first = p.first_port; arg = p.arg; log = p.log.items }) c.into_parts-inner.result.3.items _
    ∙ ap (λ q. map {B = Predecessor} (λ p. record { slot = p.slot; first = p.first_port; arg = p.arg; log = p.log.items }) q.3.items ++ record { slot = c.args.old.slot; first = c.args.old.first_port; arg = c.unwrap_or-old_arg.result; log = q.2.items } ∷ []) parts
    ∙ ap (λ a. map {B = Predecessor} (λ p. record { slot = p.slot; first = p.first_port; arg = p.arg; log = p.log.items }) c.args.old.past.items ++ record { slot = c.args.old.slot; first = c.args.old.first_port; arg = a; log = c.args.old.log.items } ∷ [])
    (arg_is _ (ghosts.state c.args.old.inner) _ c.arg.ensures.arg c.unwrap_or-old_arg.ensures c.requires.old_arg)
