use Rattle.std.proofs.Common.{◌≡◌, Some, ◌∙◌, ◌++◌, ◌∷◌, [], ap, map, sym, subst, ⊎_elim}
use Rattle.std.specs.Prelude.{slice_get}
use Rattle.std.proofs.lemmas.List.{map_push}
use Rattle.component_trait.specs.Making.{argument_or_0, handed_over}
use Rattle.component_trait.specs.States.{NodeState}
use Rattle.txn_spec.specs.Views.{node_at}
use Rattle.base.proofs.PlaceLaws.{slice_get-push_cases}
use Rattle.state_handover.specs.contracts.any_node.AnyNodeComponent.TheImpl.{ghosts}
use Rattle.node_host.specs.Lines as line
use Rattle.node_host.proofs.LineLaws.{opens_from, arg_is}
use Rattle.live_hall.specs.Lines.{seen_word}
use Rattle.atomic_table.specs.Seated.{TableId}
use Rattle.txn_gate.specs.Seats.{node_in, table_of_node}
use Rattle.live_hall.proofs.HandedLaws.{line_handed}
use Rattle.live_hall.proofs.guest.Guest.handed.Goals as goal

pub host-requires-clause-opens : goal.host-requires-clause-opens
host-requires-clause-opens c =
    let parts = c.into_parts-inner.ensures in
    opens_from (ghosts.state c.args.old.node.inner) (ghosts.state c.import.result) c.args.arg c.args.first_port _ _ _ c.args.old.node.hosted.folds (c.import.ensures.state ∙ ap (λ q. handed_over (ghosts.state q.0).kind c.args.arg (ghosts.state q.0).kept) parts)
    (ap (map {B = line.LineNode} (λ p. record { first = p.first_port; arg = p.arg; log = p.log.items })) c.push_reserved.ensures.items
    ∙ map_push {Y = line.LineNode} (λ p. record { first = p.first_port; arg = p.arg; log = p.log.items }) c.joined-past.result.items _
    ∙ ap (λ ps. map {B = line.LineNode} (λ p. record { first = p.first_port; arg = p.arg; log = p.log.items }) ps ++ record { first = c.args.old.node.first_port; arg = c.unwrap_or-old_arg.result; log = c.into_parts-inner.result.2.items } ∷ []) c.joined-past.ensures.items
    ∙ ap (λ q. map {B = line.LineNode} (λ p. record { first = p.first_port; arg = p.arg; log = p.log.items }) q.3.items ++ record { first = c.args.old.node.first_port; arg = c.unwrap_or-old_arg.result; log = q.2.items } ∷ []) parts
    ∙ ap (λ a. map {B = line.LineNode} (λ p. record { first = p.first_port; arg = p.arg; log = p.log.items }) c.args.old.node.past.items ++ record { first = c.args.old.node.first_port; arg = a; log = c.args.old.node.log.items } ∷ [])
    (arg_is _ (ghosts.state c.args.old.node.inner) _ c.arg.ensures.arg c.unwrap_or-old_arg.ensures c.requires.old_arg))

pub host-requires-clause-past_slots : goal.host-requires-clause-past_slots
host-requires-clause-past_slots c = λ k p at.
    let parts = c.into_parts-inner.ensures in
    let there = sym (ap (λ l. slice_get l k) c.push_reserved.ensures.items) ∙ at in
    ⊎_elim (λ old. c.args.old.node.past_slots k p (sym (ap (λ ps. slice_get ps k) c.joined-past.ensures.items ∙ ap (λ q. slice_get q.3.items k) parts) ∙ old))
    (λ new. subst (λ x. x.seat.slot ≡ x.slot) new.1 (ap (λ q. q.1.slot) parts ∙ c.args.old.node.hosted.of_slot))
    (slice_get-push_cases c.joined-past.result.items _ k p there)

pub returns-clause-past : goal.returns-clause-past
returns-clause-past c =
    let parts = c.into_parts-inner.ensures in
    ap (λ v. map {B = TableId} (λ p. table_of_node p.seat) v.items) c.host.ensures.past
    ∙ ap (map {B = TableId} (λ p. table_of_node p.seat)) c.push_reserved.ensures.items
    ∙ map_push {Y = TableId} (λ p. table_of_node p.seat) c.joined-past.result.items _
    ∙ ap (λ ps. map {B = TableId} (λ p. table_of_node p.seat) ps ++ table_of_node c.into_parts-inner.result.1 ∷ []) c.joined-past.ensures.items
    ∙ ap (λ q. map {B = TableId} (λ p. table_of_node p.seat) q.3.items ++ table_of_node q.1 ∷ []) parts

pub invariant_of-result : goal.invariant_of-result
invariant_of-result c =
    let g = c.args.old in
    let parts = c.into_parts-inner.ensures in
    let state = c.import.ensures.state ∙ ap (λ q. handed_over (ghosts.state q.0).kind c.args.arg (ghosts.state q.0).kept) parts in
    let inner = ap ghosts.state c.host.ensures.inner ∙ state in
    let s = c.requires.seat in
    let seat = ap node_in c.host.ensures.seat ∙ s.1 in
    let place = c.host.ensures.place in
    record {
      line = line_handed (λ p. seen_word (node_in p.seat)) (λ p. record { slot = p.slot; first = p.first_port; arg = p.arg }) g.node.past.items c.joined-past.result.items c.host.result.past.items _ (node_in g.node.seat) (node_in c.host.result.seat) _ _ _ _ g.line
          (ap (λ v. v.items) c.host.ensures.past ∙ c.push_reserved.ensures.items) (c.joined-past.ensures.items ∙ ap (λ q. q.3.items) parts)
          (ap (λ q. seen_word (node_in q.1)) parts)
          (ap (λ a. record { slot = g.node.slot; first = g.node.first_port; arg = a }) (arg_is _ (ghosts.state g.node.inner) _ c.arg.ensures.arg c.unwrap_or-old_arg.ensures c.requires.old_arg))
          (ap (λ (t : NodeState). t.kind) inner)
          (ap seen_word seat ∙ (λ i. record { slot = sym place.0 i; kind = (s.2 ∙ sym (ap (λ (t : NodeState). t.kind) inner)) i; first = sym place.1 i; arg = (ap argument_or_0 s.3 ∙ sym (ap (λ (t : NodeState). t.arg) inner)) i; from = Some g.node.slot }));
      at = ap node_at seat ∙ (λ i. record { slot = sym place.0 i; kind = (s.2 ∙ sym (ap (λ (t : NodeState). t.kind) inner)) i; first = sym place.1 i });
    }
