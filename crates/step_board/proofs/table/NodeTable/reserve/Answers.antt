use Rattle.std.proofs.Common.{◌≡◌, ◌∙◌, ◌++◌, arith, ap, drop, length, take, map, refl, sym}
use Rattle.std.specs.Prelude.{slice_get}
use Rattle.std.proofs.lemmas.List.{length-map, with_items_is}
use Rattle.state_handover.specs.contracts.any_node.AnyNodeComponent.TheImpl.{ghosts}
use Rattle.step_board.specs.Seen.{seen}
use Rattle.step_board.proofs.HostLemmas.{past_rooms_made}
use Rattle.step_board.proofs.Showing.{shows_same}
use Rattle.step_board.proofs.table.NodeTable.reserve.Goals as goal

pub invariant_of-self-in-Break-branch-4 : goal.invariant_of-self-in-Break-branch-4
invariant_of-self-in-Break-branch-4 c =
    let v = c.try_reserve.new.self in
    let ws = c.reserve_pasts.new.nodes in
    let was : map (seen ghosts.state) ws ≡ map (seen ghosts.state) c.args.self.now.nodes.items = c.reserve_pasts.ensures.seen ghosts.state ∙ ap (map (seen ghosts.state)) (c.deref_mut.ensures.value ∙ c.try_reserve.ensures.items) in
    let count : length ws ≡ v.len = sym (length-map ws (seen ghosts.state)) ∙ ap length was ∙ length-map c.args.self.now.nodes.items (seen ghosts.state) ∙ ap length (sym c.try_reserve.ensures.items) ∙ sym v.ok.0 in
    let put : length (take v.len (ws ++ drop (length ws) v.items)) ≡ length c.args.self.now.nodes.items = ap length (with_items_is v ws count) ∙ sym (length-map ws (seen ghosts.state)) ∙ ap length was ∙ length-map c.args.self.now.nodes.items (seen ghosts.state) in
    record {
      node_room = let room = c.args.self.now.node_room in let more_ = c.try_reserve.ensures.capacity in omega (arith, put, room, more_);
      end_room = let room = c.args.self.now.end_room in let more_ = c.try_reserve-2.ensures.capacity in let same = ap length c.try_reserve-2.ensures.items in omega (arith, same, room, more_);
      sources_made = let few = c.args.self.now.sources_made in omega (arith, put, few);
      past_room =
          past_rooms_made c.args.self.now.nodes.items _ c.args.self.now.sources c.args.self.now.sources_made c.args.self.now.past_room
          (λ k h h' at room at'. c.reserve_pasts.ensures.kept k h h' (ap (λ l. slice_get l k) (c.deref_mut.ensures.value ∙ c.try_reserve.ensures.items) ∙ at) room (sym (ap (λ l. slice_get l k) (with_items_is v ws count)) ∙ at'));
    }

pub returns-in_err-reserve_pasts-clause-shows : goal.returns-in_err-reserve_pasts-clause-shows
returns-in_err-reserve_pasts-clause-shows c = λ w h.
    let v = c.try_reserve.new.self in
    let ws = c.reserve_pasts.new.nodes in
    let was : map (seen ghosts.state) ws ≡ map (seen ghosts.state) c.args.self.now.nodes.items = c.reserve_pasts.ensures.seen ghosts.state ∙ ap (map (seen ghosts.state)) (c.deref_mut.ensures.value ∙ c.try_reserve.ensures.items) in
    let count : length ws ≡ v.len = sym (length-map ws (seen ghosts.state)) ∙ ap length was ∙ length-map c.args.self.now.nodes.items (seen ghosts.state) ∙ ap length (sym c.try_reserve.ensures.items) ∙ sym v.ok.0 in
    shows_same _ _ _ _ _ _ _ _ w h c.reserve.ensures.state (ap (map (seen ghosts.state)) (with_items_is v ws count) ∙ was) c.try_reserve-2.ensures.items refl

pub returns-then-self-nodes-clause-shows : goal.returns-then-self-nodes-clause-shows
returns-then-self-nodes-clause-shows c = λ w h.
    let v = c.try_reserve.new.self in
    let ws = c.reserve_pasts.new.nodes in
    let was : map (seen ghosts.state) ws ≡ map (seen ghosts.state) c.args.self.now.nodes.items = c.reserve_pasts.ensures.seen ghosts.state ∙ ap (map (seen ghosts.state)) (c.deref_mut.ensures.value ∙ c.try_reserve.ensures.items) in
    let count : length ws ≡ v.len = sym (length-map ws (seen ghosts.state)) ∙ ap length was ∙ length-map c.args.self.now.nodes.items (seen ghosts.state) ∙ ap length (sym c.try_reserve.ensures.items) ∙ sym v.ok.0 in
    shows_same _ _ _ _ _ _ _ _ w h c.reserve.ensures.state (ap (map (seen ghosts.state)) (with_items_is v ws count) ∙ was) c.try_reserve-2.ensures.items refl

pub returns-else-self-nodes-clause-shows : goal.returns-else-self-nodes-clause-shows
returns-else-self-nodes-clause-shows c = λ w h.
    let v = c.try_reserve.new.self in
    let ws = c.reserve_pasts.new.nodes in
    let was : map (seen ghosts.state) ws ≡ map (seen ghosts.state) c.args.self.now.nodes.items = c.reserve_pasts.ensures.seen ghosts.state ∙ ap (map (seen ghosts.state)) (c.deref_mut.ensures.value ∙ c.try_reserve.ensures.items) in
    let count : length ws ≡ v.len = sym (length-map ws (seen ghosts.state)) ∙ ap length was ∙ length-map c.args.self.now.nodes.items (seen ghosts.state) ∙ ap length (sym c.try_reserve.ensures.items) ∙ sym v.ok.0 in
    shows_same _ _ _ _ _ _ _ _ w h c.reserve.ensures.state (ap (map (seen ghosts.state)) (with_items_is v ws count) ∙ was) c.try_reserve-2.ensures.items refl
