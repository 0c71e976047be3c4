use Rattle.std.proofs.Common.{length, subst, sym}
use Rattle.change_plan.specs.Room.{HasRoom, RoomFault}
use Rattle.change_plan.proofs.RoomLaws.{accepts_room, refuses_fault}
use Rattle.change_plan.proofs.room.require_room.Goals as goal

pub returns-clause-accepts : goal.returns-clause-accepts
returns-clause-accepts c =
    let made = c.args.made in
    let g = c.args.graph.now in
    let n = c.node_count.result in
    let p = c.port_count.result in
    let told = c.require_room_for.ensures in
    λ room. accepts_room made n p c.require_room_for.result told.room told.refused
    (subst (λ k. HasRoom made k p) (sym c.node_count.ensures.count) (subst (λ k. HasRoom made (length g.nodes) k) (sym c.port_count.ensures) room))

pub returns-clause-refuses : goal.returns-clause-refuses
returns-clause-refuses c =
    let made = c.args.made in
    let g = c.args.graph.now in
    let n = c.node_count.result in
    let p = c.port_count.result in
    let told = c.require_room_for.ensures in
    λ e fault. refuses_fault made n p c.require_room_for.result told.room told.refused e
    (subst (λ k. RoomFault made k p e) (sym c.node_count.ensures.count) (subst (λ k. RoomFault made (length g.nodes) k e) (sym c.port_count.ensures) fault))
