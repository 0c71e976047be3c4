use Rattle.std.proofs.Common.{◌≤◌, ap, arith, length, length-append, refl, subst, sym}
use Rattle.std.specs.List.{AllByRecursion}
use Rattle.live_board.specs.Collecting.{LiesAt, TellsEnd}
use Rattle.live_board.proofs.TellLemmas.{told_more}
use Rattle.state_handover.specs.contracts.any_node.AnyNodeComponent.TheImpl.{ghosts}
use Rattle.live_board.proofs.ends.take_ends.Goals as goal
use Rattle.base.proofs.ListLaws.{AllByRecursion-append}

pub loop-slot-preserved : goal.loop-slot-preserved
loop-slot-preserved g c =
    let i = c.loop-slot.invariant in
    let e = c.take_end.ensures in
    let n = c.loop-slot.slot in
    let heirs = c.args.heirs.now.items in
    let guests = c.take_end.new.guests.items in
    let all = AllByRecursion (LiesAt g.J.Named.gates) in
    record {
      kept = e.kept;
      few =
          let long = length-append c.loop-slot.guests.items e.guests.0 in
          let same = ap length e.guests.1 in
          omega (arith, long, same, e.guests.2, i.few);
      guests = subst all (sym e.guests.1) (AllByRecursion-append (LiesAt g.J.Named.gates) c.loop-slot.guests.items e.guests.0 i.guests e.guests.3);
      room = subst (λ k. c.args.slots ≤ k) (sym e.room) i.room;
      log_room = subst (λ k. c.args.slots ≤ k) (sym c.push_reserved.ensures.capacity) i.log_room;
      done_room = subst (λ k. c.args.slots ≤ k) (sym c.push_reserved-in-loop-slot.ensures.capacity) i.done_room;
      told = told_more ghosts.state heirs n c.loop-slot.guests.items guests e.guests.0 c.loop-slot.logs.items c.push_reserved.new.self.items c.loop-slot.dones.items c.push_reserved-in-loop-slot.new.self.items
          (record { slot = n; events = c.of.result; last = c.in_ok-last.field-0.last }) c.in_ok-last.field-0.done i.told e.guests.1
          (subst (λ h. TellsEnd ghosts.state h n guests c.in_ok-last.field-0.last c.in_ok-last.field-0.done) c.heir_at.ensures c.in_ok-last.ensures.told)
          refl c.push_reserved.ensures.items c.push_reserved-in-loop-slot.ensures.items;
    }
