use Rattle.std.proofs.Common.{arith}
use Rattle.live_hands.proofs.Ways.{empty, taken}
use Rattle.live_hands.proofs.hand.Hand.next_hint.Goals as goal

pub returns-clause-seen : goal.returns-clause-seen
returns-clause-seen g c = taken c.self.inside.entries.items c.args.self.now c.args.node c.index_mut.result.now c.next.new.self c.self.view_is (let l = c.self.invariant.1 in let few = c.requires in omega (arith, l, few)) c.index_mut.ensures.value c.next.result c.next.ensures.seen

pub returns-clause-empty : goal.returns-clause-empty
returns-clause-empty g c = empty c.self.inside.entries.items c.args.self.now c.args.node c.index_mut.result.now c.next.new.self c.self.view_is (let l = c.self.invariant.1 in let few = c.requires in omega (arith, l, few)) c.index_mut.ensures.value c.next.result c.next.ensures.empty
