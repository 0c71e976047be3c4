use Rattle.std.proofs.Common.{arith}
use Rattle.port_queue.specs.declared.TheConstants.{MAX_HINTS}
use Rattle.live_hands.proofs.Ways.{full, posted}
use Rattle.live_hands.proofs.hand.Hand.post_hint.Goals as goal

pub returns-clause-seen : goal.returns-clause-seen
returns-clause-seen g c = posted c.self.inside.entries.items c.args.self.now c.args.node c.index_mut.result.now c.post-posted.new.self c.self.view_is (let l = c.self.invariant.1 in let few = c.requires.node in omega (arith, l, few)) c.index_mut.ensures.value c.args.port c.post-posted.result c.post-posted.ensures.seen

pub returns-clause-full : goal.returns-clause-full
returns-clause-full g c = full c.self.inside.entries.items c.args.self.now c.args.node c.index_mut.result.now c.post-posted.new.self c.self.view_is (let l = c.self.invariant.1 in let few = c.requires.node in omega (arith, l, few)) c.index_mut.ensures.value MAX_HINTS c.post-posted.result c.post-posted.ensures.full
