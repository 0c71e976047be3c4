use Rattle.std.proofs.Common.{arith, rules}
use Rattle.base.proofs.PairedLaws.{all_more}
use Rattle.live_hands.specs.Hands.{nothing_seen}
use Rattle.live_hands.proofs.inboxes.Inboxes.with_hands.Goals as goal

pub returns : goal.returns
returns g c =
    let i = c.loop.invariant in
    let t = c.loop-test.false in
    let all = all_more nothing_seen c.loop.all.items c.loop.last c.args.hands i.fresh i.last (omega arith) in
    search rules
