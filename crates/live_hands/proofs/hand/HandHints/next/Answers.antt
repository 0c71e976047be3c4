use Rattle.std.proofs.Common.{arith, length, ◌<◌}
use Rattle.live_hands.proofs.Counting.{taken}
use Rattle.live_hands.proofs.hand.HandHints.next.Goals as goal

pub returns-clause-counts : goal.returns-clause-counts
returns-clause-counts g c =
    let few : c.args.node < length c.args.self.now = (let p = c.next_hint.ensures.places in let n = c.requires.node in omega (arith, p, n)) in
    taken c.args.self.now c.next_hint.new.self c.args.node few c.next_hint.result c.next_hint.ensures.seen
