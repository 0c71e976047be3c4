use Rattle.std.proofs.Common.{arith, length, ◌<◌}
use Rattle.live_hands.proofs.Counting.{posted}
use Rattle.live_hands.proofs.hand.HandHints.post.Goals as goal

pub returns-clause-counts : goal.returns-clause-counts
returns-clause-counts g c =
    let few : c.args.node < length c.args.self.now = (let p = c.post_hint.ensures.places in let n = c.requires.node in omega (arith, p, n)) in
    posted c.args.self.now c.post_hint.new.self c.args.node few c.args.port c.post_hint.result c.post_hint.ensures.seen
