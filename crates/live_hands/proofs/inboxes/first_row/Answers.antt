use Rattle.std.proofs.Common.{◌≡◌, ◌∙◌, ap, arith, replicate, rules, sym}
use Rattle.config_graph.specs.declared.TheConstants.{MAX_NODES}
use Rattle.base.proofs.PairedLaws.{paired_both, seen_more}
use Rattle.live_hands.specs.Hands.{seen, shown, unused}
use Rattle.live_hands.specs.Opens.{Opens}
use Rattle.live_hands.specs.declared.entry.Entry.{Entry}
use Rattle.live_hands.proofs.inboxes.first_row.Goals as goal

pub loop-node-preserved : goal.loop-node-preserved
loop-node-preserved c =
    let i = c.loop-node.invariant in
    let e : Entry = record { way = c.in_ok-inbox.way; refused = 0 } in
    let p = paired_both Opens c.loop-node.inboxes.items c.loop-node.entries.items c.in_ok-inbox.inbox e (i.inboxes ∙ sym i.entries) i.opens (search rules) in
    let f = seen_more shown unused c.loop-node.entries.items e c.loop-node.node i.fresh (ap (λ k. seen k 0) (search rules)) in
    record { inboxes = search (rules, arith); entries = search (rules, arith); opens = search rules; fresh = search rules }

pub returns-clause-fresh : goal.returns-clause-fresh
returns-clause-fresh c =
    let t = c.loop-node-test.false in
    let all : c.loop-node.node ≡ MAX_NODES = omega arith in
    c.loop-node.invariant.fresh ∙ ap (λ n. replicate n unused) all
