use Rattle.std.proofs.Common.{◌≡◌, ◌<◌, ◌+◌, length, sym, subst, arith}
use Rattle.step_board.proofs.HeirLemmas.{heir_there}
use Rattle.step_board.proofs.LogLemmas.{AreBelow, all_logs, none_below, one_more}
use Rattle.step_board.proofs.collecting.collect_logs.Goals as goal

pub loop-slot-init : goal.loop-slot-init
loop-slot-init g c =
    let b = c.args.nodes.now in
    subst (AreBelow g.N.Nodes.shows b (g.N.Nodes.machine b) (g.N.Nodes.logs b) 0) (sym c.in_ok-logs.ensures.items) (none_below g.N.Nodes.shows b (g.N.Nodes.machine b) (g.N.Nodes.logs b))

pub log_of-requires-clause-heir : goal.log_of-requires-clause-heir
log_of-requires-clause-heir g c =
    let d = (g.N.Nodes.machine c.args.nodes.now).config in
    let below : c.loop-slot.slot < length d.slots = omega (arith, c.loop-slot-test.true, c.made-made.ensures.nodes) in
    heir_there d c.in_ok-heirs.heirs.items c.loop-slot.slot c.index.result.now c.in_ok-heirs.ensures below c.index.ensures

pub loop-slot-preserved : goal.loop-slot-preserved
loop-slot-preserved g c =
    let S = g.N.Nodes.shows in
    let b = c.args.nodes.now in
    let s = g.N.Nodes.machine b in
    let logs = g.N.Nodes.logs b in
    let k = c.loop-slot.slot in
    let below : k < length s.config.slots = omega (arith, c.loop-slot-test.true, c.made-made.ensures.nodes) in
    let heir = heir_there s.config c.in_ok-heirs.heirs.items k c.index.result.now c.in_ok-heirs.ensures below c.index.ensures in
    let log = c.in_ok-log.ensures in
    subst (AreBelow S b s logs (k + 1)) (sym c.in_ok-push.ensures.items)
    (one_more S b s logs (g.met.N.Nodes.machine_is b) (g.met.N.Nodes.logs_are b) k c.loop-slot.logs.items c.in_ok-log.log c.index.result.now c.requires.some below c.loop-slot.invariant
    log.slot log.events heir log.last)

pub returns : goal.returns
returns g c =
    let b = c.args.nodes.now in
    let s = g.N.Nodes.machine b in
    let last : c.loop-slot.slot ≡ length s.config.slots = omega (arith, c.loop-slot.auto.slot-end, c.loop-slot-test.false, c.made-made.ensures.nodes) in
    all_logs g.N.Nodes.shows b s (g.N.Nodes.logs b) (g.met.N.Nodes.machine_is b) (g.met.N.Nodes.logs_are b) c.loop-slot.slot c.loop-slot.logs.items c.requires.some last c.loop-slot.invariant
