use Rattle.std.proofs.Common.{◌≡◌, ◌∙◌, ap, arith, refl, replicate, rules, sym}
use Rattle.config_graph.specs.declared.TheConstants.{MAX_NODES}
use Rattle.base.proofs.PairedLaws.{paired_both, seen_more}
use Rattle.live_hall.specs.Doors.{Opens, missed}
use Rattle.live_hall.specs.declared.lock.Lock.{Lock}
use Rattle.live_hall.proofs.hall.first_row.Goals as goal

pub loop-slot-preserved : goal.loop-slot-preserved
loop-slot-preserved g c =
    let i = c.loop-slot.invariant in
    let l : Lock = record { key = c.in_ok-cell.key; missed = 0 } in
    let p = paired_both Opens c.loop-slot.cells.items c.loop-slot.locks.items c.in_ok-cell.cell l (i.cells ∙ sym i.locks) i.opens (rw i.cells (search rules)) in
    let f = seen_more missed 0 c.loop-slot.locks.items l c.loop-slot.slot i.fresh refl in
    record { cells = search (rules, arith); locks = search (rules, arith); opens = search rules; fresh = search rules }

pub returns-clause-fresh : goal.returns-clause-fresh
returns-clause-fresh g c =
    let t = c.loop-slot-test.false in
    let all : c.loop-slot.slot ≡ MAX_NODES = omega arith in
    c.loop-slot.invariant.fresh ∙ ap (λ n. replicate n 0) all
