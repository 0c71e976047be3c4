use Rattle.std.proofs.Common.{arith, rules}
use Rattle.base.proofs.PairedLaws.{all_more}
use Rattle.live_hall.specs.Doors.{none_missed}
use Rattle.live_hall.proofs.hall.Hall.with_doors.Goals as goal

pub returns : goal.returns
returns g c =
    let i = c.loop.invariant in
    let t = c.loop-test.false in
    let all = all_more none_missed c.loop.all.items c.loop.last c.args.doors i.fresh i.last (omega arith) in
    search rules
