use Rattle.std.proofs.Common.{◌∙◌}
use Rattle.base.proofs.PairedLaws.{seen_same}
use Rattle.live_hall.specs.Doors.{missed}
use Rattle.live_hall.proofs.door.Door.put.Goals as goal

pub returns : goal.returns
returns g c =
    seen_same missed c.self.inside.locks.items c.guest.result.now.node.slot c.index_mut.result.now c.put_until.new.lock c.index_mut.ensures.value c.put_until.ensures.same ∙ c.self.view_is
