use Rattle.std.proofs.Common.{◌≡◌, ◌<◌, length, slice_get, arith}
use Rattle.std.proofs.lemmas.Grind.{common_steps}
use Rattle.std.proofs.lemmas.Option.{gets}
use Rattle.passive_set.proofs.MarkLemmas.{marked_below}
use Rattle.base.proofs.PlaceLaws.{IfSome-read}
use Rattle.passive_set.proofs.port_set.PortSet.get.Goals as goal

pub returns-clause-below : goal.returns-clause-below
returns-clause-below c =
    let inside = c.self.inside in
    let read : c.copied.result ≡ slice_get inside.ports.items c.args.index = grind (arith, common_steps, gets) in
    rw (← c.self.view_is) (IfSome-read (λ p. p < length inside.has.items) inside.ports.items c.args.index c.copied.result read (marked_below inside.has.items inside.ports.items c.self.invariant.marked))
