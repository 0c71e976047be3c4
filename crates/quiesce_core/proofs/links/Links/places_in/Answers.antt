use Rattle.std.proofs.Common.{◌≡◌, ◌<◌, ◌∙◌, Some, length, get_or, subst, arith, length-set}
use Rattle.std.specs.Prelude.{slice_get}
use Rattle.std.proofs.lemmas.Option.{slice_get-get_or}
use Rattle.quiesce_core.specs.Links.{config_in}
use Rattle.quiesce_core.specs.Listed.{ArePlaces}
use Rattle.quiesce_core.proofs.TableLaws.{live_made}
use Rattle.quiesce_core.proofs.OrderLemmas.{places_more}
use Rattle.quiesce_core.proofs.links.Links.places_in.Goals as goal

pub index_mut-requires : goal.index_mut-requires
index_mut-requires c =
    let order = c.args.order.now in
    let k = c.loop-place.place in
    let at : slice_get order k ≡ Some (get_or order k 0) = slice_get-get_or order k 0 c.loop-place-test.true in
    omega (arith, live_made (config_in c.args.self.now) (get_or order k 0) (c.requires.order.live k (get_or order k 0) at), c.loop-place.invariant.count)

pub loop-place-preserved : goal.loop-place-preserved
loop-place-preserved c =
    let order = c.args.order.now in
    let config = config_in c.args.self.now in
    let k = c.loop-place.place in
    let n = get_or order k 0 in
    let places = c.loop-place.places.items in
    let at : slice_get order k ≡ Some n = slice_get-get_or order k 0 c.loop-place-test.true in
    let within : n < length places = omega (arith, live_made config n (c.requires.order.live k n at), c.loop-place.invariant.count) in
    record {
      count = length-set places n (Some k) ∙ c.loop-place.invariant.count;
      are = places_more config order c.requires.order k n places at within c.loop-place.invariant.are;
    }

pub returns : goal.returns
returns c =
    let last : c.loop-place.place ≡ length c.args.order.now = omega (arith, c.loop-place-test.false, c.loop-place.auto.place-end) in
    subst (λ k. ArePlaces c.args.order.now k c.loop-place.places.items) last c.loop-place.invariant.are
