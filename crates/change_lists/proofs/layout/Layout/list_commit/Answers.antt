use Rattle.std.proofs.Common.{length, All, subst, sym}
use Rattle.change_lists.proofs.RangeLaws.{IsPlaceBelow, places_after_below}
use Rattle.change_lists.proofs.layout.Layout.list_commit.Goals as goal

pub push_all_links-requires-clause-places : goal.push_all_links-requires-clause-places
push_all_links-requires-clause-places c =
    let new = c.args.new.now in
    let next_places = c.in_ok-next.next.places.items in
    subst (λ n. All (IsPlaceBelow n) next_places) (sym c.node_count-2.ensures.count)
    (subst (All (IsPlaceBelow (length new.nodes))) (sym c.in_ok-next.ensures.places) (places_after_below c.args.old.now new c.args.plan.now c.args.self.now.places.items c.requires.within))
