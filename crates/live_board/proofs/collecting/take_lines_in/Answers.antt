use Rattle.std.proofs.Common.{◌∙◌, ◌++◌, ◌∷◌, [], append_assoc, ap, subst, sym}
use Rattle.std.specs.List.{AllByRecursion}
use Rattle.std.proofs.lemmas.Grind.{flat_map-append}
use Rattle.std.proofs.lemmas.List.{append-nil}
use Rattle.live_hall.specs.Sighting.{views_of}
use Rattle.live_board.specs.Collecting.{LiesAt, all_views}
use Rattle.txn_gate.specs.Seats.{collected_in, record_of}
use Rattle.txn_spec.specs.declared.view.ChangeView.{ChangeView}
use Rattle.txn_records.specs.Entries.{config_of}
use Rattle.live_board.proofs.GrowLemmas.{grew_then}
use Rattle.live_board.proofs.collecting.take_lines_in.Goals as goal

pub loop-guest-preserved : goal.loop-guest-preserved
loop-guest-preserved g c =
    let inv = c.loop-guest.invariant in
    let x = c.in-Some.guest in
    let rest = c.next.new.self.rest.items in
    let step = c.in-Some.ensures.steps.0 in
    let e = c.take_line_in.ensures in (
      tt,
      tt,
      e.here ∙ inv.2,
      e.change ∙ inv.3,
      e.spare ∙ inv.4,
      (subst (AllByRecursion (LiesAt g.J.Named.gates)) step inv.5).1,
      append_assoc c.loop-guest.yielded (x ∷ []) rest ∙ ap (λ ps. c.loop-guest.yielded ++ ps) (sym step) ∙ inv.6,
      grew_then (config_of (record_of c.args.seat.now)) (config_of (record_of c.loop-guest.seat)) (collected_in c.args.seat.now) (collected_in c.loop-guest.seat) (collected_in c.take_line_in.new.seat)
          c.args.logs.now.items c.loop-guest.logs.items c.take_line_in.new.logs.items (all_views c.loop-guest.yielded) (views_of x) _ (ap (λ (k : ChangeView). config_of k.entries) inv.3) inv.7 e.grew
          (flat_map-append views_of c.loop-guest.yielded (x ∷ []) ∙ ap (λ vs. all_views c.loop-guest.yielded ++ vs) (append-nil (views_of x))),
    )
