use Rattle.std.proofs.Common.{◌≡◌, Some, sym, ap, ◌∙◌}
use Rattle.std.specs.Prelude.{slice_get}
use Rattle.std.proofs.lemmas.Option.{slice_get-get_or}
use Rattle.change_spec.specs.Members.{line_of}
use Rattle.change_lists.proofs.ListingLaws.{picked_on}
use Rattle.change_apply.proofs.telling.push_lines.Goals as goal

pub loop-event-preserved : goal.loop-event-preserved
loop-event-preserved c =
    let es = c.args.events.now in
    let i = c.loop-event.event-index in
    let x = c.event-item.result in
    let here : slice_get es i ≡ Some x = slice_get-get_or es i x c.loop-event-test.true ∙ ap Some (sym c.event-item.is) in
    picked_on line_of es i x c.args.lines.now.items c.loop-event.lines.items c.push_line.new.lines.items here c.loop-event.invariant c.in_ok-push_line.ensures
