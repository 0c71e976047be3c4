use Rattle.std.proofs.Common.{◌≡◌, Some, sym, ap, ◌∙◌}
use Rattle.std.specs.Prelude.{slice_get}
use Rattle.std.proofs.lemmas.Option.{slice_get-get_or}
use Rattle.change_lists.proofs.ListingLaws.{picked_on}
use Rattle.report_follows.specs.Testing.{told_port}
use Rattle.report_follows.proofs.testing.push_all_told.Goals as goal

pub loop-line-preserved : goal.loop-line-preserved
loop-line-preserved c =
    let ls = c.args.lines.now in
    let i = c.loop-line.line-index in
    let x = c.line-item.result in
    let here : slice_get ls i ≡ Some x = slice_get-get_or ls i x c.loop-line-test.true ∙ ap Some (sym c.line-item.is) in
    picked_on told_port ls i x c.args.ports.now.items c.loop-line.ports.items c.push_told.new.ports.items here c.loop-line.invariant c.in_ok-push_told.ensures
