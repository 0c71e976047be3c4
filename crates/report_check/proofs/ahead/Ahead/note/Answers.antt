use Rattle.std.proofs.Common.{◌≡◌, ◌∙◌, Some, refl, sym, ap}
use Rattle.std.specs.Prelude.{slice_get}
use Rattle.std.proofs.lemmas.Option.{slice_get-get_or}
use Rattle.report_check.proofs.AheadLemmas.{noted, unnoted}
use Rattle.report_check.proofs.ahead.Ahead.note.Goals as goal

pub returns-in-Some : goal.returns-in-Some
returns-in-Some c =
    let h = c.args.history.now in
    let l = c.index-history-place.result in
    let at : slice_get h c.args.place ≡ Some l = slice_get-get_or h c.args.place l c.requires.there ∙ ap Some (sym c.index-history-place.is) in
    noted c.args.self.now _ h c.args.place c.in-Some.port c.index.result.now l at (sym c.known_port.ensures ∙ c.in-Some.is) c.requires.ahead c.index.ensures refl refl

pub returns-in_default : goal.returns-in_default
returns-in_default c =
    let h = c.args.history.now in
    let l = c.index-history-place.result in
    let at : slice_get h c.args.place ≡ Some l = slice_get-get_or h c.args.place l c.requires.there ∙ ap Some (sym c.index-history-place.is) in
    unnoted c.args.self.now h c.args.place l at (sym c.known_port.ensures ∙ c.in_default.is) c.requires.ahead
