use Rattle.std.proofs.Common.{◌≡◌, ◌∙◌, ◌+◌, ℕ, List, length, set, refl, sym, ap, ap₂}
use Rattle.std.specs.Prelude.{Some, slice_get}
use Rattle.std.proofs.lemmas.Bool.{ltb-false, ltb-true}
use Rattle.std.proofs.lemmas.Option.{slice_get_past, slice_get_read}
use Rattle.quiesce_core.specs.declared.event.Event.{Event}
use Rattle.report_check.proofs.WayLemmas.{done, log_ended, not_done}
use Rattle.report_check.proofs.way.Way.do_next.Goals as goal

-- what is read of the log at the place is the next event
same_place : (es log : List Event) (k place : ℕ) → log ≡ es → place ≡ k → slice_get es k ≡ slice_get log place
same_place es log k place e f = ap₂ (λ (xs : List Event) (i : ℕ). slice_get xs i) (sym e) (sym f)

pub returns-in_default-clause-tried : goal.returns-in_default-clause-tried
returns-in_default-clause-tried c =
    let log = c.log_at-log.result.now in
    let place = c.place_of-place.result in
    log_ended c.args.self.now c.args.history.now c.args.logs.now c.args.node c.requires
    (same_place _ log _ place c.log_at-log.ensures c.place_of-place.ensures ∙ slice_get_past log place (ltb-false place (length log) (sym c.in_default.ensures.lookup.0)))

pub returns-then-not-may_do-clause-tried : goal.returns-then-not-may_do-clause-tried
returns-then-not-may_do-clause-tried c =
    let log = c.log_at-log.result.now in
    let place = c.place_of-place.result in
    let found = c.in-Some.ensures.lookup in
    not_done c.args.self.now c.args.history.now c.args.logs.now c.args.node c.event-event.result c.requires
    (same_place _ log _ place c.log_at-log.ensures c.place_of-place.ensures
    ∙ slice_get_read log (length log) place c.in-Some.event.now refl (ltb-true place (length log) (sym found.0)) found.1 ∙ ap Some (sym c.event-event.ensures)) (sym c.if-not-may_do.ensures)

pub returns-clause-tried : goal.returns-clause-tried
returns-clause-tried c =
    let log = c.log_at-log.result.now in
    let place = c.place_of-place.result in
    let found = c.in-Some.ensures.lookup in
    let places = c.args.self.now.places.items in
    done c.args.self.now c.args.history.now c.args.logs.now c.args.node c.event-event.result c.perform.new.self.state _ c.requires
    (same_place _ log _ place c.log_at-log.ensures c.place_of-place.ensures
    ∙ slice_get_read log (length log) place c.in-Some.event.now refl (ltb-true place (length log) (sym found.0)) found.1 ∙ ap Some (sym c.event-event.ensures)) (sym c.if-not-may_do.ensures)
    c.perform.ensures.step.changed (ap (λ (k : ℕ). set places c.args.node (k + 1)) c.place_of-place.ensures)
