-- Each world that is reached has a course: its events as members, and those of the change as the history.
use Rattle.std.proofs.Common.{◌≡◌, List, [], ◌∷◌, ◌++◌, map, Option, Some, None, refl, ap}
use Rattle.std.specs.Prelude.{All}
use Rattle.std.proofs.lemmas.List.Elements.{All-cons, All-nil}
use Rattle.base.specs.Each.{EachAfter}
use Rattle.quiesce_core.specs.declared.event.Event.{Event}
use Rattle.quiesce_core.specs.declared.event.Event.TheVariants as event
use Rattle.report_types.specs.declared.report.HistoryLine.{HistoryLine}
use Rattle.report_types.specs.declared.report.HistoryLine.TheVariants as to
use Rattle.change_spec.specs.Lawful.{IsDrainedAt, IsOfItsKind, StoodOpenWhereSaid}
use Rattle.change_spec.specs.Members.{Member, by_node, of_history, events, line_of, lines, lines_of_events, without_roots}
use Rattle.change_round_laws.specs.Courses.{Course, IsToldAt}
use Rattle.node_turn_laws.specs.Reached.{IsReached}
use Rattle.node_turn_laws.specs.World.{World}

-- an event as a member: a line where it is one of the change
abbrev member_by : Event → Option HistoryLine → Member
member_by e (Some l) = of_history l
member_by e None = by_node e

abbrev member_of : Event → Member
member_of e = member_by e (line_of e)

abbrev pub members_of : List Event → List Member
members_of es = map member_of es

each_event : (P : List Member → Member → Type 0) → ((before : List Member) (e : Event) → P before (member_of e)) → (before : List Member) (es : List Event) → EachAfter P before (members_of es)
each_event P h before [] = tt
each_event P h before (e ∷ es) = (h before e, each_event P h (before ++ member_of e ∷ []) es)

drained_event : (before : List Member) (e : Event) → IsDrainedAt before (member_of e)
drained_event before (event.Begin p k v) = tt
drained_event before (event.Call p k v) = tt
drained_event before (event.Take p k v) = tt
drained_event before (event.Give p k v) = tt
drained_event before (event.End p k v) = tt
drained_event before (event.More p k v) = tt
drained_event before (event.Ask p k v) = tt
drained_event before (event.Hear p k v) = tt
drained_event before (event.Miss p) = tt
drained_event before (event.Close p) = tt
drained_event before (event.Reopen p) = tt
drained_event before (event.Make n node from) = tt
drained_event before (event.Link p n x) = tt
drained_event before (event.Unlink p) = tt
drained_event before (event.Remove n) = tt

told_event : (before : List Member) (e : Event) → IsToldAt before (member_of e)
told_event before (event.Begin p k v) = tt
told_event before (event.Call p k v) = tt
told_event before (event.Take p k v) = tt
told_event before (event.Give p k v) = tt
told_event before (event.End p k v) = tt
told_event before (event.More p k v) = tt
told_event before (event.Ask p k v) = tt
told_event before (event.Hear p k v) = tt
told_event before (event.Miss p) = tt
told_event before (event.Close p) = tt
told_event before (event.Reopen p) = tt
told_event before (event.Make n node from) = tt
told_event before (event.Link p n x) = tt
told_event before (event.Unlink p) = tt
told_event before (event.Remove n) = tt

kind_event : (e : Event) → IsOfItsKind (member_of e)
kind_event (event.Begin p k v) = refl
kind_event (event.Call p k v) = refl
kind_event (event.Take p k v) = refl
kind_event (event.Give p k v) = refl
kind_event (event.End p k v) = refl
kind_event (event.More p k v) = refl
kind_event (event.Ask p k v) = refl
kind_event (event.Hear p k v) = refl
kind_event (event.Miss p) = refl
kind_event (event.Close p) = tt
kind_event (event.Reopen p) = tt
kind_event (event.Make n node from) = tt
kind_event (event.Link p n x) = tt
kind_event (event.Unlink p) = tt
kind_event (event.Remove n) = tt

kinds_so : (es : List Event) → All IsOfItsKind (members_of es)
kinds_so [] = All-nil IsOfItsKind
kinds_so (e ∷ es) = All-cons IsOfItsKind (member_of e) (members_of es) (kind_event e) (kinds_so es)

events_so : (es : List Event) → events (members_of es) ≡ es
events_so [] = refl
events_so (event.Begin p k v ∷ es) = ap (λ xs. event.Begin p k v ∷ xs) (events_so es)
events_so (event.Call p k v ∷ es) = ap (λ xs. event.Call p k v ∷ xs) (events_so es)
events_so (event.Take p k v ∷ es) = ap (λ xs. event.Take p k v ∷ xs) (events_so es)
events_so (event.Give p k v ∷ es) = ap (λ xs. event.Give p k v ∷ xs) (events_so es)
events_so (event.End p k v ∷ es) = ap (λ xs. event.End p k v ∷ xs) (events_so es)
events_so (event.More p k v ∷ es) = ap (λ xs. event.More p k v ∷ xs) (events_so es)
events_so (event.Ask p k v ∷ es) = ap (λ xs. event.Ask p k v ∷ xs) (events_so es)
events_so (event.Hear p k v ∷ es) = ap (λ xs. event.Hear p k v ∷ xs) (events_so es)
events_so (event.Miss p ∷ es) = ap (λ xs. event.Miss p ∷ xs) (events_so es)
events_so (event.Close p ∷ es) = ap (λ xs. event.Close p ∷ xs) (events_so es)
events_so (event.Reopen p ∷ es) = ap (λ xs. event.Reopen p ∷ xs) (events_so es)
events_so (event.Make n node from ∷ es) = ap (λ xs. event.Make n node from ∷ xs) (events_so es)
events_so (event.Link p n x ∷ es) = ap (λ xs. event.Link p n x ∷ xs) (events_so es)
events_so (event.Unlink p ∷ es) = ap (λ xs. event.Unlink p ∷ xs) (events_so es)
events_so (event.Remove n ∷ es) = ap (λ xs. event.Remove n ∷ xs) (events_so es)

lines_so : (es : List Event) → lines (members_of es) ≡ without_roots (lines_of_events es)
lines_so [] = refl
lines_so (event.Begin p k v ∷ es) = lines_so es
lines_so (event.Call p k v ∷ es) = lines_so es
lines_so (event.Take p k v ∷ es) = lines_so es
lines_so (event.Give p k v ∷ es) = lines_so es
lines_so (event.End p k v ∷ es) = lines_so es
lines_so (event.More p k v ∷ es) = lines_so es
lines_so (event.Ask p k v ∷ es) = lines_so es
lines_so (event.Hear p k v ∷ es) = lines_so es
lines_so (event.Miss p ∷ es) = lines_so es
lines_so (event.Close p ∷ es) = ap (λ ls. to.Close p ∷ ls) (lines_so es)
lines_so (event.Reopen p ∷ es) = ap (λ ls. to.Reopen p ∷ ls) (lines_so es)
lines_so (event.Make n node from ∷ es) = ap (λ ls. to.Make n node from ∷ ls) (lines_so es)
lines_so (event.Link p n x ∷ es) = ap (λ ls. to.Link p n x ∷ ls) (lines_so es)
lines_so (event.Unlink p ∷ es) = ap (λ ls. to.Unlink p ∷ ls) (lines_so es)
lines_so (event.Remove n ∷ es) = ap (λ ls. to.Remove n ∷ ls) (lines_so es)

none_open : (m : List Member) (before : List HistoryLine) (es : List Event) → EachAfter (StoodOpenWhereSaid m) before (lines_of_events es)
none_open m before [] = tt
none_open m before (event.Begin p k v ∷ es) = none_open m before es
none_open m before (event.Call p k v ∷ es) = none_open m before es
none_open m before (event.Take p k v ∷ es) = none_open m before es
none_open m before (event.Give p k v ∷ es) = none_open m before es
none_open m before (event.End p k v ∷ es) = none_open m before es
none_open m before (event.More p k v ∷ es) = none_open m before es
none_open m before (event.Ask p k v ∷ es) = none_open m before es
none_open m before (event.Hear p k v ∷ es) = none_open m before es
none_open m before (event.Miss p ∷ es) = none_open m before es
none_open m before (event.Close p ∷ es) = (tt, none_open m (before ++ to.Close p ∷ []) es)
none_open m before (event.Reopen p ∷ es) = (tt, none_open m (before ++ to.Reopen p ∷ []) es)
none_open m before (event.Make n node from ∷ es) = (tt, none_open m (before ++ to.Make n node from ∷ []) es)
none_open m before (event.Link p n x ∷ es) = (tt, none_open m (before ++ to.Link p n x ∷ []) es)
none_open m before (event.Unlink p ∷ es) = (tt, none_open m (before ++ to.Unlink p ∷ []) es)
none_open m before (event.Remove n ∷ es) = (tt, none_open m (before ++ to.Remove n ∷ []) es)

pub course_of : (w : World) → IsReached w → Course (lines_of_events w.events) w (members_of w.events)
course_of w r = record {
  reached = r;
  events_are = events_so w.events;
  lines_are = lines_so w.events;
  kinds = kinds_so w.events;
  drained = each_event IsDrainedAt drained_event [] w.events;
  stood_open = none_open (members_of w.events) [] w.events;
  told = each_event IsToldAt told_event [] w.events;
}
