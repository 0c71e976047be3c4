-- Lines of a history: which events they are, and to which configuration they lead.
use Rattle.std.proofs.Common.{◌≡◌, ◌∙◌, ℕ, Bool, false, List, [], ◌∷◌, ◌++◌, map, refl, ap}
use Rattle.std.specs.Prelude.{filter, filter_map, fold}
use Rattle.std.specs.List.{cons_option, list_any}
use Rattle.std.proofs.lemmas.List.Elements.{filter_map-append}
use Rattle.quiesce_core.specs.declared.event.Event.{Event}
use Rattle.quiesce_core.specs.declared.event.Event.TheVariants as event
use Rattle.quiesce_core.specs.Doers.{is_of_change}
use Rattle.quiesce_core.specs.Effect.{change_next}
use Rattle.quiesce_core.specs.Runs.{state_after}
use Rattle.quiesce_core.specs.State.{empty}
use Rattle.quiesce_core.proofs.RunLaws.{changes_make_the_configuration}
use Rattle.report_types.specs.declared.report.HistoryLine.{HistoryLine}
use Rattle.report_types.specs.declared.report.HistoryLine.TheVariants as to
use Rattle.change_spec.specs.Members.{event_of, line_of, lines_of_events}
use Rattle.change_spec.specs.Scene.{Seen, config_after, root_line}
use Rattle.change_spec.proofs.MemberLaws.{kept_change}
pub use Rattle.change_spec.proofs.PortLaws.{closed_events as changes_of_closes, config_more, no_events_drained as changes_of_looks}

-- the events of lines
abbrev pub changes : List HistoryLine → List Event
changes h = filter_map event_of h

pub all_changes : (h : List HistoryLine) → filter is_of_change (changes h) ≡ changes h
all_changes [] = refl
all_changes (l ∷ h) = kept_change l (changes h) ∙ ap (cons_option (event_of l)) (all_changes h)

pub changes_both : (h k : List HistoryLine) → changes (h ++ k) ≡ changes h ++ changes k
changes_both h k = filter_map-append event_of h k

-- the configuration after lines is that of their events
pub config_of : (h : List HistoryLine) → (state_after (changes h)).config ≡ config_after h
config_of h = changes_make_the_configuration (changes h) ∙ ap (λ es. fold change_next empty.config es) (all_changes h)

pub changes_of_reopens : (ports : List ℕ) → changes (map to.Reopen ports) ≡ map event.Reopen ports
changes_of_reopens [] = refl
changes_of_reopens (p ∷ ports) = ap (λ es. event.Reopen p ∷ es) (changes_of_reopens ports)

pub changes_of_roots : (left : List Seen) → changes (map root_line left) ≡ []
changes_of_roots [] = refl
changes_of_roots (d ∷ left) = changes_of_roots left

-- the lines of events are the change's among them
pub changes_of_lines : (es : List Event) → changes (lines_of_events es) ≡ filter is_of_change es
changes_of_lines [] = refl
changes_of_lines (event.Make n made from ∷ es) = ap (λ xs. event.Make n made from ∷ xs) (changes_of_lines es)
changes_of_lines (event.Link p n x ∷ es) = ap (λ xs. event.Link p n x ∷ xs) (changes_of_lines es)
changes_of_lines (event.Unlink p ∷ es) = ap (λ xs. event.Unlink p ∷ xs) (changes_of_lines es)
changes_of_lines (event.Remove n ∷ es) = ap (λ xs. event.Remove n ∷ xs) (changes_of_lines es)
changes_of_lines (event.Close p ∷ es) = ap (λ xs. event.Close p ∷ xs) (changes_of_lines es)
changes_of_lines (event.Reopen p ∷ es) = ap (λ xs. event.Reopen p ∷ xs) (changes_of_lines es)
changes_of_lines (event.Begin p k v ∷ es) = changes_of_lines es
changes_of_lines (event.Call p k v ∷ es) = changes_of_lines es
changes_of_lines (event.Miss p ∷ es) = changes_of_lines es
changes_of_lines (event.Take p k v ∷ es) = changes_of_lines es
changes_of_lines (event.Give p k v ∷ es) = changes_of_lines es
changes_of_lines (event.More p k v ∷ es) = changes_of_lines es
changes_of_lines (event.Ask p k v ∷ es) = changes_of_lines es
changes_of_lines (event.Hear p k v ∷ es) = changes_of_lines es
changes_of_lines (event.End p k v ∷ es) = changes_of_lines es

-- tests of lines that none passes

pub none_of_events : (t : HistoryLine → Bool) → ((e : Event) (ls : List HistoryLine) → list_any t ls ≡ false → list_any t (cons_option (line_of e) ls) ≡ false) → (es : List Event)
    → list_any t (lines_of_events es) ≡ false
none_of_events t h [] = refl
none_of_events t h (e ∷ es) = h e (lines_of_events es) (none_of_events t h es)
