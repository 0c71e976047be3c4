-- Entries that leave the configuration: sights and looks.
use Rattle.std.proofs.Common.{◌≡◌, ◌∙◌, List, [], ◌∷◌, ◌++◌, map, refl, ap}
use Rattle.std.specs.List.{filter_map}
use Rattle.std.proofs.lemmas.List.{append-nil}
use Rattle.std.proofs.lemmas.List.Elements.{filter_map-append}
use Rattle.change_board.specs.Scans.{Found, look_entry}
use Rattle.change_board.specs.Sights.{Sight, sight_entry}
use Rattle.quiesce_laws.specs.Steps.{change_all}
use Rattle.quiesce_core.specs.State.{empty}
use Rattle.quiesce_core.specs.declared.event.Event.{Event}
use Rattle.txn_records.specs.Entries.{config_of, event_in, events_in}
use Rattle.txn_records.specs.declared.entry.Entry.{Entry}

pub quiet : (r es : List Entry) → filter_map event_in es ≡ [] → config_of (r ++ es) ≡ config_of r
quiet r es none_ = ap (change_all empty.config) (filter_map-append event_in r es ∙ ap (λ (xs : List Event). events_in r ++ xs) none_ ∙ append-nil (events_in r))

pub quiet_sights : (ss : List Sight) → filter_map event_in (map sight_entry ss) ≡ []
quiet_sights [] = refl
quiet_sights (s ∷ ss) = quiet_sights ss

pub quiet_looks : (fs : List Found) → filter_map event_in (map look_entry fs) ≡ []
quiet_looks [] = refl
quiet_looks (f ∷ fs) = quiet_looks fs

pub config_then : (r r' : List Entry) (ss : List Sight) → r' ≡ r ++ map sight_entry ss → config_of r' ≡ config_of r
config_then r r' ss is = ap config_of is ∙ quiet r (map sight_entry ss) (quiet_sights ss)

pub config_looked : (r r' : List Entry) (fs : List Found) → r' ≡ r ++ map look_entry fs → config_of r' ≡ config_of r
config_looked r r' fs is = ap config_of is ∙ quiet r (map look_entry fs) (quiet_looks fs)
