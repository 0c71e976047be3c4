-- The configuration of a record with one entry more: an event of the change, a look, a sight.
use Rattle.std.proofs.Common.{◌≡◌, ◌∙◌, ℕ, List, [], ◌∷◌, ◌++◌, ap}
use Rattle.std.proofs.lemmas.List.{append-nil}
use Rattle.std.proofs.lemmas.List.Elements.{filter_map-append}
use Rattle.std.proofs.lemmas.List.Sums.{fold_push}
use Rattle.quiesce_laws.specs.Steps.{change_all}
use Rattle.txn_records.specs.Entries.{config_of, event_in, events_in}
use Rattle.txn_records.specs.declared.entry.Entry.{Entry}
use Rattle.txn_records.specs.declared.entry.Entry.TheVariants.{Did, Looked, Sighted}
use Rattle.quiesce_core.specs.Effect.{change_next}
use Rattle.quiesce_core.specs.State.{empty}
use Rattle.quiesce_core.specs.declared.event.Event.{Event}

pub config_did : (r : List Entry) (e : Event) → config_of (r ++ Did e ∷ []) ≡ change_next (config_of r) e
config_did r e = ap (change_all empty.config) (filter_map-append event_in r (Did e ∷ [])) ∙ fold_push change_next empty.config (events_in r) e

pub config_looked : (r : List Entry) (p w : ℕ) → config_of (r ++ Looked p w ∷ []) ≡ config_of r
config_looked r p w = ap (change_all empty.config) (filter_map-append event_in r (Looked p w ∷ []) ∙ append-nil (events_in r))

pub config_sighted : (r : List Entry) (n : ℕ) (es : List Event) → config_of (r ++ Sighted n es ∷ []) ≡ config_of r
config_sighted r n es = ap (change_all empty.config) (filter_map-append event_in r (Sighted n es ∷ []) ∙ append-nil (events_in r))
