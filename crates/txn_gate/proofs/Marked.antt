-- A mark in the record leaves what its tables tell.
use Rattle.std.proofs.Common.{◌≡◌, ◌∙◌, ℕ, Bool, false, List, [], ◌∷◌, ◌++◌, refl, sym, ap}
use Rattle.std.specs.List.{list_any}
use Rattle.std.proofs.lemmas.List.{append-nil}
use Rattle.std.proofs.lemmas.List.Elements.{filter_map-append}
use Rattle.std.proofs.lemmas.List.Sums.{fold_push}
use Rattle.txn_records.specs.Entries.{config_of, event_in, events_in}
use Rattle.txn_records.specs.Notes.{found_next}
use Rattle.txn_records.specs.declared.entry.Entry.{Entry}
use Rattle.txn_records.specs.declared.entry.Entry.TheVariants.{Scanned}
use Rattle.txn_gate.specs.TablesOf.{IsTableOf, bare, note_of}
use Rattle.txn_gate.specs.Tabled.{Tabled}
use Rattle.txn_gate.proofs.Sighted.{config_seen}

pub marked_config : (r : List Entry) (begins moved : Bool) → config_of (r ++ Scanned begins moved ∷ []) ≡ config_of r
marked_config r begins moved = config_seen r (Scanned begins moved) refl

marked_events : (r : List Entry) (begins moved : Bool) → events_in (r ++ Scanned begins moved ∷ []) ≡ events_in r
marked_events r begins moved = filter_map-append event_in r (Scanned begins moved ∷ []) ∙ append-nil (events_in r)

marked_note : (r : List Entry) (begins moved : Bool) (p : ℕ) → note_of (r ++ Scanned begins moved ∷ []) p ≡ note_of r p
marked_note r begins moved p =
    let reopened : (note_of (r ++ Scanned begins moved ∷ []) p).reopened ≡ (note_of r p).reopened = ap (list_any _) (marked_events r begins moved) in
    λ i. record { reopened = reopened i; found = fold_push (found_next p) false r (Scanned begins moved) i }

pub marked_tables : (t : Tabled) (r : List Entry) (begins moved : Bool) → IsTableOf t r → IsTableOf t (r ++ Scanned begins moved ∷ [])
marked_tables t r begins moved h = record {
  config = h.config ∙ ap bare (sym (marked_config r begins moved));
  notes = λ p. h.notes p ∙ sym (marked_note r begins moved p);
}
