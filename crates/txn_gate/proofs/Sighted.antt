-- The change's seat while it holds a node's seat, and once it has given it out again.
use Rattle.std.proofs.Common.{◌≡◌, ◌∙◌, false, List, [], ◌∷◌, ◌++◌, Some, None, refl, sym, ap, subst}
use Rattle.std.proofs.lemmas.List.{append-nil}
use Rattle.std.proofs.lemmas.List.Elements.{filter_map-append}
use Rattle.std.specs.List.{cons_option}
use Rattle.std.specs.Option.{option_map}
use Rattle.quiesce_laws.specs.Steps.{change_all}
use Rattle.txn_records.specs.Entries.{config_of, event_in, events_in}
use Rattle.txn_records.specs.Records.{IsRecord}
use Rattle.txn_records.specs.declared.entry.Entry.{Entry}
use Rattle.txn_records.specs.declared.entry.Entry.TheVariants.{Sighted}
use Rattle.quiesce_core.specs.State.{Configuration, empty, is_live, slot}
use Rattle.quiesce_core.specs.Words.{slot_fields_of}
use Rattle.txn_spec.specs.Merging.{IsOfRecord}
use Rattle.txn_spec.specs.Steps.{Seat, noted}
use Rattle.txn_spec.specs.Views.{change_of, given_out, node_of, with_seat, with_sight}

-- an entry that is no event leaves the configuration
pub config_seen : (r : List Entry) (x : Entry) → event_in x ≡ None → config_of (r ++ x ∷ []) ≡ config_of r
config_seen r x quiet = ap (change_all empty.config) (filter_map-append event_in r (x ∷ []) ∙ ap (λ o. events_in r ++ cons_option o []) quiet ∙ append-nil (events_in r))

-- the change takes a node's seat in for good
pub holds_seat : (me you m : Seat) → m ≡ (with_seat me.0 you.0, []) → m.0.nodes ≡ node_of m.0 ∷ me.0.nodes
holds_seat me you m is = subst (λ (k : Seat). k.0.nodes ≡ node_of k.0 ∷ me.0.nodes) (sym is) refl

module _ (me you m : Seat) (is : m ≡ (with_sight me.0 you.0, [])) where
  -- or for a sight
  pub holds_sight : m.0.nodes ≡ node_of m.0 ∷ me.0.nodes
  holds_sight = subst (λ (k : Seat). k.0.nodes ≡ node_of k.0 ∷ me.0.nodes) (sym is) refl

  -- what it learns then
  pub learned : IsOfRecord (change_of m.0).entries (node_of m.0) → IsOfRecord (change_of me.0).entries (node_of you.0)
  learned h =
      let told : IsOfRecord ((change_of me.0).entries ++ Sighted (node_of you.0).slot (node_of you.0).log ∷ []) (node_of you.0) =
      subst (λ (k : Seat). IsOfRecord (change_of k.0).entries (node_of k.0)) is h in
      let same = config_seen (change_of me.0).entries (Sighted (node_of you.0).slot (node_of you.0).log) refl in record {
        made = subst (λ (c : Configuration). option_map slot_fields_of (slot c (node_of you.0).slot) ≡ Some (node_of you.0).made) same told.made;
        unserving = subst (λ (c : Configuration). is_live c (node_of you.0).slot ≡ false → (node_of you.0).known.service ≡ None) same told.unserving;
      }

  -- and when it has given it out again
  pub sighted : (m2 m3 : Seat) → m2 ≡ m → m3 ≡ (given_out m2.0, []) → m3 ≡ noted me (Sighted (node_of you.0).slot (node_of you.0).log)
  sighted m2 m3 same given = given ∙ ap (λ (k : Seat). (given_out k.0, [])) (same ∙ is)

  pub sighted_run : (m2 m3 : Seat) → m2 ≡ m → m3 ≡ (given_out m2.0, []) → IsRecord (change_of m.0).entries → IsRecord (change_of m3.0).entries
  sighted_run m2 m3 same given run = subst (λ (k : Seat). IsRecord (change_of k.0).entries) (sym (given ∙ ap (λ (k : Seat). (given_out k.0, [])) same)) run
