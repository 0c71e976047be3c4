-- Which nodes and ports are of a row, that they stay so, and which events shape a row.
use Rattle.std.proofs.Common.{◌≡◌, ◌∙◌, ℕ, ◌<◌, Bool, true, false, List, ◌++◌, length, Some, sym, ap, subst}
use Rattle.std.specs.Prelude.{◌||◌, not}
use Rattle.std.specs.Option.{option_map_or}
use Rattle.base.proofs.OptionLaws.{map_or_at, map_or_true}
use Rattle.config_graph.specs.declared.node.Node.{Node}
use Rattle.config_graph.specs.declared.node.Target.{Target}
use Rattle.quiesce_core.specs.Alters.{Reconfigures}
use Rattle.quiesce_core.specs.Effect.{effect}
use Rattle.quiesce_core.specs.Runs.{IsRun, state_after}
use Rattle.quiesce_core.specs.State.{Configuration, State, owner, slot, target}
use Rattle.quiesce_core.specs.WellFormed.{IsSound}
use Rattle.quiesce_core.specs.declared.event.Event.{Event}
use Rattle.quiesce_core.specs.declared.event.Event.TheVariants as event
use Rattle.quiesce_core.specs.declared.state.Slot.{Slot}
use Rattle.quiesce_core.proofs.AlterLaws.{reconfigured}
use Rattle.quiesce_core.proofs.ConfigurationLaws.{linked_made, owner_kept}
use Rattle.quiesce_core.proofs.InductionLaws.{along, none_barred, unbarred}
use Rattle.result_laws.specs.Rows.{is_of_row, rows_serve_rows}
use Rattle.result_laws.proofs.ComingLaws.{stays}
use Rattle.result_laws.proofs.Linking.{AllLinked}

abbrev pub row_slot : Configuration → ℕ → Bool
row_slot c n = option_map_or (λ (m : Slot). is_of_row m.node.kind) (slot c n) false

abbrev pub row_port : Configuration → ℕ → Bool
row_port c p = row_slot c (owner c p)

-- whether an event makes or removes a node of a row, or links or unlinks one
abbrev pub shapes_row : Configuration → Event → Bool
shapes_row c (event.Make n node from) = is_of_row node.kind
shapes_row c (event.Link p n x) = row_port c p
shapes_row c (event.Unlink p) = row_port c p
shapes_row c (event.Remove n) = row_slot c n
shapes_row c _ = false

pub slot_is : (c : Configuration) (n : ℕ) (m : Slot) → slot c n ≡ Some m → row_slot c n ≡ is_of_row m.node.kind
slot_is c n m at = map_or_at (λ (m : Slot). is_of_row m.node.kind) (slot c n) false m at

-- a node that was made stays of its kind
pub row_slot_was : (c d : Configuration) (e : Event) → Reconfigures c e d → (n : ℕ) (m : Slot) → slot c n ≡ Some m → row_slot d n ≡ row_slot c n
row_slot_was c d e r n m at = let w = stays c d e r n m at in slot_is d n w.then_ w.there ∙ ap (λ (x : Node). is_of_row x.kind) w.node ∙ sym (slot_is c n m at)

pub slot_on : (c d : Configuration) (e : Event) → Reconfigures c e d → (n : ℕ) → row_slot c n ≡ true → row_slot d n ≡ true
slot_on c d e r n h = let m = map_or_true (λ (m : Slot). is_of_row m.node.kind) (slot c n) h in row_slot_was c d e r n m.0 m.1 ∙ h

-- and so does a port
pub port_was : (c d : Configuration) (e : Event) → IsSound c → Reconfigures c e d → (p : ℕ) → p < length c.gates → row_port d p ≡ row_port c p
port_was c d e sound r p low = let own = sound.ports p low in ap (row_slot d) (owner_kept c d e r p low) ∙ row_slot_was c d e r (owner c p) own.node own.made

pub port_on : (c d : Configuration) (e : Event) → Reconfigures c e d → (p : ℕ) → p < length c.gates → row_port c p ≡ true → row_port d p ≡ true
port_on c d e r p low h = ap (row_slot d) (owner_kept c d e r p low) ∙ slot_on c d e r (owner c p) h

-- who leads to a node of a row is one of a row
pub led_by_row : (c : Configuration) → AllLinked rows_serve_rows c → IsSound c → (p : ℕ) (t : Target) → target c p ≡ Some t → row_slot c t.node ≡ true → row_port c p ≡ true
led_by_row c linked sound p t leads of_row =
    let own = sound.ports p (linked_made c p t leads) in
    let m = map_or_true (λ (m : Slot). is_of_row m.node.kind) (slot c t.node) of_row in
    slot_is c (owner c p) own.node own.made ∙ sym (ap (λ b. not b || is_of_row own.node.node.kind) m.2) ∙ linked p t own.node m.0 leads own.made m.1

-- along a run
pub slots_along : (es more_ : List Event) → IsRun (es ++ more_) → (n : ℕ) → row_slot (state_after es).config n ≡ true → row_slot (state_after (es ++ more_)).config n ≡ true
slots_along es more_ run n h =
    along (λ xs. row_slot (state_after xs).config n ≡ true) unbarred
    (λ before e here free earlier. subst (λ (s : State). row_slot s.config n ≡ true) (sym here.next) (slot_on (state_after before).config (effect (state_after before) e).config e (reconfigured (state_after before) e here.legal) n earlier))
    es more_ run (none_barred more_) h
