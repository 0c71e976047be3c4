-- Seats at the core's gate fit the nodes that are made, and go on fitting while these are live.
use Rattle.std.proofs.Common.{◌≡◌, ◌∙◌, ℕ, ◌+◌, ◌<◌, true, false, ◌&&◌, cond, length, Option, Some, refl, ap, sym, subst}
use Rattle.std.specs.Prelude.{◌==◌, nat_lt, nat_le}
use Rattle.std.specs.Option.{option_map_or}
use Rattle.std.proofs.lemmas.Bool.{and_parts, leb-true, ltb-true}
use Rattle.std.proofs.lemmas.Option.{slice_get_within}
use Rattle.config_graph.specs.Kinds.{row}
use Rattle.config_graph.specs.declared.TheConstants.{MAX_NODES, MAX_PORTS}
use Rattle.config_graph.specs.declared.node.Node.{Node}
use Rattle.quiesce_core.specs.Effect.{effect}
use Rattle.quiesce_core.specs.Knowledge.{IsKnown, nothing_known}
use Rattle.quiesce_core.specs.Legal.{Legal}
use Rattle.quiesce_core.specs.Runs.{Step, is_doer}
use Rattle.quiesce_core.specs.State.{State, is_live, slot}
use Rattle.quiesce_core.specs.Traffic.{IsConsistent}
use Rattle.quiesce_core.specs.WellFormed.{IsWellFormed}
use Rattle.quiesce_core.specs.declared.event.Event.{Event}
use Rattle.quiesce_core.specs.declared.event.Event.TheVariants.{Make}
use Rattle.quiesce_core.specs.declared.known.Known.{Known}
use Rattle.quiesce_core.specs.declared.state.Slot.{Slot}
use Rattle.quiesce_core.proofs.AlterLaws.{reconfigured}
use Rattle.quiesce_core.proofs.ConfigurationLaws.{slot_was}
use Rattle.quiesce_core.proofs.KnownLaws.{known_by_others, new_nodes_know_nothing}
use Rattle.quiesce_core.proofs.LegalLaws.{legal}
use Rattle.node_gate.specs.Core.{FitsCore, node_at, node_in}
use Rattle.node_gate.specs.Seats.{IsWithinLimits, NodeAt}
use Rattle.node_gate.proofs.CoreLemmas.{live_in, made_slot}

-- a node that is live after an event was made before it, and is the same then
same_node : (s : State) (e : Event) (n : ℕ) → Legal s e → n < length s.config.slots → is_live (effect s e).config n ≡ true → node_at (effect s e).config n ≡ node_at s.config n
same_node s e n l made live =
    let now : (m : Slot) × (slot (effect s e).config n ≡ Some m) = live_in (slot (effect s e).config n) live in
    let old = slot_was s.config (effect s e).config e (reconfigured s e l) n now.0 made now.1 in
    ap (node_in n) now.1
    ∙ ap (λ (x : Node). record { slot = n; kind = x.kind; first = now.0.first_port }) (sym old.3)
    ∙ ap (λ f. record { slot = n; kind = old.0.node.kind; first = f }) (sym old.2)
    ∙ sym (ap (node_in n) old.1)

seats_stay_by : (s : State) (e : Event) (n : ℕ) (w : Known) → IsWellFormed s → IsConsistent s → Legal s e → is_doer s n e ≡ false → is_live (effect s e).config n ≡ true → FitsCore s n w
    → FitsCore (effect s e) n w
seats_stay_by s e n w wf con l other live fits =
    let there = made_slot s wf con n w fits in
    let made : n < length s.config.slots = slice_get_within s.config.slots n there.0 there.1 in
    let same = same_node s e n l made live in
    record {
      live = live;
      known = subst (λ (x : NodeAt). IsKnown (effect s e) n x.first w) (sym same) (known_by_others s e n (node_at s.config n).first w wf con l made other fits.known);
      two = fits.two;
      within = subst (λ (x : NodeAt). IsWithinLimits x) (sym same) fits.within;
    }

pub seats_stay : (s t : State) (e : Event) (n : ℕ) (w : Known) → IsWellFormed s → IsConsistent s → Step s e t → is_doer s n e ≡ false → is_live t.config n ≡ true → FitsCore s n w → FitsCore t n w
seats_stay s t e n w wf con step other live fits =
    subst (λ (u : State). FitsCore u n w) (sym step.changed)
    (seats_stay_by s e n w wf con (legal s e step.allowed) other (subst (λ (u : State). is_live u.config n ≡ true) step.changed live) fits)

new_seat : (s : State) (n : ℕ) (node : Node) (from : Option ℕ) → IsWellFormed s → Legal s (Make n node from) → FitsCore (effect s (Make n node from)) n nothing_known
new_seat s n node from wf l =
    let room = and_parts (n == length s.config.slots && nat_lt n MAX_NODES) (nat_le (length s.config.gates + length (row node.kind).requires_) MAX_PORTS) l.room in
    let next = and_parts (n == length s.config.slots) (nat_lt n MAX_NODES) room.0 in
    let fresh : Slot = record { node = node; from = from; first_port = length s.config.gates; live = true } in
    let there : slot (effect s (Make n node from)).config n ≡ Some fresh =
    (reconfigured s (Make n node from) l).slots n ∙ ap (λ b. cond b (Some fresh) (slot s.config n)) next.0 in
    let is : node_at (effect s (Make n node from)).config n ≡ record { slot = n; kind = node.kind; first = length s.config.gates } = ap (node_in n) there in
    record {
      live = ap (λ o. option_map_or (λ (m : Slot). m.live) o false) there;
      known = subst (λ (x : NodeAt). IsKnown (effect s (Make n node from)) n x.first nothing_known) (sym is) (new_nodes_know_nothing s n node from wf l);
      two = refl;
      within =
          subst (λ (x : NodeAt). IsWithinLimits x) (sym is)
          (record { slot_within = ltb-true n MAX_NODES next.1; ports_within = leb-true (length s.config.gates + length (row node.kind).requires_) MAX_PORTS room.1 });
    }

pub new_seats_fit : (s t : State) (n : ℕ) (node : Node) (from : Option ℕ) → IsWellFormed s → Step s (Make n node from) t → FitsCore t n nothing_known
new_seats_fit s t n node from wf step = subst (λ (u : State). FitsCore u n nothing_known) (sym step.changed) (new_seat s n node from wf (legal s (Make n node from) step.allowed))
