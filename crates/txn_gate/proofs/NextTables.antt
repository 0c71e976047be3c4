-- The tables of a record with one entry more, and the room for a node that it says is made.
use Rattle.std.proofs.Common.{◌≡◌, ◌∙◌, ℕ, ◌+◌, ◌<◌, ◌≤◌, true, ◌&&◌, List, [], ◌∷◌, ◌++◌, length, Option, sym, ap, subst, arith}
use Rattle.std.specs.Prelude.{◌==◌, nat_le, nat_lt}
use Rattle.std.proofs.lemmas.Bool.{and_parts, eqb-true, leb-true, ltb-true}
use Rattle.std.proofs.lemmas.List.{length-map}
use Rattle.config_graph.specs.Kinds.{row}
use Rattle.config_graph.specs.declared.TheConstants.{MAX_NODES, MAX_PORTS}
use Rattle.config_graph.specs.declared.node.Node.{Node}
use Rattle.txn_records.specs.Entries.{config_of}
use Rattle.txn_records.specs.declared.entry.Entry.{Entry}
use Rattle.txn_records.specs.declared.entry.Entry.TheVariants.{Did, Sighted}
use Rattle.quiesce_core.specs.Effect.{change_next}
use Rattle.quiesce_core.specs.Legal.{CanMake}
use Rattle.quiesce_core.specs.Links.{HasRoomForAll, KeepsCapacity}
use Rattle.quiesce_core.specs.Rules.{is_live_port}
use Rattle.quiesce_core.specs.State.{Configuration, is_live, owner}
use Rattle.quiesce_core.specs.declared.event.Event.{Event}
use Rattle.quiesce_core.specs.declared.links.Links.{Links}
use Rattle.txn_gate.specs.TablesOf.{IsTableOf, bare, bare_slot}
use Rattle.txn_gate.specs.Tabled.{Tabled}
use Rattle.txn_records.proofs.EntryLaws.{config_did, config_sighted}
use Rattle.txn_gate.proofs.NotingTables.{noted_sighted}

-- tables of a record are those of the record with a sight more
pub seen_tables : (t : Tabled) (r : List Entry) (n : ℕ) (es : List Event) → IsTableOf t r → IsTableOf t (r ++ Sighted n es ∷ [])
seen_tables t r n es h = record { config = h.config ∙ ap bare (sym (config_sighted r n es)); notes = noted_sighted t.notes r n es h.notes }

-- what tables that have the configuration have then
pub next_config : (f : Configuration → Configuration) (r : List Entry) (e : Event) (k d : Configuration) → k ≡ bare (config_of r) → d ≡ f k → f (bare (config_of r)) ≡ bare (change_next (config_of r) e)
    → d ≡ bare (config_of (r ++ Did e ∷ []))
next_config f r e k d was is kept = is ∙ ap f was ∙ kept ∙ ap bare (sym (config_did r e))

-- a live port was made
pub live_port_made : (k : Configuration) (r : List Entry) (p : ℕ) → k ≡ bare (config_of r) → is_live_port (config_of r) p ≡ true → p < length k.gates
live_port_made k r p was live =
    subst (λ (c : Configuration). p < length c.gates) (sym was)
    (ltb-true p (length (config_of r).gates) (and_parts (nat_lt p (length (config_of r).gates)) (is_live (config_of r) (owner (config_of r) p)) live).0)

-- room that is kept
pub room_kept : (old new : Links) → HasRoomForAll old → KeepsCapacity old new → HasRoomForAll new
room_kept old new h kept = record { slots = omega (arith, h.slots, kept.slots); gates = omega (arith, h.gates, kept.gates) }

-- what rule 18 says
pub record HasRoom (c : Configuration) (n : ℕ) (node : Node) : Type 0 where
  pub next : n ≡ length c.slots
  pub few : n < MAX_NODES
  pub ports : length c.gates + length (row node.kind).requires_ ≤ MAX_PORTS

pub room_of : (c : Configuration) (n : ℕ) (node : Node) (from : Option ℕ) → CanMake c n node from → HasRoom c n node
room_of c n node from may =
    let both = and_parts (n == length c.slots && nat_lt n MAX_NODES) (nat_le (length c.gates + length (row node.kind).requires_) MAX_PORTS) may.room in
    let first = and_parts (n == length c.slots) (nat_lt n MAX_NODES) both.0 in
    record { next = eqb-true n (length c.slots) first.0; few = ltb-true n MAX_NODES first.1; ports = leb-true (length c.gates + length (row node.kind).requires_) MAX_PORTS both.1 }

-- the same of tables of the record
pub tables_room : (k : Configuration) (r : List Entry) (n : ℕ) (node : Node) (from : Option ℕ) → k ≡ bare (config_of r) → CanMake (config_of r) n node from
    → (length k.slots < MAX_NODES) × (length k.gates + length (row node.kind).requires_ ≤ MAX_PORTS)
tables_room k r n node from was may =
    let room = room_of (config_of r) n node from may in
    let nodes : length k.slots ≡ length (config_of r).slots = ap (λ (d : Configuration). length d.slots) was ∙ length-map (config_of r).slots bare_slot in
    let ports : length k.gates ≡ length (config_of r).gates = ap (λ (d : Configuration). length d.gates) was in
    (omega (arith, nodes, room.next, room.few), omega (arith, ports, room.ports))
