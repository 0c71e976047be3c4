-- How many nodes and ports were made, as a record grows.
use Rattle.std.proofs.Common.{◌≡◌, ◌∙◌, ℕ, ◌+◌, ◌<◌, ◌≤◌, true, false, List, [], ◌∷◌, ◌++◌, length, set, Option, Some, None, refl, sym, ap, subst, arith}
use Rattle.std.specs.Option.{option_map_or}
use Rattle.std.proofs.lemmas.List.{length-append, length-set}
use Rattle.base.proofs.OptionLaws.{map_or_at}
use Rattle.base.proofs.PlaceLaws.{slice_get-last}
use Rattle.config_graph.specs.Kinds.{row}
use Rattle.config_graph.specs.declared.TheConstants.{MAX_PORTS}
use Rattle.config_graph.specs.declared.node.Node.{Node}
use Rattle.txn_records.specs.Entries.{config_of}
use Rattle.txn_records.specs.declared.entry.Entry.{Entry}
use Rattle.txn_records.specs.declared.entry.Entry.TheVariants.{Did, Looked}
use Rattle.quiesce_core.specs.Effect.{with_node}
use Rattle.quiesce_core.specs.Knowledge.{nothing_known}
use Rattle.quiesce_core.specs.Words.{slot_fields_of}
use Rattle.quiesce_core.specs.declared.state.Slot.{Slot}
use Rattle.quiesce_core.proofs.TableLaws.{new_gates_length}
use Rattle.quiesce_core.specs.State.{Configuration, slot}
use Rattle.quiesce_core.specs.declared.event.Event.{Event}
use Rattle.quiesce_core.specs.declared.event.Event.TheVariants.{Close, Reopen, Make, Link, Unlink, Remove}
use Rattle.txn_spec.specs.Steps.{IsChange, Seat, noted}
use Rattle.txn_spec.specs.Views.{change_of, new_seat, newest, notes, of_node, unknown, without_seat}
use Rattle.txn_spec.specs.declared.view.ChangeView.{ChangeView}
use Rattle.txn_gate.specs.TablesOf.{IsTableOf}
use Rattle.txn_gate.specs.Tabled.{Tabled}
use Rattle.txn_records.proofs.EntryLaws.{config_did, config_looked}
use Rattle.txn_gate.specs.Calls.{made_node}

-- an event that makes no node, or a look: as many nodes and ports
pub closed_nodes : (r : List Entry) (p : ℕ) → length (config_of (r ++ Did (Close p) ∷ [])).slots ≡ length (config_of r).slots
closed_nodes r p = ap (λ (c : Configuration). length c.slots) (config_did r (Close p))

pub closed_ports : (r : List Entry) (p : ℕ) → length (config_of (r ++ Did (Close p) ∷ [])).gates ≡ length (config_of r).gates
closed_ports r p = ap (λ (c : Configuration). length c.gates) (config_did r (Close p)) ∙ length-set (config_of r).gates p _

pub reopened_nodes : (r : List Entry) (p : ℕ) → length (config_of (r ++ Did (Reopen p) ∷ [])).slots ≡ length (config_of r).slots
reopened_nodes r p = ap (λ (c : Configuration). length c.slots) (config_did r (Reopen p))

pub reopened_ports : (r : List Entry) (p : ℕ) → length (config_of (r ++ Did (Reopen p) ∷ [])).gates ≡ length (config_of r).gates
reopened_ports r p = ap (λ (c : Configuration). length c.gates) (config_did r (Reopen p)) ∙ length-set (config_of r).gates p _

pub linked_nodes : (r : List Entry) (p n x : ℕ) → length (config_of (r ++ Did (Link p n x) ∷ [])).slots ≡ length (config_of r).slots
linked_nodes r p n x = ap (λ (c : Configuration). length c.slots) (config_did r (Link p n x))

pub linked_ports : (r : List Entry) (p n x : ℕ) → length (config_of (r ++ Did (Link p n x) ∷ [])).gates ≡ length (config_of r).gates
linked_ports r p n x = ap (λ (c : Configuration). length c.gates) (config_did r (Link p n x)) ∙ length-set (config_of r).gates p _

pub unlinked_nodes : (r : List Entry) (p : ℕ) → length (config_of (r ++ Did (Unlink p) ∷ [])).slots ≡ length (config_of r).slots
unlinked_nodes r p = ap (λ (c : Configuration). length c.slots) (config_did r (Unlink p))

pub unlinked_ports : (r : List Entry) (p : ℕ) → length (config_of (r ++ Did (Unlink p) ∷ [])).gates ≡ length (config_of r).gates
unlinked_ports r p = ap (λ (c : Configuration). length c.gates) (config_did r (Unlink p)) ∙ length-set (config_of r).gates p _

pub removed_nodes : (r : List Entry) (n : ℕ) → length (config_of (r ++ Did (Remove n) ∷ [])).slots ≡ length (config_of r).slots
removed_nodes r n = ap (λ (c : Configuration). length c.slots) (config_did r (Remove n)) ∙ as_many (slot (config_of r) n)
  where
    as_many : (o : Option Slot) → length (option_map_or (λ (m : Slot). set (config_of r).slots n (record m { live = false })) o (config_of r).slots) ≡ length (config_of r).slots
    as_many None = refl
    as_many (Some m) = length-set (config_of r).slots n _

pub removed_ports : (r : List Entry) (n : ℕ) → length (config_of (r ++ Did (Remove n) ∷ [])).gates ≡ length (config_of r).gates
removed_ports r n = ap (λ (c : Configuration). length c.gates) (config_did r (Remove n))

pub looked_nodes : (r : List Entry) (p w : ℕ) → length (config_of (r ++ Looked p w ∷ [])).slots ≡ length (config_of r).slots
looked_nodes r p w = ap (λ (c : Configuration). length c.slots) (config_looked r p w)

pub looked_ports : (r : List Entry) (p w : ℕ) → length (config_of (r ++ Looked p w ∷ [])).gates ≡ length (config_of r).gates
looked_ports r p w = ap (λ (c : Configuration). length c.gates) (config_looked r p w)

-- a node is made
module _ (r : List Entry) (n : ℕ) (node : Node) (from : Option ℕ) where
  made_config : config_of (r ++ Did (Make n node from) ∷ []) ≡ with_node (config_of r) node from
  made_config = config_did r (Make n node from)

  pub made_nodes : length (config_of (r ++ Did (Make n node from) ∷ [])).slots ≡ length (config_of r).slots + 1
  made_nodes = ap (λ (c : Configuration). length c.slots) made_config ∙ length-append (config_of r).slots _

  pub made_ports : length (config_of (r ++ Did (Make n node from) ∷ [])).gates ≡ length (config_of r).gates + length (row node.kind).requires_
  made_ports = ap (λ (c : Configuration). length c.gates) made_config ∙ new_gates_length (config_of r).gates (length (config_of r).slots) (length (row node.kind).requires_)

  -- it is in the next slot
  pub made_there : slot (config_of (r ++ Did (Make n node from) ∷ [])) (length (config_of r).slots)
      ≡ Some (record { node = node; first_port = length (config_of r).gates; from = from; live = true })
  made_there = ap (λ (c : Configuration). slot c (length (config_of r).slots)) made_config ∙ slice_get-last (config_of r).slots _

-- the seat that is given out then is that node's
pub newest_made : (c : ChangeView) (k first : ℕ) (node : Node) (from : Option ℕ) → c.seats ≡ k → length (config_of c.entries).slots ≡ k → length (config_of c.entries).gates ≡ first
    → newest (notes c (Did (Make k node from))) ≡ made_node k first node from
newest_made c k first node from seats nodes ports =
    let there = ap (slot (config_of (c.entries ++ Did (Make k node from) ∷ []))) (seats ∙ sym nodes) ∙ made_there c.entries k node from in
    λ i. record {
      slot = seats i;
      made = (map_or_at slot_fields_of (slot (config_of (c.entries ++ Did (Make k node from) ∷ [])) c.seats) unknown.made _ there
          ∙ ap (λ f. record { kind = node.kind; first_port = f; arg = node.arg; from = from }) ports) i;
      known = nothing_known;
      log = [];
      loads = [];
      loaded = None;
    }

-- ---- the change's seat with one entry more

module _ (me new : Seat) (x : Entry) (is : new ≡ noted me x) where
  pub still_change : IsChange new
  still_change = subst IsChange (sym is) refl

  pub still_tables : (t : Tabled) → IsTableOf t ((change_of me.0).entries ++ x ∷ []) → IsTableOf t (change_of new.0).entries
  still_tables t h = subst (λ (m : Seat). IsTableOf t (change_of m.0).entries) (sym is) h

  pub still_seats : length (config_of ((change_of me.0).entries ++ x ∷ [])).slots ≡ length (config_of (change_of me.0).entries).slots
      → (change_of me.0).seats ≡ length (config_of (change_of me.0).entries).slots → (change_of new.0).seats ≡ length (config_of (change_of new.0).entries).slots
  still_seats same was = ap (λ (m : Seat). (change_of m.0).seats) is ∙ was ∙ sym same ∙ sym (ap (λ (m : Seat). length (config_of (change_of m.0).entries).slots) is)

  pub still_within : length (config_of ((change_of me.0).entries ++ x ∷ [])).gates ≡ length (config_of (change_of me.0).entries).gates
      → length (config_of (change_of me.0).entries).gates ≤ MAX_PORTS → length (config_of (change_of new.0).entries).gates ≤ MAX_PORTS
  still_within same was = subst (λ k. k ≤ MAX_PORTS) (sym same ∙ sym (ap (λ (m : Seat). length (config_of (change_of m.0).entries).gates) is)) was

-- the change's seat once it made a node, and once it gave that node's seat out
module _ (me m1 : Seat) (k first : ℕ) (node : Node) (from : Option ℕ) (e : Event) (event : e ≡ Make k node from) (is : m1 ≡ noted me (Did e))
    (seats : (change_of me.0).seats ≡ k) (nodes : length (config_of (change_of me.0).entries).slots ≡ k) (ports : length (config_of (change_of me.0).entries).gates ≡ first) where
  made_is : m1 ≡ noted me (Did (Make k node from))
  made_is = is ∙ ap (λ f. noted me (Did f)) event

  nodes_then : length (config_of (change_of m1.0).entries).slots ≡ k + 1
  nodes_then = ap (λ (m : Seat). length (config_of (change_of m.0).entries).slots) made_is ∙ made_nodes (change_of me.0).entries k node from ∙ ap (λ j. j + 1) nodes

  pub may_give : (change_of m1.0).seats < length (config_of (change_of m1.0).entries).slots
  may_give =
      let s : (change_of m1.0).seats ≡ k = ap (λ (m : Seat). (change_of m.0).seats) made_is ∙ seats in
      let n = nodes_then in
      omega (arith, s, n)

  pub given_node : (m : Seat) → m ≡ (new_seat m1.0, []) → m ≡ (of_node (made_node k first node from), [])
  given_node m at = at ∙ ap (λ (x : Seat). (new_seat x.0, [])) made_is ∙ ap (λ n. (of_node n, [])) (newest_made (change_of me.0) k first node from seats nodes ports)

  module _ (m2 : Seat) (then_ : m2 ≡ (without_seat m1.0, [])) where
    pub given_change : IsChange m2
    given_change = subst IsChange (sym then_) refl

    given_nodes : length (config_of (change_of m2.0).entries).slots ≡ k + 1
    given_nodes = ap (λ (m : Seat). length (config_of (change_of m.0).entries).slots) then_ ∙ nodes_then

    pub given_tables : (t : Tabled) → IsTableOf t ((change_of me.0).entries ++ Did (Make k node from) ∷ []) → IsTableOf t (change_of m2.0).entries
    given_tables t h = subst (λ (m : Seat). IsTableOf t (change_of m.0).entries) (sym (then_ ∙ ap (λ (m : Seat). (without_seat m.0, [])) made_is)) h

    given_ports : length (config_of (change_of m2.0).entries).gates ≡ first + length (row node.kind).requires_
    given_ports =
        ap (λ (m : Seat). length (config_of (change_of m.0).entries).gates) then_
        ∙ ap (λ (m : Seat). length (config_of (change_of m.0).entries).gates) made_is
        ∙ made_ports (change_of me.0).entries k node from ∙ ap (λ j. j + length (row node.kind).requires_) ports

    pub given_within : first + length (row node.kind).requires_ ≤ MAX_PORTS → length (config_of (change_of m2.0).entries).gates ≤ MAX_PORTS
    given_within room = subst (λ j. j ≤ MAX_PORTS) (sym given_ports) room

    pub given_seats : (change_of m2.0).seats ≡ length (config_of (change_of m2.0).entries).slots
    given_seats =
        ap (λ (m : Seat). (change_of m.0).seats) then_ ∙ ap (λ (m : Seat). (change_of m.0).seats + 1) made_is ∙ ap (λ j. j + 1) seats ∙ sym given_nodes
