-- What the rules of a make give to the node that is made.
use Rattle.std.proofs.Common.{◌≡◌, ◌∙◌, ℕ, ◌+◌, ◌<◌, ◌≤◌, false, not, ◌&&◌, List, [], ◌∷◌, ◌++◌, length, map, Option, Some, None, ap, sym, subst}
use Rattle.std.specs.Prelude.{is_some, nat_le, nat_lt, ◌==◌}
use Rattle.std.specs.List.{AllByRecursion}
use Rattle.std.specs.Option.{option_map_or}
use Rattle.std.proofs.lemmas.Bool.{and_parts, leb-true, ltb-true, not-true}
use Rattle.std.proofs.lemmas.Option.{same_Some}
use Rattle.base.proofs.OptionLaws.{map_or_at, map_or_true, option_map_some}
use Rattle.base.proofs.PlaceLaws.{slice_get-front}
use Rattle.base.proofs.ListLaws.{last_of_all}
use Rattle.component_trait.specs.States.{NodeState}
use Rattle.config_graph.specs.Kinds.{row}
use Rattle.config_graph.specs.declared.TheConstants.{MAX_NODES, MAX_PORTS}
use Rattle.config_graph.specs.declared.kind.Kind.{Kind}
use Rattle.config_graph.specs.declared.node.Node.{Node}
use Rattle.live_hall.specs.Sighting.{IsMadeIn, sight_of}
use Rattle.live_hall.proofs.PastLaws.{config_sights}
use Rattle.live_board.specs.Behind.{HasBehind, IsShallow}
use Rattle.live_board.proofs.BehindLaws.{AreBelow, shallow_made}
use Rattle.live_board.proofs.BoardLaws.{below_now}
use Rattle.node_gate.specs.Seats.{IsWithinLimits, NodeAt}
use Rattle.quiesce_core.proofs.ArgumentLaws.{argument_fits, kinds_are_one}
use Rattle.quiesce_core.proofs.SourceLaws.{new_slot}
use Rattle.quiesce_core.specs.Effect.{with_node}
use Rattle.quiesce_core.specs.Words.{slot_fields_of}
use Rattle.quiesce_word.specs.declared.slot_word.SlotWord.{SlotWord}
use Rattle.txn_spec.specs.declared.view.NodeView.{NodeView}
use Rattle.txn_spec.specs.Views.{node_at}
use Rattle.txn_records.proofs.EntryLaws.{config_did}
use Rattle.txn_records.specs.Entries.{config_of}
use Rattle.txn_records.specs.Records.{IsRecord}
use Rattle.txn_records.specs.declared.entry.Entry.TheVariants.{Did}
use Rattle.txn_records.specs.declared.entry.Entry.{Entry}
use Rattle.quiesce_core.specs.Legal.{CanMake}
use Rattle.quiesce_core.specs.Rules.{has_its_argument, is_kind, is_path_taken, was_moved}
use Rattle.quiesce_core.specs.State.{Configuration, slot}
use Rattle.quiesce_core.specs.declared.event.Event.TheVariants.{Make}
use Rattle.quiesce_core.specs.declared.state.Slot.{Slot}
use Rattle.state_handover.specs.Making.{FitsKind}

module _ (c : Configuration) (node : Node) (from : Option ℕ) (may : CanMake c (length c.slots) node from) where
  room_for : (length c.slots < MAX_NODES) × (length c.gates + length (row node.kind).requires_ ≤ MAX_PORTS)
  room_for =
      let room = and_parts (length c.slots == length c.slots && nat_lt (length c.slots) MAX_NODES) (nat_le (length c.gates + length (row node.kind).requires_) MAX_PORTS) may.room in
      let next = and_parts (length c.slots == length c.slots) (nat_lt (length c.slots) MAX_NODES) room.0 in
      (ltb-true (length c.slots) MAX_NODES next.1, leb-true (length c.gates + length (row node.kind).requires_) MAX_PORTS room.1)

  pub slot_below : length c.slots < MAX_NODES
  slot_below = room_for.0

  pub make_limits : (k : Kind) (slot first : ℕ) → node.kind ≡ k → slot ≡ length c.slots → first ≡ length c.gates → IsWithinLimits (record { slot = slot; kind = k; first = first })
  make_limits k slot first is slot_is first_is =
      subst (λ i. IsWithinLimits (record { slot = i; kind = k; first = first })) (sym slot_is)
      (subst (λ i. IsWithinLimits (record { slot = length c.slots; kind = k; first = i })) (sym first_is)
      (subst (λ j. IsWithinLimits (record { slot = length c.slots; kind = j; first = length c.gates })) is (record { slot_within = room_for.0; ports_within = room_for.1 })))

  pub make_fits : (k : Kind) → node.kind ≡ k → FitsKind k node.arg
  make_fits k is =
      let own = (and_parts (not (is_path_taken c node.path)) (has_its_argument node) may.new_path).1 in
      let f = argument_fits (is_some (row node.kind).arg) node.arg own in
      subst (λ j. FitsKind j node.arg) is (record { there = f.0; small = f.1 })

-- ---- the source of a make was removed, and is of its kind

pub record IsSource (c : Configuration) (k : ℕ) (node : Node) : Type 0 where
  pub old : Slot
  pub there : slot c k ≡ Some old
  pub removed : old.live ≡ false
  pub kind_is : old.node.kind ≡ node.kind

pub source_from : (c : Configuration) (n : ℕ) (node : Node) (k : ℕ) → CanMake c n node (Some k) → IsSource c k node
source_from c n node k may =
    let here_ = (and_parts (option_map_or (λ (m : Slot). not m.live && is_kind m.node.kind node.kind) (slot c k) false) (not (was_moved c k)) may.moves).0 in
    let found = map_or_true (λ (m : Slot). not m.live && is_kind m.node.kind node.kind) (slot c k) here_ in
    let both = and_parts (not found.0.live) (is_kind found.0.node.kind node.kind) found.2 in
    record { old = found.0; there = found.1; removed = not-true found.0.live both.0; kind_is = kinds_are_one found.0.node.kind node.kind both.1 }

pub source_told : (c : Configuration) (node : Node) (k : ℕ) (v : NodeView) → CanMake c (length c.slots) node (Some k) → v.slot ≡ k → IsMadeIn (with_node c node (Some k)) v → (v.made.kind ≡ node.kind) × (v.known.service ≡ None)
source_told c node k v may slot_is made =
    let s = source_from c (length c.slots) node k may in
    let d = with_node c node (Some k) in
    let there : slot d v.slot ≡ Some s.old = ap (slot d) slot_is ∙ slice_get-front c.slots (new_slot c node (Some k) ∷ []) k s.old s.there in
    let m = option_map_some slot_fields_of (slot d v.slot) v.made made.made in
    let same : m.0 ≡ s.old = same_Some m.0 s.old (sym m.1 ∙ there) in (
      ap (λ (w : SlotWord). w.kind) (sym m.2) ∙ ap (λ (x : Slot). x.node.kind) same ∙ s.kind_is,
      made.unserving (map_or_at (λ (x : Slot). x.live) (slot d v.slot) false s.old there ∙ s.removed),
    )

pub source_guest : (r r1 : List Entry) (node : Node) (k : ℕ) (v : NodeView) (vs : List NodeView) (t : NodeState) (s first : ℕ) → CanMake (config_of r) (length (config_of r).slots) node (Some k)
    → r1 ≡ r ++ Did (Make (length (config_of r).slots) node (Some k)) ∷ [] → node_at v ≡ record { slot = s; kind = t.kind; first = first } → s ≡ k → AllByRecursion (IsMadeIn (config_of r1)) (vs ++ v ∷ [])
    → (t.kind ≡ node.kind) × (v.known.service ≡ None)
source_guest r r1 node k v vs t s first may grew at slot_is all =
    let own = subst (λ d. IsMadeIn d v) (ap config_of grew ∙ config_did r (Make (length (config_of r).slots) node (Some k))) (last_of_all (IsMadeIn (config_of r1)) vs v all) in
    let told = source_told (config_of r) node k v may (ap (λ (x : NodeAt). x.slot) at ∙ slot_is) own in
    (sym (ap (λ (x : NodeAt). x.kind) at) ∙ told.0, told.1)

-- how many are behind the node that is handed over
pub source_behind : (r r1 r2 : List Entry) (node : Node) (k sources lines count : ℕ) (ns : List NodeView) → r1 ≡ r ++ Did (Make (length (config_of r).slots) node (Some k)) ∷ [] → r2 ≡ r1 ++ map sight_of ns → IsRecord r2
    → sources ≤ length (config_of r).slots → k < sources → IsShallow (config_of r) sources lines → HasBehind (config_of r1) k count → count < lines
source_behind r r1 r2 node k sources lines count ns grew saw known made may shallow behind =
    let d = with_node (config_of r) node (Some k) in
    let is : config_of r1 ≡ d = ap config_of grew ∙ config_did r (Make (length (config_of r).slots) node (Some k)) in
    let low : AreBelow d = subst AreBelow (ap config_of saw ∙ config_sights r1 ns ∙ is) (below_now r2 known) in
    (shallow_made (config_of r) node (Some k) low sources lines made (λ j from. subst (λ i. i < sources) (some_is k j from) may) shallow k count (subst (λ e. HasBehind e k count) is behind)).1 may
  where
    some_is : (i j : ℕ) → Some i ≡ Some j → i ≡ j
    some_is i j e = cc
