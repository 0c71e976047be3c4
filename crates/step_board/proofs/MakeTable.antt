-- A node is made in a table.
use Rattle.std.proofs.Common.{◌≡◌, ◌∙◌, ◌⊎◌, ℕ, ◌+◌, ◌<◌, ◌≤◌, true, false, not, ◌&&◌, List, [], ◌∷◌, ◌++◌, length, map, set, Option, Some, None, refl, ap, sym, subst, ⊎_elim, inl, inr, arith, length-append}
use Rattle.std.specs.Prelude.{slice_get, is_some, option_map, nat_le, nat_lt, ◌==◌}
use Rattle.std.specs.Option.{option_map_or}
use Rattle.std.proofs.lemmas.Bool.{and_parts, both_ways, eq-eqb, leb-true, ltb-true, not-true}
use Rattle.std.proofs.lemmas.List.{length-map, length-set, map_push}
use Rattle.std.proofs.lemmas.Option.{same_Some, slice_get_within}
use Rattle.std.proofs.lemmas.Map.Keys.{any_passes_from_place}
use Rattle.base.proofs.OptionLaws.{map_or_at, map_or_true}
use Rattle.base.proofs.PlaceLaws.{slice_get-map_at, slice_get-set_cases, slice_get-snoc, slice_get-there}
use Rattle.base.proofs.MapLaws.{map_set}
use Rattle.config_graph.specs.Kinds.{row}
use Rattle.config_graph.specs.declared.TheConstants.{MAX_NODES, MAX_PORTS}
use Rattle.config_graph.specs.declared.kind.Kind.{Kind}
use Rattle.config_graph.specs.declared.kind.Kind.TheVariants as kind
use Rattle.config_graph.specs.declared.node.Node.{Node}
use Rattle.component_trait.specs.Making.{handed_over, new_node, argument_or_0}
use Rattle.component_trait.specs.States.{NodeState, at_rest}
use Rattle.quiesce_core.specs.Legal.{CanMake}
use Rattle.quiesce_core.specs.Rules.{denial, has_its_argument, is_kind, is_path_taken, was_moved}
use Rattle.quiesce_core.specs.Runs.{Step, state_after}
use Rattle.quiesce_core.specs.State.{Configuration, State, slot}
use Rattle.quiesce_core.specs.declared.event.Event.TheVariants.{Make}
use Rattle.quiesce_core.specs.declared.state.Slot.{Slot}
use Rattle.quiesce_core.proofs.ArgumentLaws.{argument_fits, kinds_are_one}
use Rattle.quiesce_core.proofs.LegalLaws.{legal}
use Rattle.node_gate.specs.Seats.{IsWithinLimits}
use Rattle.state_handover.specs.Making.{FitsKind}
use Rattle.state_handover.specs.declared.any_node.AnyNode.{AnyNode}
use Rattle.node_turn_laws.specs.World.{World, with_event}
use Rattle.step_board.specs.Entries.{SlotEntry, Predecessor, NodeSeen, gone, here, line_of}
use Rattle.step_board.specs.Holding.{IsHere}
use Rattle.step_board.specs.Seen.{is_node, seen}
use Rattle.step_board.specs.Worlds.{ShowsIn}
use Rattle.step_board.specs.declared.handed.Handed.{Handed}
use Rattle.step_board.specs.declared.held.Held.{Held}
use Rattle.step_board.specs.declared.held.Held.TheVariants as held
use Rattle.step_board.proofs.MakeLemmas.{IsFresh, holds_made_first, holds_made_from, inside_here}
use Rattle.step_board.proofs.Showing.{shows_made, shows_same}

-- ---- what the rules of a make give

pub allowed_here : (s : State) (m : State) (node : Node) (from : Option ℕ) → m ≡ s → denial m (Make (length m.config.slots) node from) ≡ None → denial s (Make (length s.config.slots) node from) ≡ None
allowed_here s m node from is may = subst (λ (u : State). denial u (Make (length u.config.slots) node from) ≡ None) is may

can_make : (s : State) (n : ℕ) (node : Node) (from : Option ℕ) → denial s (Make n node from) ≡ None → CanMake s.config n node from
can_make s n node from may = legal s (Make n node from) may

pub make_limits : (s : State) (node : Node) (from : Option ℕ) (k : Kind) → node.kind ≡ k → denial s (Make (length s.config.slots) node from) ≡ None → IsWithinLimits (record { slot = length s.config.slots; kind = k; first = length s.config.gates })
make_limits s node from k is may =
    let l = can_make s (length s.config.slots) node from may in
    let room = and_parts (length s.config.slots == length s.config.slots && nat_lt (length s.config.slots) MAX_NODES) (nat_le (length s.config.gates + length (row node.kind).requires_) MAX_PORTS) l.room in
    let next = and_parts (length s.config.slots == length s.config.slots) (nat_lt (length s.config.slots) MAX_NODES) room.0 in
    subst (λ j. IsWithinLimits (record { slot = length s.config.slots; kind = j; first = length s.config.gates })) is
    (record { slot_within = ltb-true (length s.config.slots) MAX_NODES next.1; ports_within = leb-true (length s.config.gates + length (row node.kind).requires_) MAX_PORTS room.1 })

pub make_fits : (s : State) (n : ℕ) (node : Node) (from : Option ℕ) (k : Kind) → node.kind ≡ k → denial s (Make n node from) ≡ None → FitsKind k node.arg
make_fits s n node from k is may =
    let l = can_make s n node from may in
    let own = (and_parts (not (is_path_taken s.config node.path)) (has_its_argument node) l.new_path).1 in
    let f = argument_fits (is_some (row node.kind).arg) node.arg own in
    subst (λ j. FitsKind j node.arg) is (record { there = f.0; small = f.1 })

-- the source of a make was removed, and is of its kind
pub record IsSource (c : Configuration) (k : ℕ) (node : Node) : Type 0 where
  pub old : Slot
  pub there : slot c k ≡ Some old
  pub removed : old.live ≡ false
  pub kind_is : old.node.kind ≡ node.kind

pub source_of : (s : State) (n : ℕ) (node : Node) (k : ℕ) → denial s (Make n node (Some k)) ≡ None → IsSource s.config k node
source_of s n node k may =
    let l = can_make s n node (Some k) may in
    let here_ = (and_parts (option_map_or (λ (m : Slot). not m.live && is_kind m.node.kind node.kind) (slot s.config k) false) (not (was_moved s.config k)) l.moves).0 in
    let found = map_or_true (λ (m : Slot). not m.live && is_kind m.node.kind node.kind) (slot s.config k) here_ in
    let both = and_parts (not found.0.live) (is_kind found.0.node.kind node.kind) found.2 in
    record { old = found.0; there = found.1; removed = not-true found.0.live both.0; kind_is = kinds_are_one found.0.node.kind node.kind both.1 }

-- ---- what is shown then

there_or_last : (nodes : List SlotEntry) (x : NodeSeen) (n : ℕ) → length nodes ≡ n → (j : ℕ) (y : NodeSeen) → slice_get (nodes ++ here x ∷ []) j ≡ Some (here y) → (slice_get nodes j ≡ Some (here y)) ⊎ ((j ≡ n) × (x ≡ y))
there_or_last nodes x n count j y at = ⊎_elim
    (λ (old : (j < length nodes) × (slice_get nodes j ≡ Some (here y))). inl old.1)
    (λ (new : (j ≡ length nodes) × (here x ≡ here y)). inr (new.0 ∙ count, inside_here x y new.1))
    (slice_get-snoc nodes (here x) (here y) j at)

module _ (S : AnyNode → NodeState) (s t : State) (xs xs' : List Held) (ends ends' : List ℕ) (tells tells' : ℕ → Option (List ℕ)) (w : World) (node : Node) (h : ShowsIn s (map (seen S) xs) ends tells w) (new : Held) (x : NodeSeen)
    (new_is : seen S new ≡ here x) (f : IsFresh s (length s.config.slots) node x) (waiting : x.waiting ≡ None ∷ None ∷ []) (t' : State) (t_is : t' ≡ t) (tells_is : tells' ≡ tells) (slot_ line : ℕ) (slot_is : slot_ ≡ length s.config.slots) where
  abbrev n : ℕ
  n = length (state_after w.events).config.slots

  abbrev nodes : List SlotEntry
  nodes = map (seen S) xs

  fresh : IsFresh (state_after w.events) n node x
  fresh = subst (λ (u : State). IsFresh u (length u.config.slots) node x) h.holds.state f

  slot_n : slot_ ≡ n
  slot_n = slot_is ∙ ap (λ (u : State). length u.config.slots) h.holds.state

  event_at : n ≡ length w.machine.config.slots
  event_at = ap (λ (u : State). length u.config.slots) (sym (h.machine ∙ h.holds.state))

  pub shown_first : Step s (Make (length s.config.slots) node None) t → x.past ≡ [] → x.state ≡ new_node node.kind node.arg → line ≡ length s.config.slots → xs' ≡ xs ++ new ∷ [] → ends' ≡ set (ends ++ slot_ ∷ []) line slot_
      → ShowsIn t' (map (seen S) xs') ends' tells' (with_event w (Make (length w.machine.config.slots) node None))
  shown_first step none_before state_is line_is nodes_are ends_are =
      let step' : Step s (Make n node None) t = subst (λ (u : State). Step s (Make (length u.config.slots) node None) t) h.holds.state step in
      let held_ = holds_made_first s t nodes ends w.events node h.holds step' x fresh none_before in
      let all =
      shows_made s t nodes (nodes ++ here x ∷ []) ends (set (ends ++ n ∷ []) n n) tells w n node None h step' held_ x h.holds.made (length-append nodes (here x ∷ [])) (there_or_last nodes x n h.holds.made)
      (ap Some (sym state_is)) (ap (λ (a : NodeState). a.kind) state_is) waiting in
      shows_same t t' (nodes ++ here x ∷ []) (map (seen S) xs') (set (ends ++ n ∷ []) n n) ends' tells tells' (with_event w (Make (length w.machine.config.slots) node None))
      (subst (λ i. ShowsIn t (nodes ++ here x ∷ []) (set (ends ++ n ∷ []) n n) tells (with_event w (Make i node None))) event_at all) t_is
      (ap (map (seen S)) nodes_are ∙ map_push (seen S) xs new ∙ ap (λ e. nodes ++ e ∷ []) new_is)
      (ends_are ∙ ap (λ k. set (ends ++ k ∷ []) line k) slot_n ∙ ap (λ l. set (ends ++ n ∷ []) l n) (line_is ∙ ap (λ (u : State). length u.config.slots) h.holds.state)) tells_is

  pub shown_from : (k : ℕ) (old : Held) (y : NodeSeen) (g : Handed) → Step s (Make (length s.config.slots) node (Some k)) t → slice_get xs k ≡ Some old → seen S old ≡ here y
      → x.past ≡ y.past ++ record { slot = k; first = y.first; arg = y.state.arg; log = y.log } ∷ [] → x.state ≡ handed_over y.state.kind node.arg y.state.kept → y.state.kind ≡ node.kind
      → g.line ≡ line_of y → g.place ≡ length y.past → line ≡ line_of y → xs' ≡ set xs k (held.Handed g) ++ new ∷ [] → ends' ≡ set (ends ++ slot_ ∷ []) line slot_
      → ShowsIn t' (map (seen S) xs') ends' tells' (with_event w (Make (length w.machine.config.slots) node (Some k)))
  shown_from k old y g step at old_is past_is state_is kind_is g_line g_place line_is nodes_are ends_are =
      let step' : Step s (Make n node (Some k)) t = subst (λ (u : State). Step s (Make (length u.config.slots) node (Some k)) t) h.holds.state step in
      let at_entry : slice_get nodes k ≡ Some (here y) = slice_get-map_at (seen S) xs k old at ∙ ap Some old_is in
      let mid : List SlotEntry = set nodes k (gone g) in
      let within : k < length nodes = slice_get_within nodes k (here y) at_entry in
      let held_ = holds_made_from s t nodes ends w.events node k h.holds step' y x at_entry fresh past_is g g_line g_place in
      let count : length mid ≡ n = length-set nodes k (gone g) ∙ h.holds.made in
      let all =
      shows_made s t nodes (mid ++ here x ∷ []) ends (set (ends ++ n ∷ []) (line_of y) n) tells w n node (Some k) h step' held_ x h.holds.made (length-append mid (here x ∷ []) ∙ ap (λ i. i + 1) (length-set nodes k (gone g)))
      (λ j z is. ⊎_elim (λ (there : slice_get mid j ≡ Some (here z)). inl (was_there k g within j z there)) (λ (last : (j ≡ n) × (x ≡ z)). inr last) (there_or_last mid x n count j z is))
      (ap (option_map (λ (a : NodeState). at_rest node.kind (argument_or_0 node.arg) a.kept)) (h.nodes_shown k y at_entry).state
      ∙ ap Some (ap (λ j. at_rest j (argument_or_0 node.arg) y.state.kept) (sym kind_is) ∙ sym state_is))
      (ap (λ (a : NodeState). a.kind) state_is ∙ kind_is) waiting in
      shows_same t t' (mid ++ here x ∷ []) (map (seen S) xs') (set (ends ++ n ∷ []) (line_of y) n) ends' tells tells' (with_event w (Make (length w.machine.config.slots) node (Some k)))
      (subst (λ i. ShowsIn t (mid ++ here x ∷ []) (set (ends ++ n ∷ []) (line_of y) n) tells (with_event w (Make i node (Some k)))) event_at all) t_is
      (ap (map (seen S)) nodes_are ∙ map_push (seen S) (set xs k (held.Handed g)) new ∙ ap (λ e. map (seen S) (set xs k (held.Handed g)) ++ e ∷ []) new_is ∙ ap (λ l. l ++ here x ∷ []) (map_set (seen S) xs k (held.Handed g)))
      (ends_are ∙ ap (λ i. set (ends ++ i ∷ []) line i) slot_n ∙ ap (λ l. set (ends ++ n ∷ []) l n) line_is) tells_is
    where
      was_there : (k : ℕ) (g : Handed) → k < length nodes → (j : ℕ) (z : NodeSeen) → slice_get (set nodes k (gone g)) j ≡ Some (here z) → slice_get nodes j ≡ Some (here z)
      was_there k g within j z is = ⊎_elim
          (λ (same : (j ≡ k) × (gone g ≡ here z)). absurd (apart same.1))
          (λ (there : slice_get nodes j ≡ Some (here z)). there)
          (slice_get-set_cases nodes k (gone g) j (here z) is)
        where
          apart : gone g ≡ here z → ⊥
          apart h = cc

-- ---- the node whose state is taken over

pub first_mapped : {A : Type 0} (f : A → Predecessor) (g : A → ℕ) (xs : List A) (d : ℕ) → ((a : A) → (f a).slot ≡ g a) → option_map_or (λ (m : Predecessor). m.slot) (slice_get (map f xs) 0) d ≡ option_map_or g (slice_get xs 0) d
first_mapped f g [] d same = refl
first_mapped f g (a ∷ xs) d same = same a

module _ (S : AnyNode → NodeState) (s : State) (xs : List Held) (ends : List ℕ) (tells : ℕ → Option (List ℕ)) (w : World) (h : ShowsIn s (map (seen S) xs) ends tells w) (n : ℕ) (node : Node) (k : ℕ) (may : denial s (Make n node (Some k)) ≡ None) where
  source : IsSource s.config k node
  source = source_of s n node k may

  pub source_is_node : is_node (slice_get xs k) ≡ true
  source_is_node =
      let made : k < length xs = subst (λ i. k < i) (sym (h.holds.made ∙ ap (λ (u : State). length u.config.slots) (sym h.holds.state)) ∙ length-map xs (seen S)) (slice_get_within s.config.slots k source.old source.there) in
      let at = slice_get-there xs k made in ap is_node at.1 ∙ by at.0 at.1
    where
      by : (x : Held) → slice_get xs k ≡ Some x → is_node (Some x) ≡ true
      by (held.Node x) at = refl
      by (held.Handed y) at =
          let g = h.holds.nodes_gone k y (slice_get-map_at (seen S) xs k (held.Handed y) at) in
          let moves = (and_parts (option_map_or (λ (m : Slot). not m.live && is_kind m.node.kind node.kind) (slot s.config k) false) (not (was_moved s.config k)) (can_make s n node (Some k) may).moves).1 in
          absurd (both_ways (was_moved s.config k) (not-true (was_moved s.config k) moves)
          (any_passes_from_place (λ (m : Slot). option_map_or (λ i. i == k) m.from false) s.config.slots g.heir g.taker (ap (λ (u : State). slot u.config g.heir) h.holds.state ∙ g.there) (map_or_at (λ i. i == k) g.taker.from false k g.from ∙ eq-eqb k k refl)))

  module _ (old : Held) (y : NodeSeen) (at : slice_get xs k ≡ Some old) (is : seen S old ≡ here y) where
    old_here : IsHere w.events k y
    old_here = h.holds.nodes_here k y (slice_get-map_at (seen S) xs k old at ∙ ap Some is)

    made_is : old_here.made ≡ source.old
    made_is = same_Some old_here.made source.old (sym old_here.there ∙ ap (λ (u : State). slot u.config k) (sym h.holds.state) ∙ source.there)

    pub source_rests : y.state.service ≡ None
    source_rests = old_here.rests (ap (λ (m : Slot). m.live) made_is ∙ source.removed)

    pub source_kind : y.state.kind ≡ node.kind
    source_kind = old_here.kind ∙ ap (λ (m : Slot). m.node.kind) made_is ∙ source.kind_is

    pub source_place : y.slot ≡ k
    source_place = old_here.place

    pub source_line : line_of y ≤ length ends
    source_line = let below = slice_get_within ends (line_of y) k (h.holds.line_ends k y (slice_get-map_at (seen S) xs k old at ∙ ap Some is)) in omega (arith, below)
