-- The third phase of a commit: nodes that the new graph has beside those that are live are made.
use Rattle.std.proofs.Common.{◌≡◌, ℕ, ◌+◌, ◌<◌, ◌≤◌, ◌^◌, Bool, true, false, cond, not, ◌&&◌, List, [], ◌∷◌, ◌++◌, length, length-append, Option, Some, None, refl, sym, ap, ◌∙◌, subst, inl, inr, ⊎_elim, arith, Contains, lt-ltb}
use Rattle.std.specs.Prelude.{◌⊎◌, ◌==◌, nat_lt, nat_le, is_some, is_none, bytes_eq, slice_get, IfSome}
use Rattle.std.specs.List.{list_any}
use Rattle.std.specs.Option.{option_map_or}
use Rattle.std.proofs.lemmas.Bool.{and_from, and_parts, both_ways, eq-eqb, eqb-true, not_from_false, false_from_ne_true, le-leb, not-true}
use Rattle.std.proofs.lemmas.Option.{slice_get_within}
use Rattle.std.proofs.lemmas.Slice.Eq.{bytes_eq-Decides}
use Rattle.std.proofs.lemmas.Map.Keys.{any_passes_from_place}
use Rattle.config_graph.specs.declared.TheConstants.{MAX_NODES, MAX_PORTS}
use Rattle.config_graph.specs.Kinds.{row}
use Rattle.config_graph.specs.Graph.{Graph}
use Rattle.config_graph.specs.Sound.{HasItsArgument}
use Rattle.config_graph.specs.declared.kind.Kind.{Kind}
use Rattle.config_graph.specs.declared.node.Node.{Node}
use Rattle.config_graph.specs.declared.node.Target.{Target}
use Rattle.quiesce_core.specs.declared.state.Slot.{Slot}
use Rattle.quiesce_core.specs.declared.state.Gate.{Gate}
use Rattle.quiesce_core.specs.Effect.{with_node}
use Rattle.quiesce_core.specs.Rules.{can_move, has_its_argument, is_kind, is_path_taken, is_value, value_limit, was_moved}
use Rattle.quiesce_core.specs.State.{Configuration, slot, target}
use Rattle.base.proofs.OptionLaws.{map_or_true}
use Rattle.base.proofs.PlaceLaws.{slice_get-snoc, any_there}
use Rattle.quiesce_core.proofs.SoundnessLaws.{grown_length, last_slot, old_gate, old_slot}
use Rattle.quiesce_laws.specs.Fitting.{KeptLink, PathsApart}
use Rattle.quiesce_core.specs.Live.{IsLiveAt}
use Rattle.quiesce_laws.specs.Lists.{Apart, In}
use Rattle.quiesce_laws.specs.Steps.{MayStep}
use Rattle.quiesce_laws.specs.Work.{AreNumbered, NewNode, make_new, ports_wanted}
use Rattle.quiesce_laws.proofs.BetweenLaws.{Between, Ground, between_make, linked_before}
use Rattle.quiesce_core.proofs.ConfigurationLaws.{linked_made}
use Rattle.quiesce_laws.specs.Commits.{OtherPath, OtherSource}

-- links are those that the new graph keeps; live nodes are nodes of the new graph, and these are left to be made
pub record Making (c : Configuration) (new : Graph) (Touched : ℕ → Type 0) (d : Configuration) (left : List NewNode) : Type 0 where
  pub between : Between c Touched d
  pub links : (p : ℕ) (t : Target) → target d p ≡ Some t → KeptLink c new p t
  pub kept : (p : ℕ) (t : Target) → KeptLink c new p t → target d p ≡ Some t
  pub nodes : (n : ℕ) (node : Node) → IsLiveAt d n node → Contains new.nodes node × ((m : NewNode) → In left m → m.node.path ≡ node.path → ⊥)
  pub stays : (n : ℕ) (node : Node) → IsLiveAt c n node → Contains new.nodes node → IsLiveAt d n node
  pub all : (node : Node) → Contains new.nodes node → ((n : ℕ) × IsLiveAt d n node) ⊎ ((m : NewNode) × In left m × (m.node ≡ node))
  pub to_make : (m : NewNode) → In left m → Contains new.nodes m.node × (has_its_argument m.node ≡ true)
  pub numbered : AreNumbered (length d.slots) left
  pub apart : Apart OtherPath left
  pub sources : (m : NewNode) → In left m → (k : ℕ) → m.from ≡ Some k → can_move d k m.node.kind ≡ true
  pub other_sources : Apart OtherSource left
  pub room_nodes : length d.slots + length left ≤ MAX_NODES
  pub room_ports : length d.gates + ports_wanted left ≤ MAX_PORTS
  pub more_slots : length c.slots ≤ length d.slots
  pub old_live : (n : ℕ) (node : Node) → IsLiveAt d n node → n < length c.slots → IsLiveAt c n node
  pub named : PathsApart d

any_append : {A : Type 0} (f : A → Bool) (xs : List A) (y : A) → list_any f (xs ++ y ∷ []) ≡ true → (list_any f xs ≡ true) ⊎ (f y ≡ true)
any_append f xs y h =
    let w = any_there f (xs ++ y ∷ []) h in
    ⊎_elim
    (λ (v : (w.0 < length xs) × (slice_get xs w.0 ≡ Some w.1)). inl (any_passes_from_place f xs w.0 w.1 v.1 w.3))
    (λ (v : (w.0 ≡ length xs) × (y ≡ w.1)). inr (ap f v.1 ∙ w.3))
    (slice_get-snoc xs y w.1 w.0 w.2)

argument_of : (b : Bool) (o : Option ℕ) → is_some o ≡ b → IfSome o (λ a. a < 2 ^ 24) → cond b (option_map_or is_value o false) (is_none o) ≡ true
argument_of true None e h = absurd (both_ways false refl e)
argument_of true (Some a) e h = lt-ltb a value_limit h
argument_of false None e h = refl
argument_of false (Some a) e h = absurd (both_ways true e refl)

pub argument_test : (node : Node) → HasItsArgument node → has_its_argument node ≡ true
argument_test node h = argument_of (is_some (row node.kind).arg) node.arg h.present h.below

module _ (c : Configuration) (new : Graph) (Touched : ℕ → Type 0) (noted : ℕ → Bool) (ground : Ground c Touched noted) where
  module _ (d : Configuration) (m : NewNode) (left : List NewNode) (h : Making c new Touched d (m ∷ left)) where
    few : length d.slots < MAX_NODES
    few = omega (arith, h.room_nodes)

    room : length d.gates + length (row m.node.kind).requires_ ≤ MAX_PORTS
    room = omega (arith, h.room_ports)

    path_free : is_path_taken d m.node.path ≡ false
    path_free = false_from_ne_true (is_path_taken d m.node.path) (λ taken.
        let w = any_there (λ (s : Slot). s.live && bytes_eq s.node.path m.node.path) d.slots taken in
        let parts = and_parts w.1.live (bytes_eq w.1.node.path m.node.path) w.3 in
        (h.nodes w.0 w.1.node (record { made = w.1; there = w.2; live = parts.0; is_node = refl })).1 m (inl refl) (sym ((bytes_eq-Decides w.1.node.path m.node.path).0 parts.1)))

    moves : (o : Option ℕ) → m.from ≡ o → option_map_or (λ k. can_move d k m.node.kind) o true ≡ true
    moves None e = refl
    moves (Some k) e = h.sources m (inl refl) k e

    pub make_may : MayStep noted d (make_new m)
    make_may = record {
      room = and_from (m.slot == length d.slots && nat_lt m.slot MAX_NODES) (nat_le (length d.gates + length (row m.node.kind).requires_) MAX_PORTS)
          (and_from (m.slot == length d.slots) (nat_lt m.slot MAX_NODES) (eq-eqb m.slot (length d.slots) h.numbered.0) (lt-ltb m.slot MAX_NODES (omega (arith, few, h.numbered.0))))
          (le-leb (length d.gates + length (row m.node.kind).requires_) MAX_PORTS room);
      new_path = and_from (not (is_path_taken d m.node.path)) (has_its_argument m.node) (not_from_false (is_path_taken d m.node.path) path_free) (h.to_make m (inl refl)).1;
      moves = moves m.from refl;
    }

    last : Slot
    last = record { node = m.node; first_port = length d.gates; from = m.from; live = true }

    grown : Configuration
    grown = with_node d m.node m.from

    live_old : (n : ℕ) (node : Node) → IsLiveAt d n node → IsLiveAt (with_node d m.node m.from) n node
    live_old n node l = record { made = l.made; there = old_slot d h.between.sound_now m.node m.from few room n (slice_get_within d.slots n l.made l.there) ∙ l.there; live = l.live; is_node = l.is_node }

    live_cases : (n : ℕ) (node : Node) → IsLiveAt (with_node d m.node m.from) n node → IsLiveAt d n node ⊎ ((n ≡ length d.slots) × (m.node ≡ node))
    live_cases n node l = ⊎_elim
        (λ (v : (n < length d.slots) × (slot d n ≡ Some l.made)). inl (record { made = l.made; there = v.1; live = l.live; is_node = l.is_node }))
        (λ (v : (n ≡ length d.slots) × (record { node = m.node; first_port = length d.gates; from = m.from; live = true } ≡ l.made)). inr (v.0, ap (λ (s : Slot). s.node) v.1 ∙ l.is_node))
        (slice_get-snoc d.slots (record { node = m.node; first_port = length d.gates; from = m.from; live = true }) l.made n l.there)

    moves_still : (k : ℕ) (kind : Kind) → (m.from ≡ Some k → ⊥) → can_move d k kind ≡ true → can_move (with_node d m.node m.from) k kind ≡ true
    moves_still k kind other e =
        let both = and_parts (option_map_or (λ (s : Slot). not s.live && is_kind s.node.kind kind) (slot d k) false) (not (was_moved d k)) e in
        let w = map_or_true (λ (s : Slot). not s.live && is_kind s.node.kind kind) (slot d k) both.0 in
        and_from (option_map_or (λ (s : Slot). not s.live && is_kind s.node.kind kind) (slot (with_node d m.node m.from) k) false) (not (was_moved (with_node d m.node m.from) k))
        (ap (λ o. option_map_or (λ (s : Slot). not s.live && is_kind s.node.kind kind) o false) (old_slot d h.between.sound_now m.node m.from few room k (slice_get_within d.slots k w.0 w.1)) ∙ both.0)
        (not_from_false (was_moved (with_node d m.node m.from) k) (false_from_ne_true (was_moved (with_node d m.node m.from) k) (λ moved. ⊎_elim
        (λ (old : was_moved d k ≡ true). both_ways (was_moved d k) (not-true (was_moved d k) both.1) old)
        (λ (now : option_map_or (λ f. f == k) m.from false ≡ true). let f = map_or_true (λ f. f == k) m.from now in other (f.1 ∙ ap Some (eqb-true f.0 k f.2)))
        (any_append (λ (s : Slot). option_map_or (λ f. f == k) s.from false) d.slots (record { node = m.node; first_port = length d.gates; from = m.from; live = true }) moved))))

    pub make_next : Making c new Touched (with_node d m.node m.from) left
    make_next =
        let s = h.between.sound_now in
        let more_ : length (with_node d m.node m.from).slots ≡ length d.slots + 1 = length-append d.slots (record { node = m.node; first_port = length d.gates; from = m.from; live = true } ∷ []) in
        let ports_ = grown_length d s m.node m.from few room in
        let room_ = h.room_nodes in
        let room_p = h.room_ports in
        record {
          between = between_make c Touched noted ground d h.between m.node m.from few room;
          links = λ p t e. h.links p t (sym (ap (λ (g : Gate). g.target) (old_gate d s m.node m.from few room p (linked_before d s m.node m.from few room p t e))) ∙ e);
          kept = λ p t k. let e = h.kept p t k in ap (λ (g : Gate). g.target) (old_gate d s m.node m.from few room p (linked_made d p t e)) ∙ e;
          nodes = λ n node l. ⊎_elim
              (λ (old : IsLiveAt d n node). let w = h.nodes n node old in (w.0, λ k i. w.1 k (inr i)))
              (λ (new_ : (n ≡ length d.slots) × (m.node ≡ node)). (subst (Contains new.nodes) new_.1 (h.to_make m (inl refl)).0, λ k i same. h.apart.0 k i (same ∙ ap (λ (x : Node). x.path) (sym new_.1))))
              (live_cases n node l);
          stays = λ n node l i. live_old n node (h.stays n node l i);
          all = λ node i. ⊎_elim
              (λ (w : (n : ℕ) × IsLiveAt d n node). inl (w.0, live_old w.0 node w.1))
              (λ (w : (k : NewNode) × In (m ∷ left) k × (k.node ≡ node)). ⊎_elim
              (λ (this : m ≡ w.0). inl (length d.slots, record { made = record { node = m.node; first_port = length d.gates; from = m.from; live = true }; there = last_slot d s m.node m.from few room; live = refl; is_node = ap (λ (k : NewNode). k.node) this ∙ w.2 }))
              (λ (j : In left w.0). inr (w.0, j, w.2))
              w.1)
              (h.all node i);
          to_make = λ k i. h.to_make k (inr i);
          numbered = subst (λ i. AreNumbered i left) (sym more_) h.numbered.1;
          apart = h.apart.1;
          sources = λ k i j e. moves_still j k.node.kind (λ mine. h.other_sources.0 k i j mine e) (h.sources k (inr i) j e);
          other_sources = h.other_sources.1;
          room_nodes = omega (arith, more_, room_);
          room_ports = omega (arith, ports_, room_p);
          more_slots = omega (arith, more_, h.more_slots);
          old_live = λ n node l below. ⊎_elim
              (λ (old : IsLiveAt d n node). h.old_live n node old below)
              (λ (new_ : (n ≡ length d.slots) × (m.node ≡ node)). absurd (omega (arith, new_.0, h.more_slots, below)))
              (live_cases n node l);
          named = λ n k a b la lb same. ⊎_elim
              (λ (old : IsLiveAt d n a). ⊎_elim
              (λ (old' : IsLiveAt d k b). h.named n k a b old old' same)
              (λ (new_ : (k ≡ length d.slots) × (m.node ≡ b)). absurd ((h.nodes n a old).1 m (inl refl) (ap (λ (x : Node). x.path) new_.1 ∙ sym same)))
              (live_cases k b lb))
              (λ (new_ : (n ≡ length d.slots) × (m.node ≡ a)). ⊎_elim
              (λ (old' : IsLiveAt d k b). absurd ((h.nodes k b old').1 m (inl refl) (ap (λ (x : Node). x.path) new_.1 ∙ same)))
              (λ (new' : (k ≡ length d.slots) × (m.node ≡ b)). new_.0 ∙ sym new'.0)
              (live_cases k b lb))
              (live_cases n a la);
        }
