-- Where the graph of a configuration is a row, its ports lead one way, from the source through all maps to the sink.
use Rattle.std.proofs.Common.{◌≡◌, ◌∙◌, ℕ, ◌+◌, ◌-◌, ◌%◌, ◌<◌, ◌≤◌, true, List, [], ◌∷◌, length, Some, refl, sym, ap, subst, arith, inl, inr, ⊎_elim}
use Rattle.std.specs.Prelude.{◌⊎◌, ◌||◌, not, All, Contains, option_map}
use Rattle.std.specs.Option.{option_map_or}
use Rattle.std.proofs.lemmas.Option.{same_Some}
use Rattle.base.proofs.ContainsLaws.{Contains-here, Contains-there, Contains-cons_cases, Contains-nil, at_some_place}
use Rattle.base.proofs.OptionLaws.{map_or_true}
use Rattle.config_graph.specs.Cycles.{IsLinked}
use Rattle.config_graph.specs.Graph.{Graph}
use Rattle.config_graph.specs.Kinds.{row}
use Rattle.config_graph.specs.declared.TheConstants.{VALUE_LIMIT}
use Rattle.config_graph.specs.declared.kind.Kind.{Kind}
use Rattle.config_graph.specs.declared.kind.Kind.TheVariants.{Map, Sink, Source}
use Rattle.config_graph.specs.declared.node.Node.{Node}
use Rattle.config_graph.specs.declared.node.Target.{Target}
use Rattle.component_trait.specs.States.{NodeState}
use Rattle.quiesce_core.specs.Live.{IsGraphOf, StandsAt}
use Rattle.quiesce_core.specs.Named.{AreNamed}
use Rattle.quiesce_core.specs.State.{Configuration, gate, is_live, owner, slot, target}
use Rattle.quiesce_core.specs.WellFormed.{IsSound}
use Rattle.quiesce_core.specs.declared.state.Slot.{Slot}
use Rattle.quiesce_core.proofs.ConfigurationLaws.{linked_made}
use Rattle.quiesce_core.proofs.LiveLinkLaws.{IsLiveLink, linked_at}
use Rattle.change_spec.specs.Opening.{argument_of}
use Rattle.result_laws.proofs.FactLaws.{Fits}
use Rattle.result_laws.specs.Describing.{kind_at}
use Rattle.result_laws.specs.Rows.{IsRow, LeadsThrough, argument_at, is_of_row, through}
use Rattle.result_laws.proofs.Passing.{Stop, Way, passed}
use Rattle.result_laws.proofs.Touching.{IsOnWay}
use Rattle.result_laws.proofs.RowLinks.{On, first_of, on_map, on_source, one_before}

module _ (c : Configuration) (sound : IsSound c) (named : AreNamed c) (owners : (r : ℕ) (t : Target) → target c r ≡ Some t → is_live c (owner c r) ≡ true) (f : ℕ → NodeState) (fits : Fits c f) (g : Graph)
    (is : IsGraphOf c g) (r : IsRow g) where
  pub one_stand : (n k i : ℕ) → StandsAt c g.nodes n i → StandsAt c g.nodes k i → n ≡ k
  one_stand n k i a b = named.paths n k a.made b.made a.there b.there a.live b.live (ap (λ (x : Node). x.path) (same_Some a.made.node b.made.node (sym a.stands ∙ b.stands)))

  kind_there : (n i : ℕ) (k : Kind) → (a : StandsAt c g.nodes n i) → kind_at g i ≡ Some k → a.made.node.kind ≡ k
  kind_there n i k a h = same_Some a.made.node.kind k (sym (ap (option_map (λ (x : Node). x.kind)) a.stands) ∙ h)

  -- the requirement of a port that leads somewhere, and the first
  record PortIs (p n : ℕ) (m : Slot) : Type 0 where
    below : (gate c p).require < length (row m.node.kind).requires_
    at : p ≡ m.first_port + (gate c p).require

  port_is : (p n : ℕ) (m : Slot) (t : Target) → target c p ≡ Some t → owner c p ≡ n → slot c n ≡ Some m → PortIs p n m
  port_is p n m t leads owned there =
      let made = sound.ports p (linked_made c p t leads) in
      let one : made.node ≡ m = same_Some made.node m (sym made.made ∙ ap (slot c) owned ∙ there) in
      let from : m.first_port ≤ p = subst (λ (x : Slot). x.first_port ≤ p) one made.from in
      let below : p < m.first_port + length (row m.node.kind).requires_ = subst (λ (x : Slot). p < x.first_port + length (row x.node.kind).requires_) one made.below in
      let here : m.first_port + (p - m.first_port) ≡ p = omega (arith, from) in
      let order = (sound.rows n m there).in_order (p - m.first_port) (omega (arith, from, below)) in
      let require_is : (gate c p).require ≡ p - m.first_port = ap (λ q. (gate c q).require) (sym here) ∙ order in
      record { below = omega (arith, require_is, from, below); at = omega (arith, require_is, from) }

  pub sink_ends : (j : ℕ) → IsLinked g r.sink 0 j 0 → ⊥
  sink_ends j h =
      let l = (linked_at c g.nodes r.sink 0 j 0).1 ((is.links_are r.sink 0 j 0).0 h) in
      let p = port_is l.port (owner c l.port) l.from_there.made (record { node = l.to; provide = 0 }) l.leads refl l.from_there.there in
      let none_ : length (row l.from_there.made.node.kind).requires_ ≡ 0 = ap (λ k. length (row k).requires_) (kind_there (owner c l.port) r.sink Sink l.from_there r.is_sink) in
      let low = p.below in omega (arith, low, none_)

  abbrev pub IsOn : ℕ → Type 0
  IsOn i = On g r.sink sink_ends r.source r.maps i

  one_requirement : (i : ℕ) → IsOn i → (kind_at g i ≡ Some Source) ⊎ (kind_at g i ≡ Some Map) → (n : ℕ) → (a : StandsAt c g.nodes n i) → length (row a.made.node.kind).requires_ ≡ 1
  one_requirement i o (inl k) n a = ap (λ k. length (row k).requires_) (kind_there n i Source a k)
  one_requirement i o (inr k) n a = ap (λ k. length (row k).requires_) (kind_there n i Map a k)

  map_kind : (maps : List ℕ) → All (λ i. kind_at g i ≡ Some Map) maps → (i : ℕ) → Contains maps i → kind_at g i ≡ Some Map
  map_kind maps all i at = ap (kind_at g) (sym at.2) ∙ all at.0 i at.1

  -- a port that leads to a node on the way is the one port of the node before it
  only_port : (p i j n to : ℕ) (kind_j : Kind) → kind_at g j ≡ Some kind_j → is_of_row kind_j ≡ true → IsOn i → IsLinked g i 0 j 0 → (a : StandsAt c g.nodes n i) → p ≡ a.made.first_port → StandsAt c g.nodes to j → (q x : ℕ) → target c q ≡ Some (record { node = to; provide = x }) → q ≡ p
  only_port p i j n to kind_j at_j of_row on l a first b q x leads =
      let m = map_or_true (λ (s : Slot). s.live) (slot c (owner c q)) (owners q (record { node = to; provide = x }) leads) in
      let listed = at_some_place g.nodes m.0.node ((is.nodes_are m.0.node).1 (owner c q, record { made = m.0; there = m.1; live = m.2; is_node = refl })) in
      let i' = listed.0 in
      let here : StandsAt c g.nodes (owner c q) i' = record { made = m.0; there = m.1; live = m.2; stands = listed.1 } in
      let linked : IsLinked g i' (gate c q).require j x =
      (is.links_are i' (gate c q).require j x).1 ((linked_at c g.nodes i' (gate c q).require j x).0
      (record { port = q; to = to; leads = leads; requirement = refl; from_there = here; to_there = b })) in
      let port = port_is q (owner c q) m.0 (record { node = to; provide = x }) leads refl m.1 in
      let kind : kind_at g i' ≡ Some m.0.node.kind = ap (option_map (λ (y : Node). y.kind)) listed.1 in
      let from_row : is_of_row m.0.node.kind ≡ true = sym (ap (λ b. not b || is_of_row m.0.node.kind) of_row) ∙ r.links i' (gate c q).require j x m.0.node.kind kind_j linked kind at_j in
      by i' here linked port (r.no_others i' m.0.node.kind kind from_row)
    where
      one : (i' : ℕ) → (here : StandsAt c g.nodes (owner c q) i') → IsLinked g i' (gate c q).require j x → PortIs q (owner c q) here.made → IsOn i' → (kind_at g i' ≡ Some Source) ⊎ (kind_at g i' ≡ Some Map) → q ≡ p
      one i' here linked port on' kind =
          let single = one_requirement i' on' kind (owner c q) here in
          let low = port.below in
          let none_ : (gate c q).require ≡ 0 = omega (arith, low, single) in
          let linked_0 : IsLinked g i' 0 j x = subst (λ k. IsLinked g i' k j x) none_ linked in
          let next_ = first_of g i' on'.after r.sink on'.leads in
          let provide_0 : x ≡ 0 = ap (λ (t : Target). t.provide) (same_Some _ _ (sym linked_0 ∙ next_.1)) in
          let same : i ≡ i' = one_before g r.sink sink_ends r.source r.maps i i' j on on' l (subst (λ k. IsLinked g i' 0 j k) provide_0 linked_0) in
          let slot_same : n ≡ owner c q = one_stand n (owner c q) i a (subst (λ k. StandsAt c g.nodes (owner c q) k) (sym same) here) in
          let made_same : a.made ≡ here.made = same_Some a.made here.made (sym a.there ∙ ap (slot c) slot_same ∙ here.there) in
          let at = port.at in
          let first_same = ap (λ (m : Slot). m.first_port) made_same in
          omega (arith, at, none_, first, first_same)

      by : (i' : ℕ) → (here : StandsAt c g.nodes (owner c q) i') → IsLinked g i' (gate c q).require j x → PortIs q (owner c q) here.made → (i' ≡ r.source) ⊎ Contains r.maps i' ⊎ (i' ≡ r.sink) → q ≡ p
      by i' here linked port (inl s) = one i' here linked port (subst IsOn (sym s) (on_source g r.sink sink_ends r.source r.maps r.leads)) (inl (ap (kind_at g) s ∙ r.is_source))
      by i' here linked port (inr (inl m)) = one i' here linked port (on_map g r.sink sink_ends r.source r.maps i' r.leads m) (inr (map_kind r.maps r.are_maps i' m))
      by i' here linked port (inr (inr s)) =
          let none_ : length (row here.made.node.kind).requires_ ≡ 0 = ap (λ k. length (row k).requires_) (kind_there (owner c q) i' Sink here (ap (kind_at g) s ∙ r.is_sink)) in
          let low = port.below in absurd (omega (arith, low, none_))

  -- ---- the way, from a node on

  pub record Ways (p i : ℕ) (maps : List ℕ) : Type 0 where
    pub stops : List Stop
    pub end_ : ℕ
    pub way : Way c f p stops end_
    pub same : (v : ℕ) → passed v stops ≡ through g maps v
    pub on_way : (n x : ℕ) → StandsAt c g.nodes n x → Contains maps x ⊎ (x ≡ r.sink) → IsOnWay stops end_ n

  next_port : (i j : ℕ) → IsLinked g i 0 j 0 → IsLiveLink c g.nodes i 0 j 0
  next_port i j h = (linked_at c g.nodes i 0 j 0).1 ((is.links_are i 0 j 0).0 h)

  link_from : (i j n : ℕ) → (l : IsLiveLink c g.nodes i 0 j 0) → (a : StandsAt c g.nodes n i) → l.port ≡ a.made.first_port
  link_from i j n l a =
      let same = one_stand (owner c l.port) n i l.from_there a in
      let port = port_is l.port n a.made (record { node = l.to; provide = 0 }) l.leads same a.there in
      let at = port.at in let none_ = l.requirement in omega (arith, at, none_)

  pub ways : (maps : List ℕ) (i n p : ℕ) → IsOn i → (a : StandsAt c g.nodes n i) → p ≡ a.made.first_port → LeadsThrough g i maps r.sink → ((m : ℕ) → Contains maps m → IsOn m × (kind_at g m ≡ Some Map)) → Ways p i maps
  ways [] i n p on a first l each =
      let k = next_port i r.sink l in
      let here : k.port ≡ p = link_from i r.sink n k a ∙ sym first in
      record {
        stops = [];
        end_ = k.to;
        way = record {
          to = record {
            leads = sym (ap (target c) here) ∙ k.leads;
            only = only_port p i r.sink n k.to Sink r.is_sink refl on l a first k.to_there;
            made = k.to_there.made;
            there = k.to_there.there;
            kind = kind_there k.to r.sink Sink k.to_there r.is_sink;
          };
          kind = fits.kinds k.to k.to_there.made k.to_there.there ∙ kind_there k.to r.sink Sink k.to_there r.is_sink;
        };
        same = λ v. refl;
        on_way = λ n x at. ⊎_elim (λ (there : Contains [] x). absurd (Contains-nil x there)) (λ (sink : x ≡ r.sink). one_stand n k.to r.sink (subst (StandsAt c g.nodes n) sink at) k.to_there);
      }
  ways (m ∷ maps) i n p on a first l each =
      let k = next_port i m l.0 in
      let here : k.port ≡ p = link_from i m n k a ∙ sym first in
      let own = each m (Contains-here m maps) in
      let kind = kind_there k.to m Map k.to_there own.1 in
      let port = k.to_there.made.first_port in
      let rest = ways maps m k.to port own.0 k.to_there refl l.1 (λ x at. each x (Contains-there m x maps at)) in
      let row_of = sound.rows k.to k.to_there.made k.to_there.there in
      let one_ : length (row k.to_there.made.node.kind).requires_ ≡ 1 = ap (λ x. length (row x).requires_) kind in
      let stop : Stop = record { at = k.to; arg = argument_of k.to_there.made; port = port } in
      record {
        stops = stop ∷ rest.stops;
        end_ = rest.end_;
        way = (
          record {
            to = record {
              leads = sym (ap (target c) here) ∙ k.leads;
              only = only_port p i m n k.to Map own.1 refl on l.0 a first k.to_there;
              made = k.to_there.made;
              there = k.to_there.there;
              kind = kind;
            };
            first = refl;
            owned = ap (owner c) (omega arith) ∙ row_of.owned 0 (omega (arith, one_));
            kind = fits.kinds k.to k.to_there.made k.to_there.there ∙ kind;
            arg = fits.args k.to k.to_there.made k.to_there.there;
          },
          rest.way,
        );
        same = λ v.
            let arg_is : argument_at g m ≡ argument_of k.to_there.made = ap (λ o. option_map_or (λ (x : Node). option_map_or (λ a. a) x.arg 0) o 0) k.to_there.stands in
            rest.same ((v + argument_of k.to_there.made) % VALUE_LIMIT) ∙ ap (λ b. through g maps ((v + b) % VALUE_LIMIT)) (sym arg_is);
        on_way = λ n x at. ⊎_elim
            (λ (there : Contains (m ∷ maps) x). ⊎_elim (λ (is : x ≡ m). inl (one_stand n k.to m (subst (StandsAt c g.nodes n) is at) k.to_there)) (λ (later : Contains maps x). inr (rest.on_way n x at (inl later)))
            (Contains-cons_cases m maps x there))
            (λ (sink : x ≡ r.sink). inr (rest.on_way n x at (inr sink)));
      }
