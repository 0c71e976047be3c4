-- Where ports lead one way from a source through all live maps to the sink, each graph of the configuration is a row.
use Rattle.std.proofs.Common.{◌≡◌, ◌∙◌, ℕ, ◌+◌, ◌%◌, true, List, [], ◌∷◌, length, Some, refl, sym, ap, subst, arith, inl, inr, ⊎_elim}
use Rattle.std.specs.Prelude.{◌⊎◌, All, Contains, option_map, slice_get}
use Rattle.std.specs.Option.{option_map_or}
use Rattle.std.proofs.lemmas.List.Elements.{All-cons, All-nil}
use Rattle.std.proofs.lemmas.Option.{same_Some}
use Rattle.base.proofs.ContainsLaws.{Contains-here, Contains-there, at_some_place}
use Rattle.base.proofs.OptionLaws.{map_or_true, option_map_some}
use Rattle.config_graph.specs.Cycles.{IsLinked, graph_wiring}
use Rattle.config_graph.specs.Graph.{Graph}
use Rattle.config_graph.specs.Kinds.{row}
use Rattle.config_graph.specs.declared.TheConstants.{VALUE_LIMIT}
use Rattle.config_graph.specs.declared.kind.Kind.{Kind}
use Rattle.config_graph.specs.declared.kind.Kind.TheVariants.{Map, Sink, Source}
use Rattle.config_graph.specs.declared.node.Node.{Node}
use Rattle.config_graph.proofs.WiringLaws.{Simulates}
use Rattle.component_trait.specs.States.{NodeState}
use Rattle.quiesce_core.specs.Live.{IsGraphOf, StandsAt}
use Rattle.quiesce_core.specs.Named.{AreNamed}
use Rattle.quiesce_core.specs.Reach.{wiring_of}
use Rattle.quiesce_core.specs.SameWiring.{AreLinkedAlive, IsPortAt}
use Rattle.quiesce_core.specs.State.{Configuration, gate, owner, slot, target}
use Rattle.quiesce_core.specs.WellFormed.{IsSound}
use Rattle.quiesce_core.specs.declared.state.Slot.{Slot}
use Rattle.quiesce_core.proofs.LiveLinkLaws.{linked_at}
use Rattle.quiesce_core.proofs.SameWiringLaws.{to_graph}
use Rattle.result_laws.specs.Describing.{LinksAre, kind_at}
use Rattle.result_laws.specs.Rows.{IsRow, LeadsThrough, argument_at, is_of_row, rows_serve_rows, through}
use Rattle.result_laws.proofs.FactLaws.{Fits}
use Rattle.result_laws.proofs.Linking.{AllLinked}
use Rattle.result_laws.proofs.Passing.{Stop, Way, passed}
use Rattle.result_laws.proofs.Rising.{stand_of}
use Rattle.result_laws.proofs.Touching.{IsOnWay}

module _ (c : Configuration) (sound : IsSound c) (named : AreNamed c) (alive : AreLinkedAlive c) (f : ℕ → NodeState) (fits : Fits c f) (g : Graph) (is : IsGraphOf c g) (linked : AllLinked rows_serve_rows c) where
  -- the place of a live node
  placed : (n : ℕ) (m : Slot) → slot c n ≡ Some m → m.live ≡ true → (i : ℕ) × StandsAt c g.nodes n i
  placed n m there live =
      let listed = at_some_place g.nodes m.node ((is.nodes_are m.node).1 (n, record { made = m; there = there; live = live; is_node = refl })) in
      (listed.0, record { made = m; there = there; live = live; stands = listed.1 })

  same_place : Simulates (wiring_of c) (graph_wiring g) (StandsAt c g.nodes) (IsPortAt c g)
  same_place = to_graph c named g is alive

  kind_of : (n i : ℕ) (m : Slot) → StandsAt c g.nodes n i → slot c n ≡ Some m → kind_at g i ≡ Some m.node.kind
  kind_of n i m a there = ap (option_map (λ (x : Node). x.kind)) a.stands ∙ ap (λ (x : Slot). Some x.node.kind) (same_Some a.made m (sym a.there ∙ there))

  -- from a node on: the places of the maps to which it leads one after the other, and that of the sink
  record Stretch (i : ℕ) (ms : List Stop) (t : ℕ) : Type 0 where
    maps : List ℕ
    sink : ℕ
    stands : StandsAt c g.nodes t sink
    is_sink : kind_at g sink ≡ Some Sink
    are_maps : All (λ k. kind_at g k ≡ Some Map) maps
    leads : LeadsThrough g i maps sink
    same : (x : ℕ) → passed x ms ≡ through g maps x
    covers : (n k : ℕ) → IsOnWay ms t n → StandsAt c g.nodes n k → Contains maps k ⊎ (k ≡ sink)

  link_on : (p n i to : ℕ) → owner c p ≡ n → (gate c p).require ≡ 0 → StandsAt c g.nodes n i → target c p ≡ Some (record { node = to; provide = 0 }) → (k : ℕ) → StandsAt c g.nodes to k → IsLinked g i 0 k 0
  link_on p n i to owned first at leads k there =
      (is.links_are i 0 k 0).1 ((linked_at c g.nodes i 0 k 0).0
      (record { port = p; to = to; leads = leads; requirement = first; from_there = subst (λ q. StandsAt c g.nodes q i) (sym owned) at; to_there = there }))

  reached : (p to : ℕ) → target c p ≡ Some (record { node = to; provide = 0 }) → (k : ℕ) × StandsAt c g.nodes to k
  reached p to leads =
      let m = map_or_true (λ (x : Slot). x.live) (slot c to) (sound.targets p (record { node = to; provide = 0 }) leads).live in
      placed to m.0 m.1 m.2

  stretch : (ms : List Stop) (p t n i : ℕ) → Way c f p ms t → owner c p ≡ n → (gate c p).require ≡ 0 → StandsAt c g.nodes n i → Stretch i ms t
  stretch [] p t n i w owned first at =
      let k = reached p t w.to.leads in
      record {
        maps = [];
        sink = k.0;
        stands = k.1;
        is_sink = kind_of t k.0 w.to.made k.1 w.to.there ∙ ap Some w.to.kind;
        are_maps = All-nil (λ k. kind_at g k ≡ Some Map);
        leads = link_on p n i t owned first at w.to.leads k.0 k.1;
        same = λ x. refl;
        covers = λ m j on there. inr (same_place.one_node t j k.0 (subst (λ q. StandsAt c g.nodes q j) on there) k.1);
      }
  stretch (m ∷ ms) p t n i w owned first at =
      let to = w.0.to in
      let k = reached p m.at to.leads in
      let one_ : length (row to.made.node.kind).requires_ ≡ 1 = ap (λ (j : Kind). length (row j).requires_) to.kind in
      let begin = w.0.first in
      let require_0 : (gate c m.port).require ≡ 0 = ap (λ q. (gate c q).require) (omega (arith, begin)) ∙ (sound.rows m.at to.made to.there).in_order 0 (omega (arith, one_)) in
      let rest = stretch ms m.port t m.at k.0 w.1 w.0.owned require_0 k.1 in
      let kind : kind_at g k.0 ≡ Some Map = kind_of m.at k.0 to.made k.1 to.there ∙ ap Some to.kind in
      let stood : slice_get g.nodes k.0 ≡ Some to.made.node = k.1.stands ∙ ap (λ (x : Slot). Some x.node) (same_Some k.1.made to.made (sym k.1.there ∙ to.there)) in
      let arg_is : m.arg ≡ argument_at g k.0 = sym w.0.arg ∙ fits.args m.at to.made to.there ∙ sym (ap (λ o. option_map_or (λ (x : Node). option_map_or (λ a. a) x.arg 0) o 0) stood) in
      record {
        maps = k.0 ∷ rest.maps;
        sink = rest.sink;
        stands = rest.stands;
        is_sink = rest.is_sink;
        are_maps = All-cons (λ j. kind_at g j ≡ Some Map) k.0 rest.maps kind rest.are_maps;
        leads = (link_on p n i m.at owned first at to.leads k.0 k.1, rest.leads);
        same = λ x. rest.same ((x + m.arg) % VALUE_LIMIT) ∙ ap (λ b. through g rest.maps ((x + b) % VALUE_LIMIT)) arg_is;
        covers = λ u j on there. ⊎_elim
            (λ (here : u ≡ m.at). inl (subst (λ q. Contains (k.0 ∷ rest.maps) q) (same_place.one_node m.at k.0 j k.1 (subst (λ q. StandsAt c g.nodes q j) here there)) (Contains-here k.0 rest.maps)))
            (λ (later : IsOnWay ms t u). ⊎_elim (λ (there' : Contains rest.maps j). inl (Contains-there k.0 j rest.maps there')) (λ (end_ : j ≡ rest.sink). inr end_) (rest.covers u j later there))
            on;
      }

  links_are : LinksAre rows_serve_rows g
  links_are i r j x k l h at_i at_j =
      let v = (linked_at c g.nodes i r j x).1 ((is.links_are i r j x).0 h) in
      let from : v.from_there.made.node.kind ≡ k = same_Some v.from_there.made.node.kind k (sym (ap (option_map (λ (y : Node). y.kind)) v.from_there.stands) ∙ at_i) in
      let into : v.to_there.made.node.kind ≡ l = same_Some v.to_there.made.node.kind l (sym (ap (option_map (λ (y : Node). y.kind)) v.to_there.stands) ∙ at_j) in
      (λ n. rows_serve_rows (sym from n) (sym into n)) ∙ linked v.port (record { node = v.to; provide = x }) v.from_there.made v.to_there.made v.leads v.from_there.there v.to_there.there

  pub row_there : (a p : ℕ) (ms : List Stop) (t : ℕ) (made : Slot) → slot c a ≡ Some made → made.live ≡ true → made.node.kind ≡ Source → made.first_port ≡ p → owner c p ≡ a → Way c f p ms t
      → ((n : ℕ) (m : Slot) → slot c n ≡ Some m → m.live ≡ true → is_of_row m.node.kind ≡ true → (n ≡ a) ⊎ IsOnWay ms t n) → (row : IsRow g) × ((x : ℕ) → passed x ms ≡ through g row.maps x)
  row_there a p ms t made there live kind first owned way nodes =
      let here = placed a made there live in
      let one_ : length (row made.node.kind).requires_ ≡ 1 = ap (λ (j : Kind). length (row j).requires_) kind in
      let require_0 : (gate c p).require ≡ 0 = ap (λ q. (gate c q).require) (omega (arith, first)) ∙ (sound.rows a made there).in_order 0 (omega (arith, one_)) in
      let w = stretch ms p t a here.0 way owned require_0 here.1 in (
        record {
          source = here.0;
          maps = w.maps;
          sink = w.sink;
          is_source = kind_of a here.0 made here.1 there ∙ ap Some kind;
          are_maps = w.are_maps;
          is_sink = w.is_sink;
          no_others = λ i k at of_row.
              let node = option_map_some (λ (n : Node). n.kind) (slice_get g.nodes i) k at in
              let s = stand_of c g is i node.0 node.1 in
              let same : s.1.made.node.kind ≡ k = same_Some s.1.made.node.kind k (sym (ap (option_map (λ (y : Node). y.kind)) s.1.stands) ∙ at) in
              ⊎_elim
              (λ (own : s.0 ≡ a). inl (same_place.one_node a i here.0 (subst (λ q. StandsAt c g.nodes q i) own s.1) here.1))
              (λ (on : IsOnWay ms t s.0). inr (w.covers s.0 i on s.1))
              (nodes s.0 s.1.made s.1.there s.1.live (ap is_of_row same ∙ of_row));
          links = links_are;
          leads = w.leads;
        },
        w.same,
      )
