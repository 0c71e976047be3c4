-- A layout tells which ports are live, and a started system has its graph's.
use Rattle.std.proofs.Common.{◌≡◌, ℕ, ◌+◌, ◌<◌, ◌≤◌, suc, Bool, true, false, cond, List, [], ◌∷◌, length, map, get_or, Option, Some, None, refl, sym, ap, ◌∙◌, subst, inl, inr, arith}
use Rattle.std.specs.Prelude.{◌&&◌, filter, is_some, option_and_then, option_map, slice_get}
use Rattle.std.specs.List.{enumerate_from, range_with_len}
use Rattle.std.specs.Option.{option_map_or}
use Rattle.std.specs.Cmp.Lexicographic.{slice_cmp}
use Rattle.std.specs.Ordering.{nat_cmp}
use Rattle.std.specs.declared.cmp.Ordering.TheVariants.{Less}
use Rattle.std.proofs.Math.Path.{fun_ext}
use Rattle.std.proofs.lemmas.Bool.{cases_lt, le-ltb, lt-ltb}
use Rattle.std.proofs.lemmas.List.{length-map, get_or-map, same_lists}
use Rattle.std.proofs.lemmas.Option.{get_or_from_slice_get, slice_get-map, slice_get_past, slice_get_within}
use Rattle.base.proofs.MapLaws.{map-map}
use Rattle.base.proofs.PlaceLaws.{slice_get-there}
use Rattle.config_graph.specs.Graph.{Graph, PathsRise, index_of, ports}
use Rattle.config_graph.specs.declared.node.Node.{Node}
use Rattle.config_graph.specs.declared.node.Port.{Port}
use Rattle.config_graph.proofs.PathLaws.{irreflexive}
use Rattle.change_plan.proofs.NodeLaws.{index_found, index_missing, path_missing}
use Rattle.quiesce_laws.specs.Steps.{live_ports}
use Rattle.quiesce_laws.proofs.TurningLaws.{SameLinks}
use Rattle.quiesce_core.specs.Live.{IsGraphOf}
use Rattle.quiesce_core.specs.Rules.{is_live_port}
use Rattle.quiesce_core.specs.Start.{gate_of, slot_of, started}
use Rattle.quiesce_core.specs.State.{Configuration, fresh_gate, is_live, owner, gate}
use Rattle.quiesce_core.specs.declared.state.Gate.{Gate}
use Rattle.quiesce_core.specs.declared.state.Slot.{Slot}
use Rattle.change_lists.specs.Layouts.{IsLayoutOf, is_live_at, live_at, place_at, place_in, port_of}
use Rattle.change_lists.specs.declared.layout.Layout.{Layout}

-- a node stands where its path is found
pub place_there : (nodes : List Node) → PathsRise nodes → (i : ℕ) (m : Node) → slice_get nodes i ≡ Some m → index_of nodes m.path ≡ Some i
place_there nodes rise i m at = by (index_of nodes m.path) refl
  where
    path_at : (get_or nodes i m).path ≡ m.path
    path_at = ap (λ (n : Node). n.path) (get_or_from_slice_get nodes i m m at)

    within : i < length nodes
    within = slice_get_within nodes i m at

    by : (o : Option ℕ) → index_of nodes m.path ≡ o → o ≡ Some i
    by None e = absurd (index_missing nodes m.path e i m at refl)
    by (Some j) e =
        let found = index_found nodes m.path j m e in
        let same : (get_or nodes j m).path ≡ (get_or nodes i m).path = sym found.1 ∙ sym path_at in
        elim (cases_lt j i) [
          | inl below ↦ absurd (irreflexive (get_or nodes i m).path (subst (λ p. slice_cmp nat_cmp p (get_or nodes i m).path ≡ Less) same (rise j i m below within)))
          | inr above ↦ elim (cases_lt i j) [
            | inl below ↦ absurd (irreflexive (get_or nodes i m).path (subst (λ p. slice_cmp nat_cmp (get_or nodes i m).path p ≡ Less) same (rise i j m below found.0)))
            | inr least ↦ ap Some (omega (arith, above, least))
          ]
        ]

-- a node that is live has a place in the graph
module _ (c : Configuration) (g : Graph) (is : IsGraphOf c g) where
  pub has_place : (n : ℕ) (m : Slot) → slice_get c.slots n ≡ Some m → is_some (place_in g m) ≡ m.live
  has_place n m at = by m.live refl
    where
      found : m.live ≡ true → (o : Option ℕ) → index_of g.nodes m.node.path ≡ o → is_some o ≡ true
      found live None e = absurd (path_missing g.nodes m.node e ((is.nodes_are m.node).1 (n, record { made = m; there = at; live = live; is_node = refl })))
      found live (Some i) e = refl

      by : (b : Bool) → m.live ≡ b → is_some (place_in g m) ≡ m.live
      by true e =
          ap (λ b. is_some (cond b (index_of g.nodes m.node.path) None)) e ∙ found e (index_of g.nodes m.node.path) refl ∙ sym e
      by false e = ap (λ b. is_some (cond b (index_of g.nodes m.node.path) None)) e ∙ sym e

  places_live : (n : ℕ) → is_some (place_at (map (place_in g) c.slots) n) ≡ is_live c n
  places_live n =
      ap (λ (o : Option (Option ℕ)). is_some (option_and_then (λ x. x) o)) (slice_get-map (place_in g) c.slots n) ∙ by (slice_get c.slots n) refl
    where
      by : (o : Option Slot) → slice_get c.slots n ≡ o → is_some (option_and_then (λ x. x) (option_map (place_in g) o)) ≡ option_map_or (λ (m : Slot). m.live) o false
      by None e = refl
      by (Some m) e = has_place n m e

  ports_live : (p : ℕ) → is_live_at (map (place_in g) c.slots) (map port_of c.gates) p ≡ is_live_port c p
  ports_live p =
      ap (λ (o : Option Port). option_map_or (λ (x : Port). is_some (place_at places x.node)) o false) (slice_get-map port_of c.gates p)
      ∙ elim (cases_lt p (length c.gates)) [ inl within ↦ made within | inr past ↦ unmade past ]
    where
      places : List (Option ℕ)
      places = map (place_in g) c.slots

      test : Option Gate → Bool
      test o = option_map_or (λ (x : Port). is_some (place_at places x.node)) (option_map port_of o) false

      made : p < length c.gates → test (slice_get c.gates p) ≡ is_live_port c p
      made within =
          let x = slice_get-there c.gates p within in
          ap test x.1 ∙ places_live x.0.owner
          ∙ sym (ap (λ b. b && is_live c (owner c p)) (lt-ltb p (length c.gates) within) ∙ ap (λ (y : Gate). is_live c y.owner) (get_or_from_slice_get c.gates p x.0 fresh_gate x.1))

      unmade : length c.gates ≤ p → test (slice_get c.gates p) ≡ is_live_port c p
      unmade past = ap test (slice_get_past c.gates p past) ∙ sym (ap (λ b. b && is_live c (owner c p)) (le-ltb p (length c.gates) past))

  pub live_ports_are : (l : Layout) → IsLayoutOf l c g → live_at l.places.items l.ports.items ≡ live_ports c
  live_ports_are l h =
      ap (λ xs. live_at xs l.ports.items) h.places_are ∙ ap (live_at (map (place_in g) c.slots)) h.ports_are
      ∙ ap (λ n. filter (is_live_at (map (place_in g) c.slots) (map port_of c.gates)) (range_with_len 0 n)) (length-map c.gates port_of)
      ∙ ap (λ test. filter test (range_with_len 0 (length c.gates))) (fun_ext ports_live)

-- The layout of a started system.
places_from : (g : Graph) (k : ℕ) (ms : List Node) → ((i : ℕ) (m : Node) → slice_get ms i ≡ Some m → index_of g.nodes m.path ≡ Some (k + i))
    → map (place_in g) (map (slot_of g.nodes) (enumerate_from k ms)) ≡ map Some (range_with_len k (length ms))
places_from g k [] at = refl
places_from g k (m ∷ ms) at =
    ap (λ o. o ∷ map (place_in g) (map (slot_of g.nodes) (enumerate_from (k + 1) ms))) (at 0 m refl ∙ ap Some (omega arith))
    ∙ ap (λ xs. Some k ∷ xs) (places_from g (k + 1) ms (λ i n e. at (suc i) n e ∙ ap Some (omega arith)))

pub started_layout : (l : Layout) (g : Graph) → PathsRise g.nodes → l.places.items ≡ map Some (range_with_len 0 (length g.nodes)) → l.ports.items ≡ ports g.nodes → IsLayoutOf l (started g).config g
started_layout l g rise places_ ports_ = record {
  places_are = places_ ∙ sym (places_from g 0 g.nodes (λ i m e. place_there g.nodes rise i m e ∙ ap Some (omega arith)));
  ports_are = ports_ ∙ sym (map-map port_of (gate_of g) (ports g.nodes) ∙ all_same (ports g.nodes));
}
  where
    all_same : (ps : List Port) → map (λ (p : Port). port_of (gate_of g p)) ps ≡ ps
    all_same [] = refl
    all_same (p ∷ ps) = ap (λ qs. p ∷ qs) (all_same ps)

-- A layout tells no gate's being closed or open.
pub same_laid : (l : Layout) (c d : Configuration) (g : Graph) → SameLinks c d → IsLayoutOf l c g → IsLayoutOf l d g
same_laid l c d g same h = record {
  places_are = h.places_are ∙ ap (map (place_in g)) (sym same.slots);
  ports_are = h.ports_are ∙ sym (same_lists (map port_of d.gates) (map port_of c.gates) long each);
}
  where
    long : length (map port_of d.gates) ≡ length (map port_of c.gates)
    long = length-map d.gates port_of ∙ same.long ∙ sym (length-map c.gates port_of)

    each : (k : ℕ) (x : Port) → k < length (map port_of d.gates) → get_or (map port_of d.gates) k x ≡ get_or (map port_of c.gates) k x
    each k x low =
        let below : k < length d.gates = subst (λ n. k < n) (length-map d.gates port_of) low in
        let under : k < length c.gates = subst (λ n. k < n) same.long below in
        get_or-map port_of d.gates k fresh_gate x below
        ∙ ap (λ n. record { node = n; require = (gate d k).require }) (same.owners k) ∙ ap (λ r. record { node = owner c k; require = r }) (same.requirements k)
        ∙ sym (get_or-map port_of c.gates k fresh_gate x under)
