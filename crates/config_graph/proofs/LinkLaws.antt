-- Lemmas on links, the ports at which they begin and the provisions at which they end.
use Rattle.std.proofs.Common.{◌≡◌, ◌≢◌, ℕ, ◌+◌, ◌<◌, Bool, true, false, cond, ◌&&◌, eqb, List, [], ◌∷◌, ◌++◌, map, length, take, set, get_or, Option, Some, None, slice_get, option_map, refl, sym, ◌∙◌, ap, subst, arith, find, filter, All}
use Rattle.std.proofs.lemmas.Bool.{eqb-true, eq-eqb, true≢false, and_parts}
use Rattle.std.proofs.lemmas.List.Elements.{filter-append}
use Rattle.std.proofs.lemmas.List.{map-append, map-set, take_more, get_or_default}
use Rattle.config_graph.specs.Graph.{begins_at, ends_at, link_at, target_of, incoming_ports, requires_of, provides_of, requires_at, provides_at, ports, port_number, IsLinkWithin, OneLinkAPort}
use Rattle.std.proofs.Common.{zero-add, length-take, get_or-take, append-nil, IfSome}
use Rattle.std.proofs.Math.ListN.{get_or-map}
use Rattle.std.proofs.lemmas.Option.{slice_get-get_or}
use Rattle.config_graph.specs.Indexes.{targets, incoming}
use Rattle.config_graph.specs.Numbering.{provisions, provision_number}
use Rattle.config_graph.proofs.NumberingLaws.{get-numbered, place-numbered}
use Rattle.config_graph.specs.declared.node.Node.{Node}
use Rattle.config_graph.specs.declared.node.Port.{Port}
use Rattle.config_graph.specs.declared.node.Target.{Target}
use Rattle.config_graph.specs.declared.node.Link.{Link}
use Rattle.base.proofs.FindLaws.{Contains-find, find_none, find_last, find_not_last}
use Rattle.base.proofs.MapLaws.{set-map_at, table_read}

-- a link begins at its port, and at no other
pub begins_there : (i r : ℕ) (l : Link) → begins_at i r l ≡ true → (l.from ≡ i) × (l.require ≡ r)
begins_there i r l h =
    let b = and_parts (eqb l.from i) (eqb l.require r) h in
    (eqb-true l.from i b.0, eqb-true l.require r b.1)

pub begins_here : (i r : ℕ) (l : Link) → l.from ≡ i → l.require ≡ r → begins_at i r l ≡ true
begins_here i r l a b = ap (λ x. x && eqb l.require r) (eq-eqb l.from i a) ∙ eq-eqb l.require r b

-- the port of a requirement, and the provision, at their numbers
pub get-ports : (nodes : List Node) (i r : ℕ) → r < requires_at nodes i → slice_get (ports nodes) (port_number nodes i r) ≡ Some (record { node = i; require = r })
get-ports nodes i r h = get-numbered requires_of (λ j q. record { node = j; require = q }) 0 nodes i r h ∙ ap (λ j. Some (record { node = j; require = r })) (zero-add i)

pub get-provisions : (nodes : List Node) (i x : ℕ) → x < provides_at nodes i → slice_get (provisions nodes) (provision_number nodes i x) ≡ Some (record { node = i; provide = x })
get-provisions nodes i x h = get-numbered provides_of (λ j q. record { node = j; provide = q }) 0 nodes i x h ∙ ap (λ j. Some (record { node = j; provide = x })) (zero-add i)

-- the number of a port that stands in the list of all
pub port_number-place : (nodes : List Node) (q : ℕ) (p : Port) → slice_get (ports nodes) q ≡ Some p → q ≡ port_number nodes p.node p.require
port_number-place nodes q p h =
    let place = place-numbered requires_of (λ j r. record { node = j; require = r }) 0 nodes q p h in
    place.number ∙ ap (λ i. port_number nodes i place.index) (sym (zero-add place.node)) ∙ sym (ap (λ x. port_number nodes x.node x.require) place.is)

pub require_within : (nodes : List Node) (q : ℕ) (p : Port) → slice_get (ports nodes) q ≡ Some p → p.require < requires_at nodes p.node
require_within nodes q p h =
    let place = place-numbered requires_of (λ j r. record { node = j; require = r }) 0 nodes q p h in
    let at : place.index < requires_at nodes (0 + place.node) = rw zero-add place.within in
    subst (λ x. x.require < requires_at nodes x.node) (sym place.is) at

-- what a list of all ports has at a number
module _ (nodes : List Node) (ps : List Port) (q : ℕ) (d : Port) (ps_are : ps ≡ ports nodes) (low : q < length (ports nodes)) where
  pub number_read : port_number nodes (get_or ps q d).node (get_or ps q d).require ≡ q
  number_read =
      ap (λ t. port_number nodes (get_or t q d).node (get_or t q d).require) ps_are ∙ sym (port_number-place nodes q (get_or (ports nodes) q d) (slice_get-get_or (ports nodes) q d low))

  pub require_read : (get_or ps q d).require < requires_at nodes (get_or ps q d).node
  require_read =
      subst (λ t. (get_or t q d).require < requires_at nodes (get_or t q d).node) (sym ps_are) (require_within nodes q (get_or (ports nodes) q d) (slice_get-get_or (ports nodes) q d low))

pub provision_number-place : (nodes : List Node) (q : ℕ) (t : Target) → slice_get (provisions nodes) q ≡ Some t → q ≡ provision_number nodes t.node t.provide
provision_number-place nodes q t h =
    let place = place-numbered provides_of (λ j x. record { node = j; provide = x }) 0 nodes q t h in
    place.number ∙ ap (λ i. provision_number nodes i place.index) (sym (zero-add place.node)) ∙ sym (ap (λ x. provision_number nodes x.node x.provide) place.is)

ends_here : (l : Link) → ends_at l.to l.provide l ≡ true
ends_here l = ap (λ x. x && eqb l.provide l.provide) (eq-eqb l.to l.to refl) ∙ eq-eqb l.provide l.provide refl

-- of two links at different ports, neither begins at the other's
pub begins_apart : (k l : Link) → begins_at k.from k.require l ≡ false → begins_at l.from l.require k ≡ false
begins_apart k l h = by (begins_at l.from l.require k) refl
  where
    by : (b : Bool) → begins_at l.from l.require k ≡ b → b ≡ false
    by false e = refl
    by true e =
        let there = begins_there l.from l.require k e in
        absurd (true≢false (sym (begins_here k.from k.require l (sym there.0) (sym there.1)) ∙ h))

-- the tables by port and by provision after one link more
module _ (nodes : List Node) (links : List Link) (k : ℕ) (d : Link) (low : k < length links) (within : All (IsLinkWithin nodes) links) where
  more : take (k + 1) links ≡ take k links ++ get_or links k d ∷ []
  more = take_more links k d low

  none_before : OneLinkAPort links → find (begins_at (get_or links k d).from (get_or links k d).require) (take k links) ≡ None
  none_before one = find_none (begins_at (get_or links k d).from (get_or links k d).require) (take k links) (λ j e j_low.
      let below : j < k = omega (arith, j_low, length-take k links) in
      let read : get_or (take k links) j e ≡ get_or links j d = get_or-take_other j e below in
      ap (begins_at (get_or links k d).from (get_or links k d).require) read ∙ begins_apart (get_or links j d) (get_or links k d) (one j k d below low))
    where
      get_or-take_other : (j : ℕ) (e : Link) → j < k → get_or (take k links) j e ≡ get_or links j d
      get_or-take_other j e below =
          let in_list : j < length links = omega arith in
          rw get_or-take (get_or_default links j e d in_list)

  pub targets_more : (table : List (Option Target)) (q : ℕ) → table ≡ targets nodes (take k links) → OneLinkAPort links → q ≡ port_number nodes (get_or links k d).from (get_or links k d).require → set table q (Some (record { node = (get_or links k d).to; provide = (get_or links k d).provide })) ≡ targets nodes (take (k + 1) links)
  targets_more table q table_is one q_is =
      let l = get_or links k d in
      let mk : ℕ → ℕ → Port = λ i r. record { node = i; require = r } in
      let before : Port → Option Target = λ p. target_of (take k links) p.node p.require in
      let after : Port → Option Target = λ p. target_of (take k links ++ l ∷ []) p.node p.require in
      let to : Link → Target = λ l. record { node = l.to; provide = l.provide } in
      let at : slice_get (ports nodes) q ≡ Some (mk l.from l.require) =
      ap (slice_get (ports nodes)) q_is ∙ get-ports nodes l.from l.require (within k d low).begins in
      let here : (p : Port) → slice_get (ports nodes) q ≡ Some p → Some (to l) ≡ after p =
      λ p e.
      let same : mk l.from l.require ≡ p = cc in
      let linked = find_last (begins_at l.from l.require) (take k links) l (none_before one) (begins_here l.from l.require l refl refl) in
      sym (ap (option_map to) linked) ∙ ap after same in
      let others : (j : ℕ) (p : Port) → slice_get (ports nodes) j ≡ Some p → j ≢ q → before p ≡ after p =
      λ j p e ne. sym (ap (option_map to) (find_not_last (begins_at p.node p.require) (take k links) l (elsewhere j p e (λ f. ne (f ∙ sym q_is))))) in
      ap (λ t. set t q (Some (to l))) table_is ∙ set-map_at before after (ports nodes) q (Some (to l)) here others ∙ ap (targets nodes) (sym more)
    where
      elsewhere : (j : ℕ) (p : Port) → slice_get (ports nodes) j ≡ Some p → (j ≡ port_number nodes (get_or links k d).from (get_or links k d).require → ⊥) → begins_at p.node p.require (get_or links k d) ≡ false
      elsewhere j p e ne = by (begins_at p.node p.require (get_or links k d)) refl
        where
          by : (b : Bool) → begins_at p.node p.require (get_or links k d) ≡ b → b ≡ false
          by false f = refl
          by true f =
              let there = begins_there p.node p.require (get_or links k d) f in
              absurd (ne (port_number-place nodes j p e ∙ (λ x. port_number nodes (sym there.0 x) (sym there.1 x))))

  abbrev number : Link → ℕ
  number l = port_number nodes l.from l.require

  pub incoming_more : (table : List (List ℕ)) (q port : ℕ) (old : List ℕ) → table ≡ incoming (record { nodes = nodes; links = take k links }) → q ≡ provision_number nodes (get_or links k d).to (get_or links k d).provide → port ≡ port_number nodes (get_or links k d).from (get_or links k d).require → old ≡ get_or table q old → set table q (old ++ port ∷ []) ≡ incoming (record { nodes = nodes; links = take (k + 1) links })
  incoming_more table q port old table_is q_is port_is old_is =
      let l = get_or links k d in
      let mk : ℕ → ℕ → Target = λ i x. record { node = i; provide = x } in
      let before : Target → List ℕ = λ t. incoming_ports (record { nodes = nodes; links = take k links }) t.node t.provide in
      let after : Target → List ℕ = λ t. incoming_ports (record { nodes = nodes; links = take k links ++ l ∷ [] }) t.node t.provide in
      let at : slice_get (provisions nodes) q ≡ Some (mk l.to l.provide) =
      ap (slice_get (provisions nodes)) q_is ∙ get-provisions nodes l.to l.provide (within k d low).ends in
      let old_before : old ≡ before (mk l.to l.provide) = table_read before (provisions nodes) table q (mk l.to l.provide) old table_is at old_is in
      let here : (t : Target) → slice_get (provisions nodes) q ≡ Some t → old ++ port ∷ [] ≡ after t =
      λ t e.
      let same : mk l.to l.provide ≡ t = cc in
      (λ x. old_before x ++ port_is x ∷ []) ∙ sym (incoming_last l.to l.provide (ends_here l)) ∙ ap after same in
      let others : (j : ℕ) (t : Target) → slice_get (provisions nodes) j ≡ Some t → j ≢ q → before t ≡ after t =
      λ j t e ne. sym (incoming_not_last t.node t.provide (elsewhere j t e (λ f. ne (f ∙ sym q_is)))) in
      ap (λ t. set t q (old ++ port ∷ [])) table_is ∙ set-map_at before after (provisions nodes) q (old ++ port ∷ []) here others ∙ ap (λ ls. incoming (record { nodes = nodes; links = ls })) (sym more)
    where
      incoming_last : (i x : ℕ) → ends_at i x (get_or links k d) ≡ true → incoming_ports (record { nodes = nodes; links = take k links ++ get_or links k d ∷ [] }) i x ≡ incoming_ports (record { nodes = nodes; links = take k links }) i x ++ port_number nodes (get_or links k d).from (get_or links k d).require ∷ []
      incoming_last i x h =
          ap (map number) (filter-append (ends_at i x) (take k links) (get_or links k d ∷ [])) ∙ map-append number (filter (ends_at i x) (take k links)) (filter (ends_at i x) (get_or links k d ∷ [])) ∙ ap (λ b. map number (filter (ends_at i x) (take k links)) ++ map number (cond b (get_or links k d ∷ []) [])) h

      incoming_not_last : (i x : ℕ) → ends_at i x (get_or links k d) ≡ false → incoming_ports (record { nodes = nodes; links = take k links ++ get_or links k d ∷ [] }) i x ≡ incoming_ports (record { nodes = nodes; links = take k links }) i x
      incoming_not_last i x h =
          ap (map number) (filter-append (ends_at i x) (take k links) (get_or links k d ∷ [])) ∙ map-append number (filter (ends_at i x) (take k links)) (filter (ends_at i x) (get_or links k d ∷ [])) ∙ ap (λ b. map number (filter (ends_at i x) (take k links)) ++ map number (cond b (get_or links k d ∷ []) [])) h ∙ append-nil (map number (filter (ends_at i x) (take k links)))

      elsewhere : (j : ℕ) (t : Target) → slice_get (provisions nodes) j ≡ Some t → (j ≡ provision_number nodes (get_or links k d).to (get_or links k d).provide → ⊥) → ends_at t.node t.provide (get_or links k d) ≡ false
      elsewhere j t e ne = by (ends_at t.node t.provide (get_or links k d)) refl
        where
          by : (b : Bool) → ends_at t.node t.provide (get_or links k d) ≡ b → b ≡ false
          by false f = refl
          by true f =
              let there = and_parts (eqb (get_or links k d).to t.node) (eqb (get_or links k d).provide t.provide) f in
              absurd (ne (provision_number-place nodes j t e ∙ (λ x. provision_number nodes (sym (eqb-true (get_or links k d).to t.node there.0) x) (sym (eqb-true (get_or links k d).provide t.provide there.1) x))))

  -- the same of the lists that the table's elements stand for
  pub lists_more : {V : Type 0} (items : V → List ℕ) (table : List V) (q port : ℕ) (old new : V) → map items table ≡ incoming (record { nodes = nodes; links = take k links }) → q ≡ provision_number nodes (get_or links k d).to (get_or links k d).provide → port ≡ port_number nodes (get_or links k d).from (get_or links k d).require → old ≡ get_or table q old → items new ≡ items old ++ port ∷ [] → map items (set table q new) ≡ incoming (record { nodes = nodes; links = take (k + 1) links })
  lists_more items table q port old new table_is q_is port_is old_is new_is =
      let read : items old ≡ get_or (map items table) q (items old) = ap items old_is ∙ sym (get_or-map items table q old) in
      map-set items table q new ∙ ap (set (map items table) q) new_is ∙ incoming_more (map items table) q port (items old) table_is q_is port_is read

-- what a port is linked to is a provision of a node
pub target_within : (nodes : List Node) (links : List Link) (i r : ℕ) (t : Target) → All (IsLinkWithin nodes) links → target_of links i r ≡ Some t → t.provide < provides_at nodes t.node
target_within nodes links i r t within h = by (link_at links i r) refl h
  where
    by : (o : Option Link) → link_at links i r ≡ o → option_map (λ (l : Link). record { node = l.to; provide = l.provide }) o ≡ Some t → t.provide < provides_at nodes t.node
    by None e f = cc
    by (Some l) e f =
        let there = Contains-find (begins_at i r) links l e in
        let inside : IsLinkWithin nodes l = subst (IsLinkWithin nodes) there.2 (within there.0 l there.1) in
        let same : record { node = l.to; provide = l.provide } ≡ t = cc in
        subst (λ t. t.provide < provides_at nodes t.node) same inside.ends

pub IfSome-target : (nodes : List Node) (links : List Link) (i r : ℕ) (o : Option Target) → All (IsLinkWithin nodes) links → o ≡ target_of links i r → IfSome o (λ t. t.provide < provides_at nodes t.node)
IfSome-target nodes links i r None within h = tt
IfSome-target nodes links i r (Some t) within h = target_within nodes links i r t within (sym h)
