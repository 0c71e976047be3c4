-- What the list of the ports that are linked to a provision tells: which ports they are, and that their numbers rise.
use Rattle.std.proofs.Common.{◌≡◌, ◌⊎◌, ◌↔◌, ℕ, zero, suc, ◌+◌, ◌<◌, ◌≤◌, Bool, true, false, cond, ◌&&◌, eqb, List, [], ◌∷◌, length, get_or, map, Option, Some, None, slice_get, option_map, refl, sym, ◌∙◌, ap, subst, inl, inr, arith, filter, filter_map, Contains, add-one, zero-add}
use Rattle.std.specs.Prelude.{All}
use Rattle.std.specs.List.Sorted.{IsStrictlyIncreasing}
use Rattle.std.specs.List.{cons_option}
use Rattle.std.proofs.lemmas.Bool.{eq-eqb, eqb-true, false≢true, and_parts}
use Rattle.std.proofs.lemmas.List.Elements.{Contains-get_or, Contains-append_right}
use Rattle.config_graph.specs.Graph.{Graph, IsGraph, IsLinkWithin, OneLinkAPort, begins_at, ends_at, in_port_order, incoming_ports, link_at, port_number, ports, requires_at, target_of}
use Rattle.config_graph.specs.declared.node.Node.{Node}
use Rattle.config_graph.specs.declared.node.Port.{Port}
use Rattle.config_graph.specs.declared.node.Target.{Target}
use Rattle.config_graph.specs.declared.node.Link.{Link}
use Rattle.config_graph.proofs.LinkLaws.{begins_apart, begins_here, begins_there, get-ports, port_number-place}
use Rattle.std.proofs.lemmas.List.{length-map}
use Rattle.std.proofs.lemmas.List.Sums.{length-filter, count_by-le-length}
use Rattle.config_graph.proofs.NumberingLaws.{port_below}
use Rattle.config_graph.proofs.OrderLaws.{All-ordered, one_link-in_order}
use Rattle.base.proofs.ContainsLaws.{Contains-filter_map, Contains-here}
use Rattle.base.proofs.FindLaws.{Contains-find, find_passes, find_first}

-- an element of a list is its first or one of the rest
Contains-cases : {A : Type 0} (x y : A) (ys : List A) → Contains (y ∷ ys) x → (y ≡ x) ⊎ Contains ys x
Contains-cases x y ys (zero, low, is) = inl is
Contains-cases x y ys (suc k, low, is) = inr (k, omega arith, is)

-- the elements of a list that was filtered and mapped
in_map_filter : {A B : Type 0} (f : A → B) (p : A → Bool) (xs : List A) (b : B) → Contains (map f (filter p xs)) b → (a : A) × Contains xs a × (p a ≡ true) × (f a ≡ b)
in_map_filter f p [] b h = absurd (omega (arith, h.1))
in_map_filter {A = A} f p (x ∷ xs) b h = by (p x) refl (in_map_filter f p xs b) h
  where
    further : (a : A) × Contains xs a × (p a ≡ true) × (f a ≡ b) → (a : A) × Contains (x ∷ xs) a × (p a ≡ true) × (f a ≡ b)
    further r = (r.0, Contains-append_right (x ∷ []) xs r.0 r.1, r.2, r.3)

    by : (t : Bool) → p x ≡ t → (Contains (map f (filter p xs)) b → (a : A) × Contains xs a × (p a ≡ true) × (f a ≡ b)) → Contains (map f (cond t (x ∷ filter p xs) (filter p xs))) b → (a : A) × Contains (x ∷ xs) a × (p a ≡ true) × (f a ≡ b)
    by false e rest g = further (rest g)
    by true e rest g =
        elim (Contains-cases b (f x) (map f (filter p xs)) g) [
          | inl here ↦ (x, Contains-here x xs, e, here)
          | inr later ↦ further (rest later)
        ]

map_filter_in : {A B : Type 0} (f : A → B) (p : A → Bool) (xs : List A) (a : A) → Contains xs a → p a ≡ true → Contains (map f (filter p xs)) (f a)
map_filter_in f p [] a h passes = absurd (omega (arith, h.1))
map_filter_in f p (x ∷ xs) a h passes = by (p x) refl (λ g. map_filter_in f p xs a g passes) (Contains-cases a x xs h)
  where
    by : (t : Bool) → p x ≡ t → (Contains xs a → Contains (map f (filter p xs)) (f a)) → (x ≡ a) ⊎ Contains xs a → Contains (map f (cond t (x ∷ filter p xs) (filter p xs))) (f a)
    by true e rest (inl same) = subst (λ y. Contains (f x ∷ map f (filter p xs)) (f y)) same (Contains-here (f x) (map f (filter p xs)))
    by true e rest (inr later) = Contains-append_right (f x ∷ []) (map f (filter p xs)) (f a) (rest later)
    by false e rest (inl same) = absurd (false≢true (sym e ∙ ap p same ∙ passes))
    by false e rest (inr later) = rest later

-- where no two links begin at one port, a link is its port's
pub link_at-own : (links : List Link) (l : Link) → OneLinkAPort links → Contains links l → link_at links l.from l.require ≡ Some l
link_at-own links l one there =
    let k = there.0 in
    let here : begins_at l.from l.require (get_or links k l) ≡ true = begins_here l.from l.require (get_or links k l) (ap (λ m. m.from) there.2) (ap (λ m. m.require) there.2) in
    let before : (j : ℕ) → j < k → begins_at l.from l.require (get_or links j l) ≡ false =
    λ j low. (λ i. begins_at (sym there.2 i).from (sym there.2 i).require (get_or links j l)) ∙ begins_apart (get_or links j l) (get_or links k l) (one j k l low there.1) in
    find_first (begins_at l.from l.require) links k l there.1 here before ∙ ap Some there.2

-- where a link ends
abbrev aim : Link → Target
aim l = record { node = l.to; provide = l.provide }

module _ (g : Graph) (graph : IsGraph g) where
  within_of : (l : Link) → Contains g.links l → IsLinkWithin g.nodes l
  within_of l there = subst (IsLinkWithin g.nodes) there.2 (graph.within there.0 l there.1)

  -- ports of one number are one port
  same_port : (i r j s : ℕ) → r < requires_at g.nodes i → s < requires_at g.nodes j → port_number g.nodes i r ≡ port_number g.nodes j s → (i ≡ j) × (r ≡ s)
  same_port i r j s r_low s_low e =
      let at_i = get-ports g.nodes i r r_low in
      let at_j = get-ports g.nodes j s s_low in
      let same : Some (record { node = i; require = r }) ≡ Some (record { node = j; require = s }) = sym at_i ∙ ap (slice_get (ports g.nodes)) e ∙ at_j in
      let port : record { node = i; require = r } ≡ record { node = j; require = s } = cc in
      (ap (λ (p : Port). p.node) port, ap (λ (p : Port). p.require) port)

  abbrev number : Link → ℕ
  number l = port_number g.nodes l.from l.require

  -- a port's number is in the list exactly where the port is linked to the provision
  pub incoming-linked : (n x i r : ℕ) → r < requires_at g.nodes i → Contains (incoming_ports g n x) (port_number g.nodes i r) ↔ (target_of g.links i r ≡ Some (record { node = n; provide = x }))
  incoming-linked n x i r low = (to, from (link_at g.links i r) refl)
    where
      to : Contains (incoming_ports g n x) (port_number g.nodes i r) → target_of g.links i r ≡ Some (record { node = n; provide = x })
      to h =
          let m = in_map_filter number (ends_at n x) g.links (port_number g.nodes i r) h in
          let l = m.0 in
          let place = same_port l.from l.require i r (within_of l m.1).begins low m.3 in
          let found : link_at g.links i r ≡ Some l = (λ j. link_at g.links (sym place.0 j) (sym place.1 j)) ∙ link_at-own g.links l (one_link-in_order g graph) m.1 in
          let ends = and_parts (eqb l.to n) (eqb l.provide x) m.2 in
          ap (option_map aim) found ∙ (λ j. Some (record { node = eqb-true l.to n ends.0 j; provide = eqb-true l.provide x ends.1 j }))

      from : (o : Option Link) → link_at g.links i r ≡ o → option_map aim o ≡ Some (record { node = n; provide = x }) → Contains (incoming_ports g n x) (port_number g.nodes i r)
      from None e h = cc
      from (Some l) e h =
          let place = begins_there i r l (find_passes (begins_at i r) g.links l e) in
          let target : record { node = l.to; provide = l.provide } ≡ record { node = n; provide = x } = cc in
          let ends : ends_at n x l ≡ true =
          ap (λ b. b && eqb l.provide x) (eq-eqb l.to n (ap (λ (t : Target). t.node) target)) ∙ eq-eqb l.provide x (ap (λ (t : Target). t.provide) target) in
          subst (Contains (incoming_ports g n x)) (λ j. port_number g.nodes (place.0 j) (place.1 j)) (map_filter_in number (ends_at n x) g.links l (Contains-find (begins_at i r) g.links l e) ends)

-- the list has numbers of ports
pub incoming-within : (g : Graph) → IsGraph g → (n x : ℕ) → All (λ q. q < length (ports g.nodes)) (incoming_ports g n x)
incoming-within g graph n x k d low =
    let num : Link → ℕ = λ l. port_number g.nodes l.from l.require in
    let m = in_map_filter num (ends_at n x) g.links (get_or (incoming_ports g n x) k d) (Contains-get_or (incoming_ports g n x) k d low) in
    let l = m.0 in
    rw (← m.3) (port_below g.nodes l.from l.require (within_of g graph l m.1).begins)

-- the list is no longer than that of all links
pub incoming-length : (g : Graph) (n x : ℕ) → length (incoming_ports g n x) ≤ length g.links
incoming-length g n x =
    let num : Link → ℕ = λ l. port_number g.nodes l.from l.require in
    rw (length-map, length-filter) (count_by-le-length (ends_at n x) g.links)

-- each number of the list is at least k and above the one before it
RisesFrom : ℕ → List ℕ → Type 0
RisesFrom k [] = Unit {0}
RisesFrom k (x ∷ xs) = (k ≤ x) × RisesFrom (x + 1) xs

RisesFrom-above : (j k : ℕ) (xs : List ℕ) → j ≤ k → RisesFrom k xs → RisesFrom j xs
unfolding RisesFrom
RisesFrom-above j k [] h r = tt
RisesFrom-above j k (x ∷ xs) h r = (omega (arith, r.0), r.1)

RisesFrom-increasing : (k : ℕ) (xs : List ℕ) → RisesFrom k xs → IsStrictlyIncreasing xs
unfolding RisesFrom
RisesFrom-increasing k [] r = λ i h. absurd (omega arith)
RisesFrom-increasing k (x ∷ []) r = λ i h. absurd (omega arith)
RisesFrom-increasing k (x ∷ y ∷ ys) r = at (RisesFrom-increasing (x + 1) (y ∷ ys) r.1)
  where
    at : IsStrictlyIncreasing (y ∷ ys) → (i : ℕ) → i + 1 < suc (suc (length ys)) → get_or (x ∷ y ∷ ys) i 0 < get_or (x ∷ y ∷ ys) (i + 1) 0
    at rest zero h = omega (arith, r.1.0)
    at rest (suc i) h = let low : i + 1 < suc (length ys) = omega arith in
        let above = rw (add-one i) at (rest i low) in
        rw (add-one (suc i)) above

-- the numbers of the links of ports that are numbered in a row
rises : (f : Port → Option Link) (num : Link → ℕ) (p : Link → Bool) (ps : List Port) (k : ℕ) → ((q : ℕ) (a : Port) (l : Link) → slice_get ps q ≡ Some a → f a ≡ Some l → num l ≡ k + q) → RisesFrom k (map num (filter p (filter_map f ps)))
unfolding RisesFrom
rises f num p [] k h = tt
rises f num p (a ∷ ps) k h =
    by (f a) refl (rises f num p ps (k + 1) (λ q b l e g. let n = h (suc q) b l e g in omega (arith, n)))
  where
    by : (o : Option Link) → f a ≡ o → RisesFrom (k + 1) (map num (filter p (filter_map f ps))) → RisesFrom k (map num (filter p (cons_option o (filter_map f ps))))
    by None e rest = RisesFrom-above k (k + 1) (map num (filter p (filter_map f ps))) (omega arith) rest
    by (Some l) e rest = at (p l)
      where
        at : (t : Bool) → RisesFrom k (map num (cond t (l ∷ filter p (filter_map f ps)) (filter p (filter_map f ps))))
        at false = RisesFrom-above k (k + 1) (map num (filter p (filter_map f ps))) (omega arith) rest
        at true =
            let here : num l ≡ k + 0 = h 0 a l refl e in
            (omega (arith, here), RisesFrom-above (num l + 1) (k + 1) (map num (filter p (filter_map f ps))) (omega (arith, here)) rest)

-- the list rises
pub incoming-rising : (g : Graph) → IsGraph g → (n x : ℕ) → IsStrictlyIncreasing (incoming_ports g n x)
incoming-rising g graph n x =
    let num : Link → ℕ = λ l. port_number g.nodes l.from l.require in
    let f : Port → Option Link = λ p. link_at g.links p.node p.require in
    let placed : (q : ℕ) (a : Port) (l : Link) → slice_get (ports g.nodes) q ≡ Some a → f a ≡ Some l → num l ≡ 0 + q =
    λ q a l e h.
    let there = begins_there a.node a.require l (find_passes (begins_at a.node a.require) g.links l h) in
    let at = port_number-place g.nodes q a e in
    (λ j. port_number g.nodes (there.0 j) (there.1 j)) ∙ sym at ∙ sym (zero-add q) in
    subst (λ ls. IsStrictlyIncreasing (map num (filter (ends_at n x) ls))) graph.in_order (RisesFrom-increasing 0 (map num (filter (ends_at n x) (in_port_order g.nodes g.links))) (rises f num (ends_at n x) (ports g.nodes) 0 placed))

-- the links in order are the links
pub Contains-in_order : (nodes : List Node) (links : List Link) → All (IsLinkWithin nodes) links → OneLinkAPort links → (l : Link) → Contains (in_port_order nodes links) l ↔ Contains links l
Contains-in_order nodes links within one l = (to, from)
  where
    to : Contains (in_port_order nodes links) l → Contains links l
    to h =
        let all = All-ordered links (Contains links) (λ k d low. Contains-get_or links k d low) (ports nodes) in
        subst (Contains links) h.2 (all h.0 l h.1)

    from : Contains links l → Contains (in_port_order nodes links) l
    from h =
        let inside : IsLinkWithin nodes l = subst (IsLinkWithin nodes) h.2 (within h.0 l h.1) in
        Contains-filter_map (λ p. link_at links p.node p.require) (ports nodes) (port_number nodes l.from l.require) (record { node = l.from; require = l.require }) l (get-ports nodes l.from l.require inside.begins) (link_at-own links l one h)
