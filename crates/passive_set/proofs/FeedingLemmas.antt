-- Lemmas on the ports that feed others: that they are those that reach, and how they are found one after another.
use Rattle.std.proofs.Common.{◌≡◌, ◌⊎◌, ◌↔◌, ℕ, ◌+◌, ◌<◌, ◌≤◌, Bool, true, false, IsTrue, List, [], ◌++◌, length, set, take, get_or, Option, Some, None, slice_get, option_map, refl, sym, ◌∙◌, ap, subst, inl, inr, arith, Contains, All, Global, Vec, append_assoc, append-nil}
use Rattle.std.specs.Option.{option_map_or}
use Rattle.std.proofs.Math.Logic.{⊎_elim, ⊎_map}
use Rattle.std.proofs.lemmas.Bool.{cases_eq, cases_lt, false≢true}
use Rattle.std.proofs.lemmas.List.{get_or_append_left}
use Rattle.std.proofs.lemmas.List.Elements.{All-append, All-contains, All-same, All-weaker, Contains-append_left, Contains-get_or}
use Rattle.std.proofs.lemmas.Option.{get_or_from_slice_get, none-some, slice_get_within, slice_get-get_or}
use Rattle.config_graph.specs.Cycles.{IsLinked, depends_at, graph_wiring}
use Rattle.config_graph.specs.Graph.{Graph, IsGraph, IsLinkWithin, begins_at, incoming_ports, link_at, port_number, ports, provides_at, requires_at}
use Rattle.config_graph.specs.Kinds.{depends_on}
use Rattle.config_graph.specs.Wiring.{Reach, direct, through}
use Rattle.config_graph.specs.declared.node.Link.{Link}
use Rattle.config_graph.specs.declared.node.Node.{Node}
use Rattle.config_graph.specs.declared.node.Port.{Port}
use Rattle.config_graph.specs.declared.node.Target.{Target}
use Rattle.config_graph.proofs.IncomingLaws.{incoming-linked}
use Rattle.config_graph.proofs.LinkLaws.{begins_there, get-ports, port_number-place, require_within, target_within}
use Rattle.passive_set.specs.DirectSet.{IsLinkedTo}
use Rattle.passive_set.specs.Feeding.{Closure, Feeds, FeedsMarked, FeedsNode, FeedsPort, Owns, SomeBelow}
use Rattle.passive_set.specs.Feeding.Closure.{first, onward}
use Rattle.config_graph.specs.Marks.{IsMarked}
use Rattle.passive_set.specs.Ports.{Adds}
use Rattle.config_graph.proofs.MarkLaws.{marked_more, marked_within}
use Rattle.passive_set.proofs.MarkLemmas.{and_then, as_it_is, back, either, or_never}
use Rattle.passive_set.proofs.PortLemmas.{Adds-has, Adds-more, Adds-same}
use Rattle.base.proofs.FindLaws.{Contains-find, find_passes}
use Rattle.base.proofs.ContainsLaws.{Contains_more}

-- one number more
pub SomeBelow_more : (P : ℕ → Type 0) (n : ℕ) → SomeBelow (n + 1) P ↔ (SomeBelow n P ⊎ P n)
SomeBelow_more P n = (to, from)
  where
    to : SomeBelow (n + 1) P → SomeBelow n P ⊎ P n
    to h =
        elim (cases_eq h.0 n) [
          | inl same ↦ inr (subst P same h.2)
          | inr apart ↦ inl (h.0, omega (arith, h.1, apart), h.2)
        ]

    from : SomeBelow n P ⊎ P n → SomeBelow (n + 1) P
    from (inl h) = (h.0, omega (arith, h.1), h.2)
    from (inr h) = (n, omega arith, h)

module _ (g : Graph) (graph : IsGraph g) where
  -- a link begins at a requirement of a node
  linked_begins : (i r n x : ℕ) → IsLinked g i r n x → r < requires_at g.nodes i
  linked_begins i r n x h = by (link_at g.links i r) refl h
    where
      by : (o : Option Link) → link_at g.links i r ≡ o → option_map {U = Target} (λ l. record { node = l.to; provide = l.provide }) o ≡ Some (record { node = n; provide = x }) → r < requires_at g.nodes i
      by None e f = cc
      by (Some l) e f =
          let there = Contains-find (begins_at i r) g.links l e in
          let inside : IsLinkWithin g.nodes l = All-contains (IsLinkWithin g.nodes) g.links l graph.within there in
          let at = begins_there i r l (find_passes (begins_at i r) g.links l e) in
          subst (λ (p : ℕ × ℕ). p.1 < requires_at g.nodes p.0) (λ j. (at.0 j, at.1 j)) inside.begins

  linked_ends : (i r n x : ℕ) → IsLinked g i r n x → x < provides_at g.nodes n
  linked_ends i r n x h = target_within g.nodes g.links i r (record { node = n; provide = x }) graph.within h

  -- the port of a number is linked where the number is listed
  listed_linked : (n x p i r : ℕ) → slice_get (ports g.nodes) p ≡ Some (record { node = i; require = r }) → Contains (incoming_ports g n x) p → IsLinked g i r n x
  listed_linked n x p i r at h =
      let port : Port = record { node = i; require = r } in
      let number : p ≡ port_number g.nodes i r = port_number-place g.nodes p port at in
      (incoming-linked g graph n x i r (require_within g.nodes p port at)).0 (subst (Contains (incoming_ports g n x)) number h)

  linked_listed : (n x i r : ℕ) → IsLinked g i r n x → Contains (incoming_ports g n x) (port_number g.nodes i r)
  linked_listed n x i r h = (incoming-linked g graph n x i r (linked_begins i r n x h)).1 h

  module _ (marks : List Bool) (marks_are : length marks ≡ length g.nodes) (set : ℕ → Type 0) (marked : (n : ℕ) → IsMarked marks n ↔ set n) (ps : List ℕ) where
    -- the ports that are linked to marked nodes, by number
    abbrev HasLinked : Type 0
    HasLinked = (p : ℕ) → Contains ps p ↔ FeedsMarked g marks (length marks) p

    listed_from : HasLinked → (p i r : ℕ) → slice_get (ports g.nodes) p ≡ Some (record { node = i; require = r }) → Contains ps p → (n : ℕ) × (x : ℕ) × set n × IsLinked g i r n x
    listed_from ports_are p i r at h =
        let f = (ports_are p).0 h in
        let n = f.0 in
        (n, f.2.1.0, (marked n).0 f.2.0, listed_linked n f.2.1.0 p i r at f.2.1.2)

    listed_to : HasLinked → (i r n x : ℕ) → set n → IsLinked g i r n x → Contains ps (port_number g.nodes i r)
    listed_to ports_are i r n x member h =
        let m = (marked n).1 member in
        (ports_are (port_number g.nodes i r)).1 (n, marked_within marks n m, (m, (x, linked_ends i r n x h, linked_listed n x i r h)))

    -- the owners of the ports that are linked to members
    pub Owns-linked : HasLinked → (i : ℕ) → Owns g ps i ↔ ((n : ℕ) × set n × IsLinkedTo g i n)
    Owns-linked ports_are i = (to, from)
      where
        to : Owns g ps i → (n : ℕ) × set n × IsLinkedTo g i n
        to o =
            let l = listed_from ports_are o.number i o.require o.at o.there in
            (l.0, l.2, (o.require, l.1, l.3))

        from : (n : ℕ) × set n × IsLinkedTo g i n → Owns g ps i
        from h =
            let r = h.2.0 in
            let linked : IsLinked g i r h.0 h.2.1 = h.2.2 in
            record {
              number = port_number g.nodes i r;
              require = r;
              there = listed_to ports_are i r h.0 h.2.1 h.1 linked;
              at = get-ports g.nodes i r (linked_begins i r h.0 h.2.1 linked);
            }

    -- a port of the closure reaches a member
    closure_reaches : HasLinked → (p : ℕ) → Closure g ps p → (q : Port) → slice_get (ports g.nodes) p ≡ Some q → (n : ℕ) × set n × Reach (graph_wiring g) n q
    closure_reaches ports_are p (first h) q at =
        let l = listed_from ports_are p q.node q.require at h in
        (l.0, l.2, direct l.3)
    closure_reaches ports_are p (onward {p = before} closed feeds) q at =
        let port = feeds.port in
        let earlier = closure_reaches ports_are before closed port feeds.at in
        let x = feeds.feeds.0 in
        let linked = listed_linked port.node x p q.node q.require at feeds.feeds.2.1 in
        (earlier.0, earlier.1, through earlier.2 (refl, feeds.feeds.2.0) linked)

    -- a port that reaches a node is one
    reach_begins : (n : ℕ) (q : Port) → Reach (graph_wiring g) n q → q.require < requires_at g.nodes q.node
    reach_begins n _ (direct {p} {x} h) = linked_begins p.node p.require n x h
    reach_begins n _ (through {q} {m} {x} before d h) = linked_begins q.node q.require m x h

    abbrev number_of : Port → ℕ
    number_of q = port_number g.nodes q.node q.require

    -- a port that reaches a member is in the closure
    reach_closed : HasLinked → (n : ℕ) (q : Port) → set n → Reach (graph_wiring g) n q → Closure g ps (number_of q)
    reach_closed ports_are n _ member (direct {p} {x} h) = first (listed_to ports_are p.node p.require n x member h)
    reach_closed ports_are n _ member (through {p} {q} {m} {x} before d h) =
        onward (reach_closed ports_are n p member before) (record {
          port = p;
          at = get-ports g.nodes p.node p.require (reach_begins n p before);
          feeds =
              let here : IsLinked g q.node q.require p.node x = subst (λ k. IsLinked g q.node q.require k x) (sym d.0) h in
              (x, linked_ends q.node q.require p.node x here, (subst (λ k. IsTrue (depends_at g.nodes k x p.require)) (sym d.0) d.1, linked_listed p.node x q.node q.require here));
        })

    -- the owners of the ports that reach members
    pub Owns-reach : HasLinked → (all : List ℕ) → ((p : ℕ) → Contains all p ↔ Closure g ps p) → (i : ℕ) → Owns g all i ↔ ((n : ℕ) × (r : ℕ) × set n × Reach (graph_wiring g) n (record { node = i; require = r }))
    Owns-reach ports_are all closed i = (to, from)
      where
        to : Owns g all i → (n : ℕ) × (r : ℕ) × set n × Reach (graph_wiring g) n (record { node = i; require = r })
        to o =
            let reaches = closure_reaches ports_are o.number ((closed o.number).0 o.there) (record { node = i; require = o.require }) o.at in
            (reaches.0, o.require, reaches.1, reaches.2)

        from : (n : ℕ) × (r : ℕ) × set n × Reach (graph_wiring g) n (record { node = i; require = r }) → Owns g all i
        from h =
            let q : Port = record { node = i; require = h.1 } in
            let reach : Reach (graph_wiring g) h.0 q = h.3 in
            record {
              number = number_of q;
              require = h.1;
              there = (closed (number_of q)).1 (reach_closed ports_are h.0 q h.2 reach);
              at = get-ports g.nodes i h.1 (reach_begins h.0 q reach);
            }

-- the owners of the ports as far as one place more
pub Owns_more : (g : Graph) (ps : List ℕ) (k p d : ℕ) (port : Port) → k < length ps → p ≡ get_or ps k d → slice_get (ports g.nodes) p ≡ Some port → (i : ℕ) → Owns g (take (k + 1) ps) i ↔ (Owns g (take k ps) i ⊎ (port.node ≡ i))
Owns_more g ps k p d port low p_is at i = (to, from)
  where
    to : Owns g (take (k + 1) ps) i → Owns g (take k ps) i ⊎ (port.node ≡ i)
    to o =
        elim ((Contains_more ps k d low o.number).0 o.there) [
          | inl early ↦ inl (record { number = o.number; require = o.require; there = early; at = o.at })
          | inr here ↦
              let same : Some port ≡ Some (record { node = i; require = o.require }) = sym at ∙ ap (slice_get (ports g.nodes)) (p_is ∙ here) ∙ o.at in
              let port_is : port ≡ record { node = i; require = o.require } = cc in
              inr (ap (λ (x : Port). x.node) port_is)
        ]

    from : Owns g (take k ps) i ⊎ (port.node ≡ i) → Owns g (take (k + 1) ps) i
    from (inl o) = record {
      number = o.number;
      require = o.require;
      there = (Contains_more ps k d low o.number).1 (inl o.there);
      at = o.at;
    }
    from (inr same) = record {
      number = p;
      require = port.require;
      there = (Contains_more ps k d low p).1 (inr (sym p_is));
      at = at ∙ (λ j. Some (record { node = same j; require = port.require }));
    }

-- how far a closure has come: its first ports are done, and all that feed these are there
pub record SoFar (g : Graph) (start now : List ℕ) (next : ℕ) : Type 0 where
  pub later : List ℕ
  pub is : now ≡ start ++ later
  pub sound : All (Closure g start) now
  pub closed : (k d q : ℕ) → k < next → k < length now → Feeds g (get_or now k d) q → Contains now q

pub SoFar-start : (g : Graph) (start : List ℕ) → SoFar g start start 0
SoFar-start g start = record {
  later = [];
  is = sym (append-nil start);
  sound = λ k d low. first (Contains-get_or start k d low);
  closed = λ k d q none. absurd (omega arith);
}

-- one port more is done
pub SoFar_more : (g : Graph) (start now new : List ℕ) (next p : ℕ) → SoFar g start now next → slice_get now next ≡ Some p → Adds now new (Feeds g p) → SoFar g start new (next + 1)
SoFar_more g start now new next p so_far at adds = record {
  later = so_far.later ++ adds.later;
  is = adds.is ∙ ap (λ l. l ++ adds.later) so_far.is ∙ append_assoc start so_far.later adds.later;
  sound = sound;
  closed = closed;
}
  where
    low : next < length now
    low = slice_get_within now next p at

    reached : Closure g start p
    reached = subst (Closure g start) (get_or_from_slice_get now next p p at) (so_far.sound next p low)

    sound : All (Closure g start) new
    sound = All-same (Closure g start) new (now ++ adds.later) adds.is (All-append (Closure g start) now adds.later so_far.sound (All-weaker (Feeds g p) (Closure g start) (λ q feeds. onward reached feeds) adds.later adds.allowed))

    front : (k d : ℕ) → k < length now → get_or new k d ≡ get_or now k d
    front k d k_low = ap (λ l. get_or l k d) adds.is ∙ get_or_append_left now adds.later d k k_low

    closed : (k d q : ℕ) → k < next + 1 → k < length new → Feeds g (get_or new k d) q → Contains new q
    closed k d q below within feeds =
        elim (cases_lt k next) [
          | inl early ↦
              let earlier : k < length now = omega (arith, low) in
              let there = so_far.closed k d q early earlier (subst (λ p. Feeds g p q) (front k d earlier) feeds) in
              (Adds-has now new (Feeds g p) adds q).1 (inl there)
          | inr late ↦
              let same : k ≡ next = omega arith in
              let here : get_or new k d ≡ p = ap (λ j. get_or new j d) same ∙ front next d low ∙ get_or_from_slice_get now next p d at in
              adds.complete q (subst (λ p. Feeds g p q) here feeds)
        ]

-- when all are done the list is the closure
pub SoFar-done : (g : Graph) (start now : List ℕ) (next : ℕ) → SoFar g start now next → slice_get now next ≡ None → (p : ℕ) → Contains now p ↔ Closure g start p
SoFar-done g start now next so_far none p = (to, from p)
  where
    to : Contains now p → Closure g start p
    to h = All-contains (Closure g start) now p so_far.sound h

    all : length now ≤ next
    all =
        elim (cases_lt next (length now)) [
          | inl low ↦ absurd (none-some (get_or now next 0) (sym none ∙ slice_get-get_or now next 0 low))
          | inr high ↦ high
        ]

    from : (p : ℕ) → Closure g start p → Contains now p
    from p (first h) = subst (λ l. Contains l p) (sym so_far.is) (Contains-append_left start so_far.later p h)
    from q (onward {p} before feeds) =
        let there = from p before in
        so_far.closed there.0 p q (omega (arith, there.1, all)) there.1 (subst (λ p. Feeds g p q) (sym there.2) feeds)

module _ (g : Graph) (n r x : ℕ) where
  -- one provision more, which depends on the requirement
  pub FeedsPort_yes : (old mid new : List ℕ) → IsTrue (depends_at g.nodes n x r) → Adds old mid (FeedsPort g n r x) → Adds mid new (Contains (incoming_ports g n x)) → Adds old new (FeedsPort g n r (x + 1))
  FeedsPort_yes old mid new depends so_far adds =
      let one : ℕ → ℕ → Type 0 = λ p y. IsTrue (depends_at g.nodes n y r) × Contains (incoming_ports g n y) p in
      let now = Adds-same mid new (Contains (incoming_ports g n x)) (λ p. one p x) (λ p. (λ h. (depends, h), λ h. h.1)) adds in
      Adds-more old mid new (FeedsPort g n r x) (λ p. one p x) (FeedsPort g n r (x + 1)) so_far now (λ p. SomeBelow_more (one p) x)

  -- one provision more, which doesn't
  pub FeedsPort_no : (old mid : List ℕ) → depends_at g.nodes n x r ≡ false → Adds old mid (FeedsPort g n r x) → Adds old mid (FeedsPort g n r (x + 1))
  FeedsPort_no old mid not_there so_far =
      let one : ℕ → ℕ → Type 0 = λ p y. IsTrue (depends_at g.nodes n y r) × Contains (incoming_ports g n y) p in
      let never : (p : ℕ) → ¬ one p x = λ p h. false≢true (sym not_there ∙ h.0) in
      Adds-same old mid (FeedsPort g n r x) (FeedsPort g n r (x + 1)) (λ p. and_then (or_never (never p)) (back (SomeBelow_more (one p) x))) so_far

-- what feeds a port is linked to a provision that depends on it
pub Feeds-port : (g : Graph) (p : ℕ) (port : Port) → slice_get (ports g.nodes) p ≡ Some port → (q : ℕ) → FeedsPort g port.node port.require (provides_at g.nodes port.node) q ↔ Feeds g p q
Feeds-port g p port at q = (to, from)
  where
    to : FeedsPort g port.node port.require (provides_at g.nodes port.node) q → Feeds g p q
    to h = record { port = port; at = at; feeds = h }

    from : Feeds g p q → FeedsPort g port.node port.require (provides_at g.nodes port.node) q
    from h =
        let both : Some h.port ≡ Some port = sym h.at ∙ at in
        let same : h.port ≡ port = cc in
        subst (λ (o : Port). FeedsPort g o.node o.require (provides_at g.nodes o.node) q) same h.feeds

module _ (g : Graph) (marks : List Bool) (n : ℕ) (mid : List ℕ) (so_far : (p : ℕ) → Contains mid p ↔ FeedsMarked g marks n p) where
  abbrev here : ℕ → Type 0
  here p = IsMarked marks n × FeedsNode g n (provides_at g.nodes n) p

  more_marked : (p : ℕ) → FeedsMarked g marks (n + 1) p ↔ (FeedsMarked g marks n p ⊎ here p)
  more_marked p = SomeBelow_more (λ m. IsMarked marks m × FeedsNode g m (provides_at g.nodes m) p) n

  -- one node more, which is marked
  pub FeedsMarked_yes : (new : List ℕ) → IsMarked marks n → Adds mid new (FeedsNode g n (provides_at g.nodes n)) → (p : ℕ) → Contains new p ↔ FeedsMarked g marks (n + 1) p
  FeedsMarked_yes new mark adds p =
      and_then (Adds-has mid new (FeedsNode g n (provides_at g.nodes n)) adds p) (and_then (either (so_far p) (λ h. (mark, h), λ h. h.1)) (back (more_marked p)))

  -- one node more, which isn't
  pub FeedsMarked_no : get_or marks n false ≡ false → (p : ℕ) → Contains mid p ↔ FeedsMarked g marks (n + 1) p
  FeedsMarked_no unset p =
      and_then (so_far p) (and_then (or_never (λ h. false≢true (sym unset ∙ h.0))) (back (more_marked p)))

-- the marks after the owner of one port more is marked
pub owners_more : (g : Graph) (start marks : List Bool) (ps : List ℕ) (k p d : ℕ) (port : Port) → k < length ps → p ≡ get_or ps k d → slice_get (ports g.nodes) p ≡ Some port → port.node < length marks → ((i : ℕ) → IsMarked marks i ↔ (IsMarked start i ⊎ Owns g (take k ps) i)) → (i : ℕ) → IsMarked (set marks port.node true) i ↔ (IsMarked start i ⊎ Owns g (take (k + 1) ps) i)
owners_more g start marks ps k p d port low p_is at within so_far i =
    and_then (marked_more marks port.node within i) (and_then (either (so_far i) as_it_is) (and_then grouped (either as_it_is (back (Owns_more g ps k p d port low p_is at i)))))
  where
    grouped : {A B C : Type 0} → ((A ⊎ B) ⊎ C) ↔ (A ⊎ (B ⊎ C))
    grouped = (⊎_elim (⊎_map (λ a. a) (λ b. inl b)) (λ c. inr (inr c)), ⊎_elim (λ a. inl (inl a)) (⊎_map (λ b. inr b) (λ c. c)))

-- the nodes whose marks are set at the end
pub members_are : (g : Graph) (members marked all : List ℕ) (start marks : List Bool) (P : ℕ → Type 0) → ((i : ℕ) → IsMarked start i ↔ Contains members i) → ((i : ℕ) → Owns g all i ↔ P i) → ((i : ℕ) → IsMarked marks i ↔ (IsMarked start i ⊎ Owns g all i)) → ((i : ℕ) → Contains marked i ↔ IsMarked marks i) → (i : ℕ) → Contains marked i ↔ (Contains members i ⊎ P i)
members_are g members marked all start marks P first_ owned then listed i =
    and_then (listed i) (and_then (then i) (either (first_ i) (owned i)))

-- a list has the nodes whose marks are set
abbrev pub Listed : List Bool → Vec ℕ Global → Type 0
Listed marks set = (i : ℕ) → Contains set.items i ↔ IsMarked marks i

-- what a node's kind answers of its provisions
pub depends_read : (nodes : List Node) (i x r : ℕ) (n : Node) (b : Bool) → slice_get nodes i ≡ Some n → b ≡ depends_on n.kind x r → depends_at nodes i x r ≡ b
depends_read nodes i x r n b at b_is = ap (λ o. option_map_or (λ (m : Node). depends_on m.kind x r) o false) at ∙ sym b_is
