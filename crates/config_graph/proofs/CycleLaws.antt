-- Lemmas on the nodes to which nodes lead, on ways and on cycles.
use Rattle.std.proofs.Common.{◌≡◌, ◌<◌, ◌≤◌, ℕ, Bool, true, false, List, Option, Some, None, option_map, slice_get, length, IfSome, refl, sym, ◌∙◌, ap, arith}
use Rattle.std.specs.Prelude.{if◌then◌else◌}
use Rattle.std.proofs.Common.{eqb, ◌||◌, subst}
use Rattle.std.specs.Prelude.{All}
use Rattle.std.specs.Option.{option_map_or}
use Rattle.std.proofs.lemmas.Bool.{false≢true}
use Rattle.std.proofs.lemmas.Bool.Decides.{nat_tests}
use Rattle.config_graph.specs.Kinds.{row, depends_on, is_depended_on}
use Rattle.config_graph.specs.Graph.{Graph, IsLinkWithin, provides_at, provides_of, requires_at, requires_of, target_of}
use Rattle.config_graph.specs.Cycles.{OnCycle, IsLinked, depends_at, is_depended_at, leads_by, graph_wiring}
use Rattle.config_graph.specs.Walks.{onward, step}
use Rattle.config_graph.specs.Wiring.{MayCall, CallPath, HasNoCycle}
use Rattle.config_graph.specs.declared.kind.Kind.{Kind}
use Rattle.config_graph.specs.declared.kind.Kind.TheVariants.{Philosopher, Place, Fork, Source, Map, Buffer, Sink, Teller, Branch, Account, Asker, Adder}
use Rattle.config_graph.specs.declared.node.Node.{Node}
use Rattle.config_graph.specs.declared.node.Target.{Target}
use Rattle.config_graph.proofs.KindLaws.{depended_by_first, depended_if}
use Rattle.config_graph.proofs.LinkLaws.{target_within}
use Rattle.config_graph.proofs.NumberingLaws.{within_list}
use Rattle.base.proofs.OptionLaws.{ForSome-from_IfSome}

one_of_one : (r : ℕ) → ((eqb 0 r || false) || false) ≡ true → r < 1
one_of_one r h = grind (arith, nat_tests)

one_of_two : (r : ℕ) → ((eqb 0 r || (eqb 1 r || false)) || false) ≡ true → r < 2
one_of_two r h = grind (arith, nat_tests)

-- a requirement on which a provision depends is one of its kind's
depended_within : (k : Kind) (r : ℕ) → is_depended_on k r ≡ true → r < length (row k).requires_
depended_within Philosopher r h = absurd (false≢true h)
depended_within Place r h = one_of_two r h
depended_within Fork r h = absurd (false≢true h)
depended_within Source r h = absurd (false≢true h)
depended_within Map r h = one_of_one r h
depended_within Buffer r h = absurd (false≢true h)
depended_within Sink r h = absurd (false≢true h)
depended_within Teller r h = absurd (false≢true h)
depended_within Branch r h = one_of_two r h
depended_within Account r h = absurd (false≢true h)
depended_within Asker r h = absurd (false≢true h)
depended_within Adder r h = absurd (false≢true h)

depended_at_within : (nodes : List Node) (i r : ℕ) → is_depended_at nodes i r ≡ true → r < requires_at nodes i
depended_at_within nodes i r h = by (slice_get nodes i) refl h
  where
    by : (o : Option Node) → slice_get nodes i ≡ o → option_map_or (λ (n : Node). is_depended_on n.kind r) o false ≡ true → r < option_map_or requires_of o 0
    by None e f = absurd (false≢true f)
    by (Some n) e f = depended_within n.kind r f

-- what a node and its kind say of its port
pub depended_is : (nodes : List Node) (i r : ℕ) (n : Node) → slice_get nodes i ≡ Some n → is_depended_at nodes i r ≡ is_depended_on n.kind r
depended_is nodes i r n h = ap (λ o. option_map_or (λ (n : Node). is_depended_on n.kind r) o false) h

pub leads_by-depended : (g : Graph) (i r : ℕ) → is_depended_at g.nodes i r ≡ true → leads_by g i r ≡ option_map (λ (t : Target). t.node) (target_of g.links i r)
leads_by-depended g i r h =
    ap (λ b. if b then option_map (λ (t : Target). t.node) (target_of g.links i r) else None) h

pub leads_by-not : (g : Graph) (i r : ℕ) → is_depended_at g.nodes i r ≡ false → leads_by g i r ≡ None
leads_by-not g i r h =
    ap (λ b. if b then option_map (λ (t : Target). t.node) (target_of g.links i r) else None) h

-- where some provision depends on a port, the first does
depends_first : (nodes : List Node) (i r : ℕ) → is_depended_at nodes i r ≡ true → depends_at nodes i 0 r ≡ true
depends_first nodes i r h = by (slice_get nodes i) h
  where
    by : (o : Option Node) → option_map_or (λ (n : Node). is_depended_on n.kind r) o false ≡ true → option_map_or (λ (n : Node). depends_on n.kind 0 r) o false ≡ true
    by None h = absurd (false≢true h)
    by (Some n) h = sym (depended_by_first n.kind r) ∙ h

depended_by : (nodes : List Node) (i x r : ℕ) → depends_at nodes i x r ≡ true → is_depended_at nodes i r ≡ true
depended_by nodes i x r h = by (slice_get nodes i) h
  where
    by : (o : Option Node) → option_map_or (λ (n : Node). depends_on n.kind x r) o false ≡ true → option_map_or (λ (n : Node). is_depended_on n.kind r) o false ≡ true
    by None h = absurd (false≢true h)
    by (Some n) h = depended_if n.kind x r h

-- a node may call the nodes to which its ports lead
pub leads_by-MayCall : (g : Graph) (i r j : ℕ) → leads_by g i r ≡ Some j → MayCall (graph_wiring g) i j
leads_by-MayCall g i r j h = by (is_depended_at g.nodes i r) refl (target_of g.links i r) refl h
  where
    by : (b : Bool) → is_depended_at g.nodes i r ≡ b → (o : Option Target) → target_of g.links i r ≡ o → (if b then option_map (λ (t : Target). t.node) o else None) ≡ Some j → MayCall (graph_wiring g) i j
    by false e o f k = cc
    by true e None f k = cc
    by true e (Some t) f k =
        let here : t.node ≡ j = cc in
        record {
          port = record { node = i; require = r };
          serves = 0;
          provide = t.provide;
          depends = (refl, depends_first g.nodes i r e);
          linked = f ∙ (λ x. Some (record { node = here x; provide = t.provide }));
        }

depended : (g : Graph) (i j : ℕ) (h : MayCall (graph_wiring g) i j) → is_depended_at g.nodes i h.port.require ≡ true
depended g i j h = depended_by g.nodes i h.serves h.port.require h.depends.1

pub linked : (g : Graph) (i j : ℕ) (h : MayCall (graph_wiring g) i j) → IsLinked g i h.port.require j h.provide
linked g i j h = subst (λ k. IsLinked g k h.port.require j h.provide) h.depends.0 h.linked

pub MayCall-leads_by : (g : Graph) (i j : ℕ) (h : MayCall (graph_wiring g) i j) → leads_by g i h.port.require ≡ Some j
MayCall-leads_by g i j h =
    leads_by-depended g i h.port.require (depended g i j h) ∙ ap (option_map (λ (t : Target). t.node)) (linked g i j h)

pub MayCall-require : (g : Graph) (i j : ℕ) (h : MayCall (graph_wiring g) i j) → h.port.require < requires_at g.nodes i
MayCall-require g i j h = depended_at_within g.nodes i h.port.require (depended g i j h)

-- only nodes of the graph lead anywhere
pub MayCall-within : (g : Graph) (i j : ℕ) → MayCall (graph_wiring g) i j → i < length g.nodes
MayCall-within g i j h = within_list requires_of g.nodes i h.port.require (MayCall-require g i j h)

pub CallPath-within : (g : Graph) (i j : ℕ) → CallPath (graph_wiring g) i j → i < length g.nodes
CallPath-within g i j (step h) = MayCall-within g i j h
CallPath-within g i j (onward h rest) = MayCall-within g i _ h

-- the node of a target is within
pub IfSome-node : (nodes : List Node) (o : Option Target) → IfSome o (λ t. t.provide < provides_at nodes t.node) → IfSome (option_map (λ (t : Target). t.node) o) (λ j. j < length nodes)
IfSome-node nodes None h = tt
IfSome-node nodes (Some t) h = within_list provides_of nodes t.node t.provide h

pub MayCall-ends : (g : Graph) → All (IsLinkWithin g.nodes) g.links → (i j : ℕ) → MayCall (graph_wiring g) i j → j < length g.nodes
MayCall-ends g graph i j h =
    within_list provides_of g.nodes j h.provide (target_within g.nodes g.links i h.port.require (record { node = j; provide = h.provide }) graph (linked g i j h))

-- where no node of the graph is on a cycle, there is none
pub no_cycle : (g : Graph) → ((i : ℕ) → i < length g.nodes → ¬ OnCycle g i) → HasNoCycle (graph_wiring g)
no_cycle g h i way = h i (CallPath-within g i i way) way

IfSome-at : {A : Type 0} (o : Option A) (P : A → Type 0) (x : A) → IfSome o P → o ≡ Some x → P x
IfSome-at o P x h e = ForSome-from_IfSome o P P h (λ y p. p) x e

-- where each port leads only to nodes of a set, the node does
pub leads_only : (g : Graph) (i count : ℕ) (P : ℕ → Type 0) → requires_at g.nodes i ≤ count → ((r : ℕ) → r < count → IfSome (leads_by g i r) P) → (j : ℕ) → MayCall (graph_wiring g) i j → P j
leads_only g i count P all h j leads =
    let low = MayCall-require g i j leads in
    IfSome-at (leads_by g i leads.port.require) P j (h leads.port.require (omega arith)) (MayCall-leads_by g i j leads)

-- how many services the node at an index requires and provides
pub requires_is : (nodes : List Node) (i count : ℕ) (n : Node) → slice_get nodes i ≡ Some n → count ≡ requires_of n → count ≡ requires_at nodes i
requires_is nodes i count n at_i h = h ∙ sym (ap (λ o. option_map_or requires_of o 0) at_i)
