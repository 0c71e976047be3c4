-- The definitions on worked rows: each is what the language says, and holds as the definitions compute. Paths with an
-- index don't compute here, as std's decimal digits don't.
use Rattle.std.proofs.Common.{◌≡◌, ◌≢◌, ◌∙◌, ◌⊎◌, inl, inr, ℕ, zero, suc, pos, List, [], ◌∷◌, Some, None, codes, refl, sym, ap, subst, map, get_or, arith}
use Rattle.std.specs.List.{Contains, slice_get}
use Rattle.std.proofs.lemmas.Option.{none-some, same_Some}
use Rattle.config_graph.specs.declared.kind.Kind.TheVariants.{Source, Sink}
use Rattle.config_graph.specs.declared.node.Link.{Link}
use Rattle.config_graph.specs.declared.node.Node.{Node}
use Rattle.config_graph.specs.Kinds.{row}
use Rattle.darwin_lexer.specs.declared.token.At.{At}
use Rattle.darwin_parser.specs.declared.tree.Side.{Side}
use Rattle.darwin_parser.specs.declared.tree.Side.TheVariants.{Provide, Require}
use Rattle.darwin_parser.specs.Tree.{Name, Expr, num, single, inst, bind, end, then, Component, Stmt, Stmts, PortDecl, PortRef, Tree}
use Rattle.darwin_walk.specs.Instance.{End}
use Rattle.elaborator.proofs.UniqueLaws.{elab_by_list}
use Rattle.elaborator.specs.Paths.{Path}
use Rattle.elaborator.specs.Instances.{Instance, Inst, made_in, levels, instances, total, top_instance}
use Rattle.elaborator.specs.Instances.Inst.{at_top, below}
use Rattle.elaborator.specs.Bindings.{Pair, Port, BoundThrough, pairs_in}
use Rattle.elaborator.specs.Bindings.Bound.{bound}
use Rattle.elaborator.specs.Bindings.BoundThrough.{at_once, through}
use Rattle.elaborator.specs.Graph.{IsLink, IsNode, node_of}
use Rattle.elaborator.specs.Faults.{Faults}
use Rattle.elaborator.specs.Faults.Faults.{bound_twice}
use Rattle.elaborator.specs.Elaboration.{ElaboratesTo}
use Rattle.elaborator.specs.declared.error.ElabError.TheVariants as error
use Rattle.elaborator.proofs.InstanceLaws.{instances-listed}
use Rattle.base.proofs.ContainsLaws.{Contains-cons_cases, Contains-here, Contains-nil, Contains-one}

-- every place is this one
here : At
here = record { line = 1; column = 1 }

abbrev port : Side → Name → PortDecl
port side name = record { side = side; name = name; size = None; note = None; at = here }

abbrev component : Name → List Name → List PortDecl → Stmts → Component
component name params ports body =
    record { name = name; at = here; params = params; ports = ports; arrays = []; body = body }

abbrev single_entry : Name → Name → List Expr → Stmt
single_entry name component args = inst (single name component args here)

abbrev inner : Name → Name → PortRef
inner name port = record { inst = Some name; inst_index = None; port = port; port_index = None }

abbrev outer : Name → PortRef
outer port = record { inst = None; inst_index = None; port = port; port_index = None }

abbrev binding : PortRef → PortRef → Stmt
binding left right = bind (record { left = left; right = right; at = here })

-- ---- an instance within itself
--   component Loop { inst a:Loop; }

Loop : Component
Loop = component (codes "Loop") [] [] (then (single_entry (codes "a") (codes "Loop") []) end)

abbrev loop_top : Instance
loop_top = record { path = []; depth = 0; component = Loop; env = [] }

loop_is_top : top_instance (Loop ∷ []) (codes "Loop") [] ≡ Some loop_top
unfolding Loop
loop_is_top = refl

-- the top and one of each depth up to 33
loop_depths : map (λ i. i.depth) (instances (Loop ∷ []) loop_top) ≡ 0 ∷ 1 ∷ 2 ∷ 3 ∷ 4 ∷ 5 ∷ 6 ∷ 7 ∷ 8 ∷ 9 ∷ 10 ∷ 11 ∷ 12 ∷ 13 ∷ 14 ∷ 15 ∷ 16
    ∷ 17 ∷ 18 ∷ 19 ∷ 20 ∷ 21 ∷ 22 ∷ 23 ∷ 24 ∷ 25 ∷ 26 ∷ 27 ∷ 28 ∷ 29 ∷ 30 ∷ 31 ∷ 32 ∷ 33 ∷ []
unfolding levels Loop
loop_depths = refl

-- nothing is counted in the deepest
loop_count : total (Loop ∷ []) loop_top ≡ 33
unfolding levels Loop
loop_count = refl

-- ---- one source bound to two ends
--   component source(int n) { require out; }
--   component sink { provide in; }
--   component Box { require out; inst s:source(1); bind s.out -- out; }
--   component Top { inst p:Box; t:sink; u:sink; bind p.out -- t.in; p.out -- u.in; }

source : Component
source = component (codes "source") (codes "n" ∷ []) (port Require (codes "out") ∷ []) end

sink : Component
sink = component (codes "sink") [] (port Provide (codes "in") ∷ []) end

Box : Component
Box =
    component (codes "Box") [] (port Require (codes "out") ∷ [])
    (then (single_entry (codes "s") (codes "source") (num 1 ∷ []))
    (then (binding (inner (codes "s") (codes "out")) (outer (codes "out"))) end))

Top : Component
Top =
    component (codes "Top") [] []
    (then (single_entry (codes "p") (codes "Box") [])
    (then (single_entry (codes "t") (codes "sink") [])
    (then (single_entry (codes "u") (codes "sink") [])
    (then (binding (inner (codes "p") (codes "out")) (inner (codes "t") (codes "in")))
    (then (binding (inner (codes "u") (codes "in")) (inner (codes "p") (codes "out"))) end)))))

abbrev twice : Tree
twice = source ∷ sink ∷ Box ∷ Top ∷ []

abbrev twice_top : Instance
twice_top = record { path = []; depth = 0; component = Top; env = [] }

twice_paths :
    map (λ i. i.path) (instances twice twice_top) ≡ [] ∷ codes "p" ∷ codes "t" ∷ codes "u" ∷ codes "p.s" ∷ []
unfolding levels source sink Box Top
twice_paths = refl

twice_nodes :
    map node_of (instances twice twice_top)
    ≡ None ∷ None ∷ Some (record { path = codes "t"; kind = Sink; arg = None })
    ∷ Some (record { path = codes "u"; kind = Sink; arg = None }) ∷ Some (record { path = codes "p.s"; kind = Source; arg = Some 1 }) ∷ []
unfolding levels source sink Box Top
twice_nodes = refl

abbrev port_of : Path → ℕ → Side → Name → Port
port_of path depth side name = record { path = path; depth = depth; side = side; name = name; index = None }

abbrev p_out : End
p_out = record { inner = Some (record { name = codes "p"; index = None }); port = codes "out"; index = None }

abbrev twice_pair : Path → Pair
twice_pair path =
    record { end = p_out; source = port_of (codes "p") 1 Require (codes "out"); target = port_of path 1 Provide (codes "in") }

-- the end that is bound twice stands on the right the second time
twice_pairs : pairs_in twice twice_top ≡ twice_pair (codes "t") ∷ twice_pair (codes "u") ∷ []
unfolding source sink Box Top
twice_pairs = refl

other_target : (twice_pair (codes "t")).target ≢ (twice_pair (codes "u")).target
other_target same =
    let letters : 116 ≡ 117 = ap (λ (x : Port). get_or x.path 0 0) same in
    omega (arith, letters)

-- so the fault holds
twice_fault : Faults twice (codes "Top") [] (error.BoundTwice [] (codes "p.out"))
unfolding source sink Box Top
twice_fault =
    let first = twice_pair (codes "t") in
    let second = twice_pair (codes "u") in
    bound_twice twice_top first second (record { top = twice_top; is_top = refl; inst = at_top }) (subst (λ ps. Contains ps first) (sym twice_pairs) (0, omega arith, refl)) (subst (λ ps. Contains ps second) (sym twice_pairs) (1, omega arith, refl)) refl other_target

-- ---- one sink
--   component One { inst t:sink; }

One : Component
One = component (codes "One") [] [] (then (single_entry (codes "t") (codes "sink") []) end)

abbrev one : Tree
one = sink ∷ One ∷ []

abbrev one_top : Instance
one_top = record { path = []; depth = 0; component = One; env = [] }

abbrev one_sink : Instance
one_sink = record { path = codes "t"; depth = 1; component = sink; env = [] }

abbrev sink_node : Node
sink_node = record { path = codes "t"; kind = Sink; arg = None }

one_instances : instances one one_top ≡ one_top ∷ one_sink ∷ []
unfolding levels sink One
one_instances = refl

one_made : made_in one one_top ≡ one_sink ∷ []
unfolding sink One
one_made = refl

one_node : IsNode one one_top sink_node
unfolding sink One
one_node =
    record {
      instance = one_sink;
      is_instance = below one_top one_sink at_top (subst (λ is. Contains is one_sink) (sym one_made) (Contains-here one_sink []));
      is_node = refl;
    }

only_node : (n : Node) → IsNode one one_top n → n ≡ sink_node
unfolding sink One
only_node n is =
    by (Contains-cons_cases one_top (one_sink ∷ []) is.instance (subst (λ is'. Contains is' is.instance) one_instances ((instances-listed one one_top is.instance refl).0 is.is_instance)))
  where
    by : (is.instance ≡ one_top) ⊎ Contains (one_sink ∷ []) is.instance → n ≡ sink_node
    by (inl at) = absurd (none-some n (sym (ap node_of at) ∙ is.is_node))
    by (inr at) = same_Some n sink_node (sym is.is_node ∙ ap node_of (Contains-one one_sink is.instance at))

only_at : (n m : Node) (k : ℕ) → slice_get (n ∷ []) k ≡ Some m → m ≡ n
only_at n m zero is = sym (same_Some n m is)
only_at n m (suc k) is = absurd (none-some m is)

no_link : (l : Link) → IsLink one one_top (sink_node ∷ []) l → ⊥
no_link l is =
    let node : is.from ≡ sink_node = only_at sink_node is.from l.from is.from_there in
    none-some is.linked.required (subst (λ (n : Node). slice_get (row n.kind).requires_ l.require ≡ Some is.linked.required) node is.linked.requires_it)

-- the graph is the one node, without a link
one_graph : ElaboratesTo one (codes "One") [] (record { nodes = sink_node ∷ []; links = [] })
unfolding sink One
one_graph =
    record {
      top = one_top;
      is_top = refl;
      is_elab =
          elab_by_list one one_top _ (λ i j d lt within. absurd (omega (arith, lt, within)))
          (λ n. (
            λ there. subst (IsNode one one_top) (sym (Contains-one sink_node n there)) one_node,
            λ is. subst (Contains (sink_node ∷ [])) (sym (only_node n is)) (Contains-here sink_node []),
          )) (λ l. (λ there. absurd (Contains-nil l there), λ is. absurd (no_link l is))) refl;
    }

-- ---- a source bound to a sink through an outer requirement
--   component Line { inst p:Box; t:sink; bind p.out -- t.in; }

Line : Component
Line =
    component (codes "Line") [] []
    (then (single_entry (codes "p") (codes "Box") [])
    (then (single_entry (codes "t") (codes "sink") [])
    (then (binding (inner (codes "p") (codes "out")) (inner (codes "t") (codes "in"))) end)))

abbrev line : Tree
line = source ∷ sink ∷ Box ∷ Line ∷ []

abbrev line_top : Instance
line_top = record { path = []; depth = 0; component = Line; env = [] }

abbrev line_box : Instance
line_box = record { path = codes "p"; depth = 1; component = Box; env = [] }

abbrev line_source : Instance
line_source =
    record { path = codes "p.s"; depth = 2; component = source; env = record { name = codes "n"; value = pos 1 } ∷ [] }

abbrev source_node : Node
source_node = record { path = codes "p.s"; kind = Source; arg = Some 1 }

abbrev s_out : End
s_out = record { inner = Some (record { name = codes "s"; index = None }); port = codes "out"; index = None }

abbrev box_pair : Pair
box_pair =
    record { end = s_out; source = port_of (codes "p.s") 2 Require (codes "out"); target = port_of (codes "p") 1 Require (codes "out") }

line_made : made_in line line_top ≡ line_box ∷ one_sink ∷ []
unfolding source sink Box Line
line_made = refl

box_made : made_in line line_box ≡ line_source ∷ []
unfolding source sink Box Line
box_made = refl

line_pairs : pairs_in line line_top ≡ twice_pair (codes "t") ∷ []
unfolding source sink Box Line
line_pairs = refl

box_pairs : pairs_in line line_box ≡ box_pair ∷ []
unfolding source sink Box Line
box_pairs = refl

is_box : Inst line line_top line_box
is_box = below line_top line_box at_top (subst (λ is. Contains is line_box) (sym line_made) (Contains-here line_box (one_sink ∷ [])))

is_source : IsNode line line_top source_node
unfolding source
is_source =
    record {
      instance = line_source;
      is_instance = below line_box line_source is_box (subst (λ is. Contains is line_source) (sym box_made) (Contains-here line_source []));
      is_node = refl;
    }

is_sink : IsNode line line_top sink_node
unfolding sink
is_sink =
    record {
      instance = one_sink;
      is_instance = below line_top one_sink at_top (subst (λ is. Contains is one_sink) (sym line_made) (1, omega arith, refl));
      is_node = refl;
    }

-- two bindings lead from the source outward and across to the sink
line_leads : BoundThrough line line_top box_pair.source (twice_pair (codes "t")).target
line_leads =
    let out = box_pair in
    let across = twice_pair (codes "t") in
    through out.source across.source across.target
    (bound line_box out is_box (subst (λ ps. Contains ps out) (sym box_pairs) (Contains-here out [])))
    (at_once across.source across.target (bound line_top across at_top (subst (λ ps. Contains ps across) (sym line_pairs) (Contains-here across []))))

-- so the one is linked to the other
line_link : IsLink line line_top (source_node ∷ sink_node ∷ []) (record { from = 0; require = 0; to = 1; provide = 0 })
unfolding is_source is_sink
line_link =
    record {
      from = source_node;
      to = sink_node;
      from_there = refl;
      to_there = refl;
      linked =
          record {
            from = is_source;
            to = is_sink;
            required = codes "out";
            provided = record { name = codes "in"; depends = []; calls = 0; mores = 0 };
            requires_it = refl;
            provides_it = refl;
            leads = line_leads;
          };
    }
