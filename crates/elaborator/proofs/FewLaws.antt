-- A graph to which a description elaborates has few nodes: each is an instance, and what makes instances is counted.
use Rattle.std.proofs.Common.{◌≡◌, ◌+◌, ◌<◌, ◌≤◌, ◌⊎◌, inl, inr, ℕ, zero, suc, ℤ, Bool, true, false, if◌then◌else◌, List, [], ◌∷◌, ◌++◌, get_or, length, length-append, sum_by, sym, ap, ◌∙◌, subst, arith}
use Rattle.std.specs.Cmp.Lexicographic.{slice_cmp}
use Rattle.std.specs.List.{Contains, flat_map, filter_map}
use Rattle.std.specs.Ordering.{nat_cmp}
use Rattle.std.proofs.lemmas.Bool.{both_ways, cases_lt}
use Rattle.std.proofs.lemmas.List.Sums.{sum_by-append, sum_by-cons}
use Rattle.std.proofs.lemmas.List.Elements.{Contains-append_left, Contains-append_right, Contains-append_cases}
use Rattle.std.proofs.lemmas.Option.{get_or_from_slice_get, slice_get_within}
use Rattle.base.proofs.BytesLaws.{bytes_eq_self}
use Rattle.base.proofs.ContainsLaws.{Contains-cons_cases, Contains-filter_map, Contains-here, Contains-there, at_some_place}
use Rattle.base.proofs.MapLaws.{length-filter_map}
use Rattle.base.proofs.PlaceLaws.{split_at}
use Rattle.config_graph.specs.Graph.{Graph, PathsRise}
use Rattle.config_graph.specs.declared.node.Node.{Node}
use Rattle.config_graph.proofs.PathLaws.{bytes_eq-below}
use Rattle.darwin_parser.specs.Tree.{Name, Tree}
use Rattle.darwin_walk.specs.Instance.{children_of}
use Rattle.darwin_walk.specs.Reached.{reached_in_component, weight}
use Rattle.darwin_walk.proofs.ChildCountLaws.{children_few}
use Rattle.elaborator.specs.Elaboration.{HasNoFault, ElaboratesTo}
use Rattle.elaborator.specs.Faults.{Twice, too_many}
use Rattle.elaborator.specs.Graph.{node_of}
use Rattle.elaborator.specs.Instances.{Instance, children_in, count_in, instance_of, instances, is_expanded, levels, made_in, total}
use Rattle.elaborator.specs.declared.error.ElabError.TheVariants as error
use Rattle.elaborator.proofs.CountLaws.{counted-all}
use Rattle.elaborator.proofs.InstanceLaws.{instances-listed, single-if_none, top_depth, twice_front}
use Rattle.elaborator.proofs.TwiceLaws.{twice_places, twice_there}

-- ---- different elements of a list are no more than it has

few_within : {A : Type 0} (xs ys : List A) → ((x : A) → ¬ Twice xs x) → ((x : A) → Contains xs x → Contains ys x) → length xs ≤ length ys
few_within [] ys once each = omega arith
few_within (x ∷ xs) ys once each =
    let at = at_some_place ys x (each x (Contains-here x xs)) in
    let w = split_at ys at.0 x at.1 in
    let front = w.0 in
    let behind = w.1 in
    let rest = few_within xs (front ++ behind) (λ y two. once y (twice_there x xs y two)) (λ y has.
    elim (Contains-append_cases front (x ∷ behind) y (subst (λ zs. Contains zs y) w.2 (each y (Contains-there x y xs has)))) [
      | inl before ↦ Contains-append_left front behind y before
      | inr later ↦
          elim (Contains-cons_cases x behind y later) [
            | inl same ↦ absurd (once x (twice_front x xs (subst (Contains xs) same has)))
            | inr after ↦ Contains-append_right front behind y after
          ]
    ]) in
    omega (arith, rest, ap length w.2, length-append front (x ∷ behind), length-append front behind)

not_twice : (nodes : List Node) → PathsRise nodes → (n : Node) → ¬ Twice nodes n
not_twice nodes rise n two =
    let at = twice_places nodes n two in
    let less = rise at.0 at.1 n at.2 (slice_get_within nodes at.1 n at.4) in
    let here : get_or nodes at.0 n ≡ n = get_or_from_slice_get nodes at.0 n n at.3 in
    let there : get_or nodes at.1 n ≡ n = get_or_from_slice_get nodes at.1 n n at.4 in
    both_ways _ (bytes_eq-below n.path n.path (sym (λ k. slice_cmp nat_cmp (here k).path (there k).path) ∙ less)) (bytes_eq_self n.path)

-- the nodes of a graph are no more than the instances that are nodes
pub nodes_listed :
    (tree : Tree) (name : Name) (args : List ℤ) (g : Graph) → (elaborates : ElaboratesTo tree name args g)
    → length g.nodes ≤ length (filter_map node_of (instances tree elaborates.top))
nodes_listed tree name args g elaborates =
    few_within g.nodes (filter_map node_of (instances tree elaborates.top)) (not_twice g.nodes elaborates.is_elab.paths_rise) each
  where
    top : Instance
    top = elaborates.top

    each : (n : Node) → Contains g.nodes n → Contains (filter_map node_of (instances tree top)) n
    each n there =
        let node = (elaborates.is_elab.nodes_are n).0 there in
        let at =
        at_some_place (instances tree top) node.instance
        ((instances-listed tree top node.instance (top_depth tree name args top elaborates.is_top)).0 node.is_instance) in
        Contains-filter_map node_of (instances tree top) at.0 node.instance n at.1 node.is_node

-- ---- instances are counted where they are made

made_few : (tree : Tree) (i : Instance) → length (made_in tree i) ≤ count_in i
made_few tree i = omega (arith, length-filter_map (instance_of tree i) (children_in i), by (is_expanded i))
  where
    by : (b : Bool) → length (if b then flat_map (children_of i.component i.env) (reached_in_component i.component i.env) else [])
        ≤ (if b then sum_by weight (reached_in_component i.component i.env) else 0)
    by true = children_few i.component i.env (reached_in_component i.component i.env)
    by false = omega arith

all_made_few : (tree : Tree) (is : List Instance) → length (flat_map (made_in tree) is) ≤ sum_by count_in is
all_made_few tree [] = omega arith
all_made_few tree (i ∷ is) =
    omega (arith, length-append (made_in tree i) (flat_map (made_in tree) is), sum_by-cons count_in i is, made_few tree i, all_made_few tree is)

levels_few : (tree : Tree) (n : ℕ) (is : List Instance) → length (levels tree n is) ≤ length is + sum_by count_in (levels tree n is)
unfolding levels
levels_few tree zero is = omega arith
levels_few tree (suc n) is =
    let next = flat_map (made_in tree) is in
    let deeper = levels tree n next in
    omega (arith, length-append is deeper, sum_by-append count_in is deeper, all_made_few tree is, levels_few tree n next)

-- ---- so nodes are few

pub nodes_few : (tree : Tree) (name : Name) (args : List ℤ) (g : Graph) → HasNoFault tree name args → ElaboratesTo tree name args g → length g.nodes ≤ 65537
nodes_few tree name args g none elaborates = omega (arith, nodes_listed tree name args g elaborates, listed, levels_few tree 33 (top ∷ []), counted)
  where
    top : Instance
    top = elaborates.top

    shallow : top.depth ≡ 0
    shallow = top_depth tree name args top elaborates.is_top

    counted : total tree top ≤ 65536
    counted = by (cases_lt 65536 (total tree top))
      where
        by : (65536 < total tree top) ⊎ (total tree top ≤ 65536) → total tree top ≤ 65536
        by (inl many) =
            absurd (none error.TooMany (too_many top elaborates.is_top
            (counted-all tree top 65536 (single-if_none tree name args top elaborates.is_top (λ path. none (error.TwoInstances path))) shallow many)))
        by (inr fits) = fits

    listed : length (filter_map node_of (instances tree top)) ≤ length (instances tree top)
    listed = length-filter_map node_of (instances tree top)
