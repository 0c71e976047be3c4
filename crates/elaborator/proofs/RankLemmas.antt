-- Ranks of ports, which fall from each source to its target, so that chains end.
use Rattle.std.proofs.Common.{◌≡◌, ℕ, ◌+◌, ◌-◌, ◌<◌, Bool, true, false, not, ◌&&◌, cond, ltb, [], refl, sym, subst, arith}
use Rattle.std.specs.List.{Contains}
use Rattle.std.proofs.lemmas.Bool.{ltb-true}
use Rattle.darwin_parser.specs.declared.tree.Side.{Side}
use Rattle.darwin_parser.specs.declared.tree.Side.TheVariants.{Provide, Require}
use Rattle.darwin_parser.specs.Tree.{Tree}
use Rattle.darwin_types.specs.Scope.{is_primitive}
use Rattle.darwin_walk.specs.Instance.{Binding, bindings}
use Rattle.elaborator.specs.Instances.{Instance}
use Rattle.elaborator.specs.Bindings.{Port, Pair, named_port, pair_of, bindings_in, pairs_in}
use Rattle.elaborator.proofs.ChildLaws.{depth-made}
use Rattle.elaborator.proofs.BoundLemmas.{parts, Where, inner, outer, stands_where, Form, across, outward, inward, form}
use Rattle.base.proofs.ContainsLaws.{Contains-from_flat_map, Contains-nil}

-- how many steps a chain from a port takes at most: outward from a requirement, once across, and inward
pub rank_at : Side → ℕ → ℕ
rank_at Require depth = 34 + depth
rank_at Provide depth = 33 - depth

pub rank : Port → ℕ
rank x = rank_at x.side x.depth

-- an instance whose bindings are reached isn't too deep
expanded_depth : (i : Instance) (b : Binding) → Contains (bindings_in i) b → i.depth < 33
expanded_depth i b there = by_test (is_primitive i.component) (ltb i.depth 33) refl there
  where
    by_test : (p d : Bool) → ltb i.depth 33 ≡ d → Contains (cond (not p && d) (bindings i.component i.env) []) b → i.depth < 33
    by_test p true deep c = ltb-true i.depth 33 deep
    by_test true false deep c = absurd (Contains-nil b c)
    by_test false false deep c = absurd (Contains-nil b c)

-- nor is it a node
pub expanded_composite : (i : Instance) (b : Binding) → Contains (bindings_in i) b → is_primitive i.component ≡ false
expanded_composite i b there = by_test (is_primitive i.component) (ltb i.depth 33) refl there
  where
    by_test : (p d : Bool) → is_primitive i.component ≡ p → Contains (cond (not p && d) (bindings i.component i.env) []) b → is_primitive i.component ≡ false
    by_test true d is c = absurd (Contains-nil b c)
    by_test false d is c = is

falls_by_form :
    (tree : Tree) (i : Instance) → i.depth < 33 → (a b : Bool) (s t : Side) (j k : Instance) → Form a s b t → Where tree i a j → Where tree i b k
    → rank_at t k.depth < rank_at s j.depth
unfolding rank_at
falls_by_form tree i shallow _ _ _ _ j k across (inner _ cj) (inner _ ck) = omega arith
falls_by_form tree i shallow _ _ _ _ j _ outward (inner _ cj) outer = omega (arith, depth-made tree i j cj)
falls_by_form tree i shallow _ _ _ _ _ k inward outer (inner _ ck) = omega (arith, depth-made tree i k ck)

-- the target of a pair has a lower rank than the source
pub rank_falls : (tree : Tree) (i : Instance) (p : Pair) → Contains (pairs_in tree i) p → rank p.target < rank p.source
unfolding rank
rank_falls tree i p there =
    let from = Contains-from_flat_map (pair_of tree i) (bindings_in i) p there in
    let w = parts tree i from.0 p from.2 in
    let falls = falls_by_form tree i (expanded_depth i from.0 from.1) _ _ _ _ w.source.instance w.target.instance (form w.source w.target w.leads) (stands_where tree i w.source_end w.source w.is_source) (stands_where tree i w.target_end w.target w.is_target) in
    subst (λ z. rank p.target < rank z) (sym w.source_port) (subst (λ z. rank z < rank (named_port w.source)) (sym w.target_port) falls)

-- the rank of a requirement of an instance that isn't too deep
pub rank_of_requirement : (x : Port) → x.side ≡ Require → x.depth < 33 → rank x < 68
unfolding rank rank_at
rank_of_requirement x side shallow = rw side (omega arith)
