-- The links of all nodes, one requirement after another.
use Rattle.std.proofs.Common.{◌≡◌, ◌∙◌, ℕ, ◌+◌, ◌<◌, ◌≤◌, Bool, true, false, ◌&&◌, eqb, List, [], ◌∷◌, ◌++◌, length, get_or, refl, ap, sym, subst, inl, inr, ◌⊎◌, arith}
use Rattle.std.specs.List.{Contains}
use Rattle.std.specs.Option.{option_map_or}
use Rattle.std.proofs.lemmas.Bool.{eqb-true}
use Rattle.std.proofs.lemmas.Bool.Decides.{eqb_tells}
use Rattle.std.proofs.lemmas.Option.{slice_get_within}
use Rattle.std.proofs.lemmas.List.Elements.{Contains-append_left, Contains-push, Contains-push_cases, Contains-get_or}
use Rattle.std.proofs.lemmas.List.Quantifiers.{all_pairs_push}
use Rattle.config_graph.specs.declared.node.Node.{Node}
use Rattle.config_graph.specs.declared.node.Link.{Link}
use Rattle.config_graph.specs.declared.node.Target.{Target}
use Rattle.config_graph.specs.Kinds.{row}
use Rattle.config_graph.specs.Graph.{begins_at, requires_of, provides_of, requires_at, provides_at, OneLinkAPort}
use Rattle.darwin_parser.specs.Tree.{Tree}
use Rattle.elaborator.specs.Instances.{Instance}
use Rattle.elaborator.specs.Graph.{IsLink}
use Rattle.elaborator.specs.Links.{link_to, IsTarget, BeginsBefore, AreFirstLinks, AreLinks}

-- a link as that of its port
as_target : (l : Link) (from require : ℕ) → l.from ≡ from → l.require ≡ require → l ≡ link_to from require (record { node = l.to; provide = l.provide })
as_target l from require is_from is_require =
    ap (λ n. record { from = n; require = l.require; to = l.to; provide = l.provide }) is_from
    ∙ ap (λ n. record { from = from; require = n; to = l.to; provide = l.provide }) is_require

-- before the next requirement is before this one, or at it
before_next : (from require : ℕ) (l : Link) → BeginsBefore from (require + 1) l → BeginsBefore from require l ⊎ ((l.from ≡ from) × (l.require ≡ require))
before_next from require l (inl earlier) = inl (inl earlier)
before_next from require l (inr same) =
    elim (eqb_tells l.require require) [ inl at ↦ inr (same.0, at.1) | inr other ↦ inl (inr (same.0, omega (arith, same.1, other.1))) ]

before_more : (from require : ℕ) (l : Link) → BeginsBefore from require l → BeginsBefore from (require + 1) l
before_more from require l (inl earlier) = inl earlier
before_more from require l (inr same) = inr (same.0, omega (arith, same.1))

-- a requirement that is linked to nothing
pub first_links-skip :
    (tree : Tree) (top : Instance) (nodes : List Node) (from require : ℕ) (links : List Link) → AreFirstLinks tree top nodes from require links
    → ((t : Target) → ¬ IsLink tree top nodes (link_to from require t)) → AreFirstLinks tree top nodes from (require + 1) links
first_links-skip tree top nodes from require links so_far none = record {
  sound = λ l there. let w = so_far.sound l there in (w.0, before_more from require l w.1);
  complete = λ l is before.
      elim (before_next from require l before) [
        | inl earlier ↦ so_far.complete l is earlier
        | inr at ↦ absurd (none (record { node = l.to; provide = l.provide }) (subst (IsLink tree top nodes) (as_target l from require at.0 at.1) is))
      ];
  one_a_port = so_far.one_a_port;
}

both_false : (a b : Bool) → ((a ≡ true) → (b ≡ true) → ⊥) → (a && b) ≡ false
both_false true true refuted = absurd (refuted refl refl)
both_false true false refuted = refl
both_false false b refuted = refl

-- a link that begins before a port doesn't begin there
not_there : (from require : ℕ) (k : Link) (t : Target) → BeginsBefore from require k → begins_at k.from k.require (link_to from require t) ≡ false
not_there from require k t before = both_false (eqb from k.from) (eqb require k.require) (λ a b. refuted before (eqb-true from k.from a) (eqb-true require k.require b))
  where
    refuted : BeginsBefore from require k → from ≡ k.from → require ≡ k.require → ⊥
    refuted (inl earlier) same same' = omega (arith, earlier, same)
    refuted (inr at) same same' = omega (arith, at.1, same')

-- a requirement that is linked
pub first_links-push :
    (tree : Tree) (top : Instance) (nodes : List Node) (from require : ℕ) (old new : List Link) (t : Target) → AreFirstLinks tree top nodes from require old
    → IsTarget tree top nodes from require t → new ≡ old ++ link_to from require t ∷ [] → AreFirstLinks tree top nodes from (require + 1) new
first_links-push tree top nodes from require old new t so_far is_target pushed = record {
  sound = λ l there.
      elim (Contains-push_cases old (link_to from require t) l (subst (λ ls. Contains ls l) pushed there)) [
        | inl earlier ↦ let w = so_far.sound l earlier in (w.0, before_more from require l w.1)
        | inr same ↦ (subst (IsLink tree top nodes) same is_target.is_link, subst (BeginsBefore from (require + 1)) same (inr (refl, omega arith)))
      ];
  complete = λ l is before.
      subst (λ ls. Contains ls l) (sym pushed) (elim (before_next from require l before) [
        | inl earlier ↦ Contains-append_left old (link_to from require t ∷ []) l (so_far.complete l is earlier)
        | inr at ↦
            let target = record_of l in
            let same = is_target.only target (subst (IsLink tree top nodes) (as_target l from require at.0 at.1) is) in
            let one : link_to from require t ≡ l = ap (link_to from require) (sym same) ∙ sym (as_target l from require at.0 at.1) in
            subst (Contains (old ++ link_to from require t ∷ [])) one (Contains-push old (link_to from require t))
      ]);
  one_a_port = subst OneLinkAPort (sym pushed) (all_pairs_push (λ (k l : Link). begins_at k.from k.require l ≡ false) old (link_to from require t) so_far.one_a_port (λ i d within.
      not_there from require (get_or old i d) t (so_far.sound (get_or old i d) (Contains-get_or old i d within)).1));
}
  where
    record_of : Link → Target
    record_of l = record { node = l.to; provide = l.provide }

-- a link begins at a requirement of its node
pub begins_within : (tree : Tree) (top : Instance) (nodes : List Node) (l : Link) → IsLink tree top nodes l → l.require < requires_at nodes l.from
begins_within tree top nodes l is =
    let within = slice_get_within (row is.from.kind).requires_ l.require is.linked.required is.linked.requires_it in
    omega (arith, within, ap (λ o. option_map_or requires_of o 0) is.from_there)

pub ends_within : (tree : Tree) (top : Instance) (nodes : List Node) (l : Link) → IsLink tree top nodes l → l.provide < provides_at nodes l.to
ends_within tree top nodes l is =
    let within = slice_get_within (row is.to.kind).provides l.provide is.linked.provided is.linked.provides_it in
    omega (arith, within, ap (λ o. option_map_or provides_of o 0) is.to_there)

-- all requirements of a node
pub first_links-node :
    (tree : Tree) (top : Instance) (nodes : List Node) (from require : ℕ) (links : List Link) → requires_at nodes from ≤ require
    → AreFirstLinks tree top nodes from require links → AreFirstLinks tree top nodes (from + 1) 0 links
first_links-node tree top nodes from require links all so_far = record {
  sound = λ l there. let w = so_far.sound l there in (w.0, earlier l w.1);
  complete = λ l is before. so_far.complete l is (later l is before);
  one_a_port = so_far.one_a_port;
}
  where
    earlier : (l : Link) → BeginsBefore from require l → BeginsBefore (from + 1) 0 l
    earlier l (inl before) = inl (omega (arith, before))
    earlier l (inr same) = inl (omega (arith, same.0))

    later : (l : Link) → IsLink tree top nodes l → BeginsBefore (from + 1) 0 l → BeginsBefore from require l
    later l is (inl before) =
        elim (eqb_tells l.from from) [
          | inl same ↦ inr (same.1, omega (arith, all, begins_within tree top nodes l is, ap (requires_at nodes) same.1))
          | inr other ↦ inl (omega (arith, before, other.1))
        ]
    later l is (inr none) = absurd (omega (arith, none.1))

-- all nodes
pub links-all :
    (tree : Tree) (top : Instance) (nodes : List Node) (from : ℕ) (links : List Link) → length nodes ≤ from → AreFirstLinks tree top nodes from 0 links
    → AreLinks tree top nodes links
links-all tree top nodes from links all so_far = record {
  links_are = λ l. (λ there. (so_far.sound l there).0, λ is. so_far.complete l is (inl (omega (arith, all, slice_get_within nodes l.from is.from is.from_there))));
  within = λ i d within.
      let is = (so_far.sound (get_or links i d) (Contains-get_or links i d within)).0 in
      record { begins = begins_within tree top nodes (get_or links i d) is; ends = ends_within tree top nodes (get_or links i d) is };
  one_a_port = so_far.one_a_port;
}
