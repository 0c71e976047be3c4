-- Lemmas on ties: what they tie is changed, and a group has one least path.
use Rattle.std.proofs.Common.{◌≡◌, ◌∙◌, ℕ, List, refl, sym, ap, inl, inr, Contains}
use Rattle.std.specs.Ordering.{is_eq, nat_cmp, ordering_reverse}
use Rattle.std.specs.Cmp.Lexicographic.{slice_cmp, nat_list_cmp_total}
use Rattle.std.specs.declared.cmp.Ordering.{Ordering}
use Rattle.std.specs.declared.cmp.Ordering.TheVariants.{Less, Equal, Greater}
use Rattle.std.proofs.lemmas.Map.Text.{is_eq-slice_cmp}
use Rattle.std.proofs.lemmas.Slice.Eq.{bytes_eq-Decides}
use Rattle.base.specs.Telling.{CanTell}
use Rattle.config_graph.specs.Graph.{Graph, IsGraph}
use Rattle.config_graph.specs.declared.node.Node.{Node}
use Rattle.config_graph.proofs.TellLaws.{tell_contained}
use Rattle.change_plan.specs.declared.plan_data.Move.{Move}
use Rattle.change_parts.specs.Groups.{IsBefore, IsIn, IsInGroup}
use Rattle.change_parts.specs.Ties.{AreConnected, IsChanged, IsCreated, IsRemoved, IsTouchedNode, Joined, Tied}
use Rattle.change_parts.specs.Ties.Joined.{itself, along, against}
use Rattle.change_parts.specs.Ties.Tied.{replaced, moved, unlinked, linked}
use Rattle.change_parts.proofs.LinkedLaws.{from_contained, removed_touched, tell_touched, to_contained, untouched_alike}

-- of two paths of which neither stands before the other, both are one
pub same_if_neither : (p q : List ℕ) → ¬ IsBefore p q → ¬ IsBefore q p → p ≡ q
same_if_neither p q not_p not_q = by (slice_cmp nat_cmp p q) refl
  where
    by : (o : Ordering) → slice_cmp nat_cmp p q ≡ o → p ≡ q
    by Less e = absurd (not_p e)
    by Equal e = (bytes_eq-Decides p q).0 (sym (is_eq-slice_cmp p q) ∙ ap is_eq e)
    by Greater e = absurd (not_q (nat_list_cmp_total.antisymm q p ∙ ap ordering_reverse e))

module _ (old new : Graph) (old_graph : IsGraph old) (new_graph : IsGraph new) (moves : List Move) where
  -- what begins at a removed node's link is touched, and what begins at a created node's link is touched or created
  unlinks_touched : (a b : Node) (r x : ℕ) → AreConnected old a r b x → IsRemoved old new b → IsTouchedNode old new a
  unlinks_touched a b r x c lost =
      let there = from_contained old old_graph a r b x c in
      elim (tell_touched old new old_graph new_graph a there) [
        | inl touched ↦ touched
        | inr quiet ↦ absurd (lost.gone (to_contained new new_graph a r b x ((untouched_alike old new old_graph new_graph a there quiet r b x).0 c)))
      ]

  links_changed : (a b : Node) (r x : ℕ) → AreConnected new a r b x → IsCreated old new b → IsChanged old new a
  links_changed a b r x c made = by (tell_contained old.nodes a)
    where
      by : CanTell (Contains old.nodes a) → IsChanged old new a
      by (inr missing) = inr (record { there = from_contained new new_graph a r b x c; gone = missing })
      by (inl there) =
          elim (tell_touched old new old_graph new_graph a there) [
            | inl touched ↦ inl touched
            | inr quiet ↦ absurd (made.gone (to_contained old old_graph a r b x ((untouched_alike old new old_graph new_graph a there quiet r b x).1 c)))
          ]

  removed_changed : (n : Node) → IsRemoved old new n → IsChanged old new n
  removed_changed n lost = inl (removed_touched old new old_graph new_graph n lost)

  pub tied_changed : (a b : Node) → Tied old new moves a b → IsChanged old new a × IsChanged old new b
  tied_changed a b (replaced lost made same) = (removed_changed a lost, inr made)
  tied_changed a b (moved m there lost from made to) = (removed_changed a lost, inr made)
  tied_changed a b (unlinked r x c lost) = (inl (unlinks_touched a b r x c lost), removed_changed b lost)
  tied_changed a b (linked r x c made) = (links_changed a b r x c made, inr made)

  pub joined_changed : (a b : Node) → Joined old new moves a b → IsChanged old new a → IsChanged old new b
  joined_changed a _ itself changed = changed
  joined_changed a c (along {b = b} t rest) changed = joined_changed b c rest (tied_changed a b t).1
  joined_changed a c (against {b = b} t rest) changed = joined_changed b c rest (tied_changed b a t).0

  pub then_joined : (a b c : Node) → Joined old new moves a b → Joined old new moves b c → Joined old new moves a c
  then_joined a _ c itself next = next
  then_joined a b c (along {b = d} t rest) next = along t (then_joined d b c rest next)
  then_joined a b c (against {b = d} t rest) next = against t (then_joined d b c rest next)

  pub joined_back : (a b : Node) → Joined old new moves a b → Joined old new moves b a
  joined_back a _ itself = itself
  joined_back a b (along {b = d} t rest) = then_joined b d a (joined_back d b rest) (against t itself)
  joined_back a b (against {b = d} t rest) = then_joined b d a (joined_back d b rest) (along t itself)

  -- groups hold what is tied to what they hold
  pub in_changed : (firsts : List (List ℕ)) (n : Node) → IsIn old new moves firsts n → IsChanged old new n
  in_changed firsts n (p, held, g) = joined_changed g.node n g.joined g.least.changed

  pub in_along : (firsts : List (List ℕ)) (a b : Node) → Tied old new moves a b → IsIn old new moves firsts a → IsIn old new moves firsts b
  in_along firsts a b t (p, held, g) = (p, held, record { node = g.node; named = g.named; least = g.least; joined = then_joined g.node a b g.joined (along t itself) })

  pub in_against : (firsts : List (List ℕ)) (a b : Node) → Tied old new moves a b → IsIn old new moves firsts b → IsIn old new moves firsts a
  in_against firsts a b t (p, held, g) = (p, held, record { node = g.node; named = g.named; least = g.least; joined = then_joined g.node b a g.joined (against t itself) })

  -- a node is in one group
  pub one_group : (p q : List ℕ) (n : Node) → IsInGroup old new moves p n → IsInGroup old new moves q n → p ≡ q
  one_group p q n g h =
      let over = then_joined g.node n h.node g.joined (joined_back h.node n h.joined) in
      let back = joined_back g.node h.node over in
      sym g.named ∙ same_if_neither g.node.path h.node.path (h.least.least g.node back) (g.least.least h.node over) ∙ h.named
