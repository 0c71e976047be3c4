-- Lemmas on the moves of a part.
use Rattle.std.proofs.Common.{◌≡◌, ◌∙◌, ◌<◌, ◌≤◌, ℕ, zero, suc, List, ◌∷◌, Some, length, take, ap, sym, subst, inl, inr, arith, Contains, slice_get}
use Rattle.std.specs.List.{Any}
use Rattle.std.proofs.lemmas.List.{get_or-take, length-take-le}
use Rattle.std.proofs.lemmas.List.Elements.{All-contains}
use Rattle.std.proofs.lemmas.Option.{get_or_from_slice_get, none-some, slice_get-get_or, slice_get_within}
use Rattle.base.proofs.ContainsLaws.{Contains-at, at_some_place}
use Rattle.base.proofs.PlaceLaws.{one_at}
use Rattle.config_graph.specs.Graph.{Graph, IsGraph, PathsRise}
use Rattle.config_graph.specs.declared.node.Node.{Node}
use Rattle.change_plan.specs.Moves.{IsFit, MayMove, MayMoveAll}
use Rattle.change_plan.specs.Selects.{Selects}
use Rattle.change_plan.specs.Selects.Selects.{ends, takes, skips}
use Rattle.change_plan.specs.declared.plan_data.Move.{Move}
use Rattle.change_plan.proofs.NodeLaws.{one_path}
use Rattle.change_plan.proofs.SelectsLaws.{Selects-only, Selects-part}
use Rattle.change_parts.specs.Groups.{IsIn}
use Rattle.change_parts.specs.Parts.{HasEndsIn}
use Rattle.change_parts.specs.Stages.{IsAfter}

-- two elements of a part of a list, in their order there
record InOrder {A : Type 0} (xs : List A) (a b : A) : Type 0 where
  first : ℕ
  second : ℕ
  rises : first < second
  first_there : slice_get xs first ≡ Some a
  second_there : slice_get xs second ≡ Some b

one_later : {A : Type 0} (x : A) (xs : List A) (a b : A) → InOrder xs a b → InOrder (x ∷ xs) a b
one_later x xs a b w = record { first = suc w.first; second = suc w.second; rises = omega (arith, w.rises); first_there = w.first_there; second_there = w.second_there }

in_order : {A : Type 0} (P : A → Type 0) (xs ys : List A) → Selects P xs ys → (j k : ℕ) (a b : A) → j < k → slice_get ys j ≡ Some a → slice_get ys k ≡ Some b → InOrder xs a b
in_order P all part ends j k a b low at at' = absurd (none-some a at)
in_order P all part (skips {x = x} {xs = xs} {ys = ys} lacks s) j k a b low at at' = one_later x xs a b (in_order P xs ys s j k a b low at at')
in_order P all part (takes {x = x} {xs = xs} {ys = ys} has s) j zero a b low at at' = absurd (omega (arith, low))
in_order P all part (takes {x = x} {xs = xs} {ys = ys} has s) zero (suc k) a b low at at' =
    let w = at_some_place xs b (Selects-part P xs ys s b (Contains-at ys k b at')) in
    record { first = zero; second = suc w.0; rises = omega arith; first_there = at; second_there = w.1 }
in_order P all part (takes {x = x} {xs = xs} {ys = ys} has s) (suc j) (suc k) a b low at at' = one_later x xs a b (in_order P xs ys s j k a b (omega (arith, low)) at at')

-- an element among the first ones
any_first : {A : Type 0} (P : A → Type 0) (xs : List A) (k : ℕ) → k ≤ length xs → Any P (take k xs) → (j : ℕ) × (a : A) × (j < k) × (slice_get xs j ≡ Some a) × P a
any_first P xs k few (j, a, low, is, has) =
    let below : j < k = subst (λ n. j < n) (length-take-le k xs few) low in
    (j, a, below, slice_get-get_or xs j a (omega (arith, below, few)) ∙ ap Some (sym (get_or-take k xs j a below) ∙ is), has)

pub first_any : {A : Type 0} (P : A → Type 0) (xs : List A) (k : ℕ) → k ≤ length xs → (j : ℕ) (a : A) → j < k → slice_get xs j ≡ Some a → P a → Any P (take k xs)
first_any P xs k few j a below at has =
    (j, a, subst (λ n. j < n) (sym (length-take-le k xs few)) below, get_or-take k xs j a below ∙ get_or_from_slice_get xs j a a at, has)

module _ (old new : Graph) (old_graph : IsGraph old) (new_graph : IsGraph new) (moves : List Move) (may_ : MayMoveAll old new moves (length moves)) (done taken : List (List ℕ)) (stage next : Graph) (own : List Move)
    (apart : (n : Node) → IsIn old new moves done n → IsIn old new moves taken n → ⊥) (stage_is : IsAfter old new moves done old stage)
    (leads_to : IsAfter old new moves taken stage next) (moves_are : Selects (HasEndsIn old new moves taken) moves own) where
  may_at : (m : Move) → Contains moves m → (k : ℕ) × MayMove old new (take k moves) m
  may_at m held = let w = at_some_place moves m held in (w.0, may_ w.0 m (slice_get_within moves w.0 m w.1) w.1)

  -- a move of the part leads from a node that it removes to one that it creates
  fits : (m : Move) → Contains own m → IsFit stage next m
  fits m held =
      let e = All-contains (HasEndsIn old new moves taken) own m (Selects-only (HasEndsIn old new moves taken) moves own moves_are) held in
      let f = (may_at m (Selects-part (HasEndsIn old new moves taken) moves own moves_are m held)).1.fit in
      let s_there = (stage_is.nodes_are e.source).1 (inl (e.removed.there, λ v. apart e.source v.0 e.source_in)) in
      let t_there = (leads_to.nodes_are e.target).1 (inr (e.target_in, e.created)) in
      let s = at_some_place stage.nodes e.source s_there in
      let t = at_some_place next.nodes e.target t_there in
      let kinds : e.source.kind ≡ e.target.kind =
      ap (λ (n : Node). n.kind) (same_node old old_graph.paths_rise e.source f.leads.removed.node f.source e.removed.there f.leads.removed.here (e.from ∙ sym f.leads.removed.named))
      ∙ f.same_kind
      ∙ sym (ap (λ (n : Node). n.kind) (same_node new new_graph.paths_rise e.target f.leads.created.node f.target e.created.there f.leads.created.here (e.to ∙ sym f.leads.created.named))) in
      record {
        source = s.0;
        target = t.0;
        leads = record {
          removed = record { node = e.source; here = s.1; named = e.from; gone = λ there. elim ((leads_to.nodes_are e.source).0 there) [ inl v ↦ v.1 (e.source_in, e.removed) | inr v ↦ v.1.gone e.removed.there ] };
          created = record { node = e.target; here = t.1; named = e.to; gone = λ there. elim ((stage_is.nodes_are e.target).0 there) [ inl v ↦ e.created.gone v.0 | inr v ↦ apart e.target v.0 e.target_in ] };
        };
        same_kind = kinds;
      }
    where
      same_node : (g : Graph) → PathsRise g.nodes → (a b : Node) (j : ℕ) → Contains g.nodes a → slice_get g.nodes j ≡ Some b → a.path ≡ b.path → a ≡ b
      same_node g rise a b j held at same =
          let w = at_some_place g.nodes a held in
          let place : w.0 ≡ j = one_path g.nodes rise w.0 j a b w.1 at same in
          one_at g.nodes j a b (subst (λ i. slice_get g.nodes i ≡ Some a) place w.1) at

  -- no two of them have an end in common
  other : (P : Move → Move → Type 0) → ((before : List Move) (m : Move) → MayMove old new before m → ¬ Any (λ a. P a m) before) → (k : ℕ) (m : Move) → slice_get own k ≡ Some m → ¬ Any (λ a. P a m) (take k own)
  other P never k m at some_ =
      let low = slice_get_within own k m at in
      let w = any_first (λ a. P a m) own k (omega (arith, low)) some_ in
      let o = in_order (HasEndsIn old new moves taken) moves own moves_are w.0 k w.1 m w.2 w.3 at in
      let within = slice_get_within moves o.second m o.second_there in
      never (take o.second moves) m (may_ o.second m within o.second_there)
      (first_any (λ a. P a m) moves o.second (omega (arith, within)) o.first w.1 o.rises o.first_there w.4)

  pub part_may_move : MayMoveAll stage next own (length own)
  part_may_move k m low at = record {
    fit = fits m (Contains-at own k m at);
    other_source = other (λ a b. a.from ≡ b.from) (λ before b w. w.other_source) k m at;
    other_target = other (λ a b. a.to ≡ b.to) (λ before b w. w.other_target) k m at;
  }
