-- Which nodes that a plan makes take over a state: those of its moves.
use Rattle.std.proofs.Common.{◌≡◌, ℕ, zero, suc, ◌<◌, ◌≤◌, true, List, [], ◌∷◌, length, map, Option, Some, None, refl, sym, ap, ◌∙◌, ⊎_elim, arith, Contains}
use Rattle.std.specs.Prelude.{◌↔◌, ◌==◌, bytes_eq, find, is_some, slice_get, slice_index_or, option_and_then}
use Rattle.std.specs.List.Sorted.{IsStrictlyIncreasing}
use Rattle.std.proofs.lemmas.Bool.{and_from, cases_lt, eq-eqb, eqb-true}
use Rattle.std.proofs.lemmas.List.Kept.{AllPairs-from_increasing}
use Rattle.std.proofs.lemmas.Option.{same_Some}
use Rattle.std.proofs.lemmas.Slice.Eq.{bytes_eq-Decides}
use Rattle.base.proofs.ContainsLaws.{Contains-at, at_some_place}
use Rattle.base.proofs.FindLaws.{find-no_position, find-only, is_some-find_from}
use Rattle.change_plan.proofs.NodeLaws.{one_path}
use Rattle.change_plan.specs.declared.plan_data.Move.{Move}
use Rattle.change_plan.specs.declared.plan_data.Plan.{Plan}
use Rattle.change_plan.specs.declared.plan_data.Shift.{Shift}
use Rattle.config_graph.specs.Graph.{Graph}
use Rattle.config_graph.specs.declared.node.Node.{Node}
use Rattle.quiesce_core.specs.declared.event.Event.{Event}
use Rattle.quiesce_core.specs.Live.{StandsAt}
use Rattle.quiesce_core.specs.Runs.{state_after}
use Rattle.quiesce_core.specs.State.{Configuration}
use Rattle.quiesce_laws.specs.Lists.{In}
use Rattle.quiesce_laws.specs.Work.{NewNode}
use Rattle.change_plan_laws.specs.Commit.{is_at, node_path, slot_at, source_of, work}
use Rattle.change_plan_laws.specs.Committing.{MayCommit, TakesOver}
use Rattle.change_plan_laws.proofs.PlannedLemmas.{makes_are, source_is}
use Rattle.change_plan_laws.proofs.ReadyLemmas.{IsReady, ready}
use Rattle.change_plan_laws.proofs.StandingLaws.{one_slot, path_of, stands_if_slot}

-- a member of a list whose targets rise is told by its target

target_at : (xs : List Shift) (i : ℕ) (x : Shift) → slice_get xs i ≡ Some x → (slice_index_or (map (λ (s : Shift). s.new) xs) i 0 ≡ x.new) × (i < length (map (λ (s : Shift). s.new) xs))
target_at [] i x e = absurd (cc)
target_at (y ∷ xs) zero x e = (ap (λ (s : Shift). s.new) (same_Some y x e), omega arith)
target_at (y ∷ xs) (suc i) x e = let r = target_at xs i x e in (r.0, let low = r.1 in omega arith)

one_target : (xs : List Shift) → IsStrictlyIncreasing (map (λ (s : Shift). s.new) xs) → (x y : Shift) → Contains xs x → Contains xs y → x.new ≡ y.new → x ≡ y
one_target xs rise x y x_there y_there same =
    let i = at_some_place xs x x_there in
    let j = at_some_place xs y y_there in
    let at_i = target_at xs i.0 x i.1 in
    let at_j = target_at xs j.0 y j.1 in
    let pairs = AllPairs-from_increasing (map (λ (s : Shift). s.new) xs) rise in
    let first = at_i.0 in
    let second = at_j.0 in
    ⊎_elim
    (λ (less : i.0 < j.0). let r = pairs i.0 j.0 0 less at_j.1 in absurd (omega (arith, r, first, second, same)))
    (λ (at_least : j.0 ≤ i.0). ⊎_elim
    (λ (less : j.0 < i.0). let r = pairs j.0 i.0 0 less at_i.1 in absurd (omega (arith, r, first, second, same)))
    (λ (at_most : i.0 ≤ j.0). let one : i.0 ≡ j.0 = omega arith in same_Some x y (sym i.1 ∙ ap (slice_get xs) one ∙ j.1))
    (cases_lt j.0 i.0))
    (cases_lt i.0 j.0)

module _ (old new : Graph) (plan : Plan) (c : Configuration) (is_ready : IsReady old new plan c) where
  -- the slot of a node is found by its path
  slot_found : (k i : ℕ) → StandsAt c old.nodes k i → slot_at c (node_path old i) ≡ Some k
  slot_found k i s = by (slot_at c (node_path old i)) refl
    where
      passes : is_at (node_path old i) s.made ≡ true
      passes = and_from s.made.live (bytes_eq s.made.node.path (node_path old i)) s.live ((bytes_eq-Decides s.made.node.path (node_path old i)).1 (sym (path_of old i s.made.node s.stands)))

      by : (o : Option ℕ) → slot_at c (node_path old i) ≡ o → slot_at c (node_path old i) ≡ Some k
      by None e =
          let found : is_some (find (is_at (node_path old i)) c.slots) ≡ true = is_some-find_from (is_at (node_path old i)) c.slots s.made (Contains-at c.slots k s.made s.there) passes in
          absurd (cc (found, find-no_position (is_at (node_path old i)) c.slots e))
      by (Some n) e =
          let t = stands_if_slot c old is_ready.graph.paths_rise is_ready.graph.nodes_are n i s.made.node s.stands e in
          e ∙ ap Some (one_slot c is_ready.after.named old.nodes n k i t s)

  -- the source of a node that is made
  source_found : IsStrictlyIncreasing (map (λ (s : Shift). s.new) plan.moves) → (s : Shift) → Contains plan.moves s → (k : ℕ) → StandsAt c old.nodes k s.old → source_of old plan c s.new ≡ Some k
  source_found rise s there k source =
      ap (λ o. option_and_then (λ (t : Shift). slot_at c (node_path old t.old)) o)
      (find-only (λ (t : Shift). t.new == s.new) plan.moves s there (eq-eqb s.new s.new refl) (λ y y_there passes. one_target plan.moves rise y s y_there there (eqb-true y.new s.new passes)))
      ∙ slot_found k s.old source

pub handed_over : (old new : Graph) (moves : List Move) (plan : Plan) (es : List Event) → MayCommit old new moves plan es → (m : NewNode) → In (work old new plan (state_after es).config).makes m
    → (k : ℕ) → (m.from ≡ Some k) ↔ TakesOver old new plan (state_after es).config m k
handed_over old new moves plan es may m there k =
    let c = (state_after es).config in
    let is_ready = ready old new moves plan es may in
    let w = makes_are old new plan c is_ready m there in (
      λ e.
          let s = source_is old new plan c is_ready m w.0 k w.6 e in
          record { shift = s.0; there = s.1; source = s.3; target = ap (slice_get new.nodes) s.2 ∙ w.3 ∙ ap Some (sym w.4) },
      λ t.
          let place : t.shift.new ≡ w.0 = one_path new.nodes is_ready.new_graph.paths_rise t.shift.new w.0 m.node w.1 t.target w.3 (ap (λ (n : Node). n.path) w.4) in
          w.6 ∙ ap (source_of old plan c) (sym place) ∙ source_found old new plan c is_ready may.is_plan.moves.rise t.shift t.there k t.source,
    )
