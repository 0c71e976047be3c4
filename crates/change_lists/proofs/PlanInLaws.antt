-- The places of a plan are in range.
use Rattle.std.proofs.Common.{◌≡◌, ◌<◌, ◌≤◌, ℕ, true, List, length, map, Option, Some, None, All, Contains, get_or, refl, sym, ap, subst, inl, inr, arith}
use Rattle.std.specs.Prelude.{◌⊎◌, find, is_some, option_map, slice_get}
use Rattle.std.specs.List.{range_with_len}
use Rattle.std.specs.Option.{option_map_or}
use Rattle.std.proofs.lemmas.Bool.{both_ways, cases_lt}
use Rattle.std.proofs.lemmas.List.{get_or-map, length-map}
use Rattle.std.proofs.lemmas.List.Elements.{All-contains, All-contains_itself}
use Rattle.std.proofs.lemmas.Option.{slice_get_past, slice_get_within}
use Rattle.base.proofs.FindLaws.{find-some}
use Rattle.change_plan.specs.Differences.{GoneLinks, IsGone, IsKeptLink, link_port}
use Rattle.change_plan.specs.Plans.{IsPlanOf}
use Rattle.change_plan.specs.Touched.{Frozen}
use Rattle.change_plan.specs.declared.plan_data.Move.{Move}
use Rattle.change_plan.specs.declared.plan_data.Plan.{Plan}
use Rattle.change_plan.specs.declared.plan_data.Shift.{Shift}
use Rattle.change_plan.proofs.SelectsLaws.{Selects-only, Selects-part}
use Rattle.change_plan.proofs.DifferenceLaws.{gone_low, touched_low}
use Rattle.config_graph.specs.Cycles.{IsLinked, graph_wiring}
use Rattle.config_graph.specs.Graph.{Graph, IsGraph, IsLinkWithin, begins_at, provides_of, requires_of}
use Rattle.config_graph.specs.Wiring.{Reach, direct, through}
use Rattle.config_graph.specs.declared.node.Link.{Link}
use Rattle.config_graph.specs.declared.node.Node.{Node}
use Rattle.config_graph.specs.declared.node.Port.{Port}
use Rattle.config_graph.specs.declared.node.Target.{Target}
use Rattle.config_graph.proofs.LinkLaws.{begins_there}
use Rattle.change_lists.specs.PlanIn.{AreEndsIn, IsPlanIn}

-- what each member has, all have
all_if : {A : Type 0} (P : A → Type 0) (xs : List A) → ((x : A) → Contains xs x → P x) → All P xs
all_if P xs f = λ k d low. f (get_or xs k d) (All-contains_itself xs k d low)

low_if : (f : Node → ℕ) (nodes : List Node) (i r : ℕ) → r < option_map_or f (slice_get nodes i) 0 → i < length nodes
low_if f nodes i r h = by (cases_lt i (length nodes))
  where
    by : (i < length nodes) ⊎ (length nodes ≤ i) → i < length nodes
    by (inl low) = low
    by (inr past) = absurd (omega (arith, subst (λ (o : Option Node). r < option_map_or f o 0) (slice_get_past nodes i past) h))

ends_low : (g : Graph) → IsGraph g → (l : Link) → Contains g.links l → AreEndsIn g l
ends_low g h l there =
    let w = All-contains (IsLinkWithin g.nodes) g.links l h.within there in
    (low_if requires_of g.nodes l.from l.require w.begins, low_if provides_of g.nodes l.to l.provide w.ends)

abbrev end_at : Link → Target
end_at l = record { node = l.to; provide = l.provide }

linked_low : (g : Graph) → IsGraph g → (i r j x : ℕ) → IsLinked g i r j x → i < length g.nodes
linked_low g h i r j x e = by (find (begins_at i r) g.links) refl e
  where
    by : (o : Option Link) → find (begins_at i r) g.links ≡ o → option_map end_at o ≡ Some (record { node = j; provide = x }) → i < length g.nodes
    by None f e = absurd (both_ways true (sym (ap is_some e)) refl)
    by (Some l) f e =
        let found = find-some (begins_at i r) g.links l f in
        subst (λ k. k < length g.nodes) (begins_there i r l found.1).0 (ends_low g h l found.0).0

reached_low : (g : Graph) → IsGraph g → (n : ℕ) (p : Port) → Reach (graph_wiring g) n p → p.node < length g.nodes
reached_low g h n p (direct {x = x} l) = linked_low g h p.node p.require n x l
reached_low g h n p (through {m = m} {x = x} r d l) = linked_low g h p.node p.require m x l

frozen_low : (old new : Graph) → IsGraph old → (i : ℕ) → Frozen old new i → i < length old.nodes
frozen_low old new h i (inl touched) = touched_low old new i touched
frozen_low old new h i (inr reaches) = reached_low old h reaches.0 (record { node = i; require = reaches.1 }) reaches.3

unlinked_low : (old new : Graph) → IsGraph old → (links : List Link) → GoneLinks old new links → All (λ (q : Port). q.node < length old.nodes) (map link_port links)
unlinked_low old new h links gone = λ k d low.
    let x : Link = record { from = 0; require = 0; to = 0; provide = 0 } in
    let under : k < length links = subst (λ n. k < n) (length-map links link_port) low in
    subst (λ (q : Port). q.node < length old.nodes) (sym (get_or-map link_port links k x d under))
    (ends_low old h (get_or links k x) (Selects-part (λ l. ¬ IsKeptLink old new l) old.links links gone (get_or links k x) (All-contains_itself links k x under))).0

pub plan_in : (old new : Graph) (moves : List Move) (plan : Plan) → IsGraph old → IsGraph new → IsPlanOf old new moves plan → IsPlanIn old new plan
plan_in old new moves plan old_graph new_graph h = record {
  freeze = all_if (λ i. i < length old.nodes) plan.freeze (λ i there. frozen_low old new old_graph i ((h.steps.freeze i).0 there));
  unlink = subst (All (λ (q : Port). q.node < length old.nodes)) (sym h.steps.unlink.2) (unlinked_low old new old_graph h.steps.unlink.0 h.steps.unlink.1);
  remove = all_if (λ i. i < length old.nodes) plan.remove (λ i there. gone_low old new i (All-contains (IsGone old new) plan.remove i (Selects-only (IsGone old new) (range_with_len 0 (length old.nodes)) plan.remove h.steps.remove) there));
  create = all_if (λ i. i < length new.nodes) plan.create (λ i there. gone_low new old i (All-contains (IsGone new old) plan.create i (Selects-only (IsGone new old) (range_with_len 0 (length new.nodes)) plan.create h.steps.create) there));
  link = all_if (AreEndsIn new) plan.link (λ l there. ends_low new new_graph l (Selects-part (λ l. ¬ IsKeptLink new old l) new.links plan.link h.steps.link l there));
  moves = all_if (λ (s : Shift). s.old < length old.nodes) plan.moves (λ s there. let x = (h.moves.sound s there).leads.removed in slice_get_within old.nodes s.old x.node x.here);
}

-- a move leads to a node that is created
pub moves_in : (old new : Graph) (moves : List Move) (plan : Plan) → IsPlanOf old new moves plan → All (λ (s : Shift). s.new < length new.nodes) plan.moves
moves_in old new moves plan h =
    all_if (λ (s : Shift). s.new < length new.nodes) plan.moves (λ s there. let x = (h.moves.sound s there).leads.created in slice_get_within new.nodes s.new x.node x.here)
