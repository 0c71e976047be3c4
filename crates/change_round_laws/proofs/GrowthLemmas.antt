-- How many nodes and ports are made by events of a change.
use Rattle.std.proofs.Common.{◌≡◌, ◌∙◌, ℕ, ◌+◌, true, false, List, [], ◌∷◌, ◌++◌, map, length, length-set, Option, Some, None, refl, sym, ap, arith}
use Rattle.std.specs.Prelude.{slice_get, slice_set, sum_by}
use Rattle.std.specs.List.{range_with_len}
use Rattle.std.specs.Option.{option_map_or}
use Rattle.std.proofs.lemmas.List.{length-append}
use Rattle.std.proofs.lemmas.List.FromFn.{length-map-range_with_len}
use Rattle.std.proofs.lemmas.List.Sums.{sum_by-cons}
use Rattle.change_plan.specs.declared.plan_data.Plan.{Plan}
use Rattle.config_graph.specs.Graph.{Graph, requires_at}
use Rattle.config_graph.specs.Kinds.{row}
use Rattle.quiesce_core.specs.declared.event.Event.{Event}
use Rattle.quiesce_core.specs.declared.event.Event.TheVariants.{Close, Reopen, Make, Link, Unlink, Remove}
use Rattle.quiesce_core.specs.declared.state.Gate.{Gate}
use Rattle.quiesce_core.specs.declared.state.Slot.{Slot}
use Rattle.quiesce_core.specs.Effect.{change_next}
use Rattle.quiesce_core.specs.State.{Configuration, gate, slot}
use Rattle.quiesce_laws.specs.Steps.{change_all}
use Rattle.quiesce_laws.specs.Work.{link_new, make_new, work_of}
use Rattle.change_plan_laws.specs.Commit.{commit_events, commit_steps, makes_from, new_links, reopened_ports, work}
use Rattle.config_graph.proofs.KindLaws.{ports_wanted_at}

abbrev pub nodes_by : Event → ℕ
nodes_by (Make n node from) = 1
nodes_by _ = 0

abbrev pub ports_by : Event → ℕ
ports_by (Make n node from) = length (row node.kind).requires_
ports_by _ = 0

abbrev pub total : (Event → ℕ) → List Event → ℕ
total f [] = 0
total f (e ∷ es) = f e + total f es

pub total_both : (f : Event → ℕ) (xs ys : List Event) → total f (xs ++ ys) ≡ total f xs + total f ys
total_both f [] ys = omega arith
total_both f (e ∷ xs) ys = omega (arith, total_both f xs ys)

pub total_none : {A : Type 0} (f : Event → ℕ) (g : A → Event) → ((x : A) → f (g x) ≡ 0) → (xs : List A) → total f (map g xs) ≡ 0
total_none f g h [] = refl
total_none f g h (x ∷ xs) = omega (arith, h x, total_none f g h xs)

gone_slots : (o : Option Slot) (xs : List Slot) (n : ℕ) → length (option_map_or (λ (m : Slot). slice_set xs n (record m { live = false })) o xs) ≡ length xs
gone_slots None xs n = refl
gone_slots (Some m) xs n = length-set xs n (record m { live = false })

pub nodes_next : (c : Configuration) (e : Event) → length (change_next c e).slots ≡ length c.slots + nodes_by e
nodes_next c (Make n node from) =
    length-append c.slots (record { node = node; first_port = length c.gates; from = from; live = true } ∷ [])
nodes_next c (Remove n) = omega (arith, gone_slots (slot c n) c.slots n)
nodes_next c e = omega arith

ports_next : (c : Configuration) (e : Event) → length (change_next c e).gates ≡ length c.gates + ports_by e
ports_next c (Make n node from) =
    let new : ℕ → Gate = λ r. record { owner = length c.slots; require = r; closed = true; target = None } in
    let many = length (row node.kind).requires_ in
    length-append c.gates (map new (range_with_len 0 many)) ∙ ap (λ k. length c.gates + k) (length-map-range_with_len new 0 many)
ports_next c (Close p) = omega (arith, length-set c.gates p (record (gate c p) { closed = true }))
ports_next c (Reopen p) = omega (arith, length-set c.gates p (record (gate c p) { closed = false }))
ports_next c (Link p n x) = omega (arith, length-set c.gates p (record (gate c p) { target = Some (record { node = n; provide = x }) }))
ports_next c (Unlink p) = omega (arith, length-set c.gates p (record (gate c p) { target = None }))
ports_next c e = omega arith

pub nodes_after : (c : Configuration) (es : List Event) → length (change_all c es).slots ≡ length c.slots + total nodes_by es
nodes_after c [] = omega arith
nodes_after c (e ∷ es) = omega (arith, nodes_after (change_next c e) es, nodes_next c e)

pub ports_after : (c : Configuration) (es : List Event) → length (change_all c es).gates ≡ length c.gates + total ports_by es
ports_after c [] = omega arith
ports_after c (e ∷ es) = omega (arith, ports_after (change_next c e) es, ports_next c e)

module _ (old new : Graph) (plan : Plan) (c : Configuration) where
  made_nodes : (k : ℕ) (js : List ℕ) → total nodes_by (map make_new (makes_from old new plan c k js)) ≡ length js
  made_nodes k [] = refl
  made_nodes k (j ∷ js) = omega (arith, made_nodes (k + 1) js)

  made_ports : (k : ℕ) (js : List ℕ) → total ports_by (map make_new (makes_from old new plan c k js)) ≡ sum_by (requires_at new.nodes) js
  made_ports k [] = refl
  made_ports k (j ∷ js) =
      ap (λ n. n + total ports_by (map make_new (makes_from old new plan c (k + 1) js))) (ports_wanted_at (slice_get new.nodes j)) ∙ ap (λ n. requires_at new.nodes j + n) (made_ports (k + 1) js)
      ∙ sym (sum_by-cons (requires_at new.nodes) j js)

  parts_of : (f : Event → ℕ) → ((p : ℕ) → f (Unlink p) ≡ 0) → ((n : ℕ) → f (Remove n) ≡ 0) → ((p n x : ℕ) → f (Link p n x) ≡ 0) → ((p : ℕ) → f (Reopen p) ≡ 0)
      → total f (commit_events old new plan c) ≡ total f (map make_new (makes_from old new plan c (length c.slots) plan.create))
  parts_of f unlink remove link reopen =
      let w = work old new plan c in
      let links = new_links new plan (change_all c (work_of w)) in
      omega (
        arith,
        total_both f (commit_steps old new plan c) (map Reopen (reopened_ports old new plan c)),
        total_none f Reopen reopen (reopened_ports old new plan c),
        total_both f (work_of w) (map link_new links),
        total_none f link_new (λ l. link l.port l.node l.provide) links,
        total_both f (map Unlink w.unlinks) (map Remove w.removes ++ map make_new w.makes),
        total_none f Unlink unlink w.unlinks,
        total_both f (map Remove w.removes) (map make_new w.makes),
        total_none f Remove remove w.removes,
      )

  -- a commit makes what its plan creates
  pub commit_nodes : total nodes_by (commit_events old new plan c) ≡ length plan.create
  commit_nodes = parts_of nodes_by (λ p. refl) (λ n. refl) (λ p n x. refl) (λ p. refl) ∙ made_nodes (length c.slots) plan.create

  pub commit_ports : total ports_by (commit_events old new plan c) ≡ sum_by (requires_at new.nodes) plan.create
  commit_ports = parts_of ports_by (λ p. refl) (λ n. refl) (λ p n x. refl) (λ p. refl) ∙ made_ports (length c.slots) plan.create
