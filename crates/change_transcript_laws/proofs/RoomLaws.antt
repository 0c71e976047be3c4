-- How much a start and a committed change make.
use Rattle.std.proofs.Common.{◌≡◌, ◌∙◌, ℕ, ◌+◌, List, [], ◌∷◌, ◌++◌, length, map, Option, Some, None, refl, sym, ap, arith}
use Rattle.std.specs.Prelude.{filter_map, option_map, unwrap_or, All}
use Rattle.std.specs.List.{cons_option, enumerate_from, range_with_len, sum_by}
use Rattle.std.specs.Option.{option_map_or}
use Rattle.std.proofs.lemmas.List.Elements.{All-head, All-tail}
use Rattle.std.proofs.lemmas.List.Sums.{sum_by-append, sum_by-cons}
use Rattle.config_graph.specs.Graph.{Graph, ports, requires_at, requires_of, target_of}
use Rattle.config_graph.specs.declared.kind.Kind.TheVariants.{Fork}
use Rattle.config_graph.specs.declared.node.Made.{Made}
use Rattle.config_graph.specs.declared.node.Node.{Node}
use Rattle.config_graph.specs.declared.node.Port.{Port}
use Rattle.config_graph.specs.declared.node.Target.{Target}
use Rattle.config_graph.proofs.NumberingLaws.{length-ports}
use Rattle.change_plan.specs.Differences.{IsGone}
use Rattle.change_plan.specs.Plans.{IsPlanOf}
use Rattle.change_plan.specs.Refusals.{CanPlan}
use Rattle.change_plan.specs.declared.plan_data.Move.{Move}
use Rattle.change_plan.specs.declared.plan_data.Plan.{Plan}
use Rattle.change_plan.proofs.SelectsLaws.{Selects-one, Selects-only}
use Rattle.quiesce_laws.specs.Steps.{change_all}
use Rattle.quiesce_laws.specs.Work as work_
use Rattle.change_plan_laws.specs.Commit.{commit_events, commit_steps, makes_from, new_links, node_at, reopened_ports, source_of, work}
use Rattle.change_plan_laws.specs.Committing.{made_in}
use Rattle.quiesce_laws.specs.Starts as starts
use Rattle.quiesce_laws.specs.Starts.{start_of}
use Rattle.quiesce_core.specs.State.{Configuration, empty}
use Rattle.quiesce_core.specs.declared.event.Event.{Event}
use Rattle.quiesce_core.specs.declared.event.Event.TheVariants.{Close, Reopen, Unlink, Remove, Link}
use Rattle.change_spec.specs.Scripts.{more_made}
use Rattle.change_transcript_laws.proofs.MadeLaws.{gates_all, nodes_made, ports_made, slots_all}
use Rattle.std.proofs.Math.Nat.{add-zero}
use Rattle.base.proofs.SumLaws.{one_each}

-- events that count for nothing
none_summed : {A : Type 0} (count : Event → ℕ) (f : A → Event) → ((x : A) → count (f x) ≡ 0) → (xs : List A) → sum_by count (map f xs) ≡ 0
none_summed count f h [] = refl
none_summed count f h (x ∷ xs) = omega (arith, sum_by-cons count (f x) (map f xs), h x, none_summed count f h xs)

-- ---- starts

module _ (g : Graph) (count : Event → ℕ) (of_node : Node → ℕ) (makes : (p : ℕ × Node) → count (starts.make_of p) ≡ of_node p.1) (links : (p n x : ℕ) → count (Link p n x) ≡ 0) (reopens : (p : ℕ) → count (Reopen p) ≡ 0) where
  made_summed : (a : ℕ) (nodes : List Node) → sum_by count (map starts.make_of (enumerate_from a nodes)) ≡ sum_by of_node nodes
  made_summed a [] = refl
  made_summed a (n ∷ nodes) = omega (
    arith,
    sum_by-cons count (starts.make_of (a, n)) (map starts.make_of (enumerate_from (a + 1) nodes)),
    sum_by-cons of_node n nodes,
    makes (a, n),
    made_summed (a + 1) nodes,
  )

  link_summed : (xs : List (ℕ × Port)) → sum_by count (filter_map (starts.link_of g) xs) ≡ 0
  link_summed [] = refl
  link_summed (x ∷ xs) = by (target_of g.links x.1.node x.1.require) (link_summed xs)
    where
      by : (o : Option Target) → sum_by count (filter_map (starts.link_of g) xs) ≡ 0
          → sum_by count (cons_option (option_map (λ (t : Target). Link x.0 t.node t.provide) o) (filter_map (starts.link_of g) xs)) ≡ 0
      by None rest = rest
      by (Some t) rest = omega (arith, sum_by-cons count (Link x.0 t.node t.provide) (filter_map (starts.link_of g) xs), links x.0 t.node t.provide, rest)

  start_summed : sum_by count (start_of g) ≡ sum_by of_node g.nodes
  start_summed =
      let made = map starts.make_of (enumerate_from 0 g.nodes) in
      let linked = filter_map (starts.link_of g) (enumerate_from 0 (ports g.nodes)) in
      let opened = map starts.reopen_of (enumerate_from 0 (ports g.nodes)) in
      omega (
        arith,
        sum_by-append count (made ++ linked) opened,
        sum_by-append count made linked,
        made_summed 0 g.nodes,
        link_summed (enumerate_from 0 (ports g.nodes)),
        none_summed count starts.reopen_of (λ p. reopens p.0) (enumerate_from 0 (ports g.nodes)),
      )

abbrev made_of : ℕ → ℕ → Made
made_of i j = record { nodes = i; ports = j }

same_made : (a b c d : ℕ) → a ≡ c → b ≡ d → made_of a b ≡ made_of c d
same_made a b c d e f = ap (λ i. made_of i b) e ∙ ap (made_of c) f

pub start_makes : (g : Graph) → made_in (change_all empty.config (start_of g)) ≡ more_made (record { nodes = 0; ports = 0 }) (length g.nodes) (length (ports g.nodes))
start_makes g = same_made _ _ _ _
    (slots_all empty.config (start_of g) ∙ ap (λ k. 0 + k) (start_summed g nodes_made (λ n. 1) (λ p. refl) (λ p n x. refl) (λ p. refl) ∙ one_each g.nodes))
    (gates_all empty.config (start_of g) ∙ ap (λ k. 0 + k) (start_summed g ports_made requires_of (λ p. refl) (λ p n x. refl) (λ p. refl) ∙ sym (length-ports g.nodes)))

-- ---- commits

module _ (old new : Graph) (plan : Plan) (c : Configuration) where
  makes_long : (k : ℕ) (js : List ℕ) → length (makes_from old new plan c k js) ≡ length js
  makes_long k [] = refl
  makes_long k (j ∷ js) = omega (arith, makes_long (k + 1) js)

  nodes_summed : (k : ℕ) (js : List ℕ) → sum_by nodes_made (map work_.make_new (makes_from old new plan c k js)) ≡ length js
  nodes_summed k [] = refl
  nodes_summed k (j ∷ js) =
      let m : work_.NewNode = record { slot = k; node = node_at new j; from = source_of old plan c j } in
      omega (arith, sum_by-cons nodes_made (work_.make_new m) (map work_.make_new (makes_from old new plan c (k + 1) js)), nodes_summed (k + 1) js)

  wanted_there : (j : ℕ) → IsGone new old j → requires_of (node_at new j) ≡ requires_at new.nodes j
  wanted_there j gone =
      let fork : Node = record { path = []; kind = Fork; arg = None } in
      ap (λ o. requires_of (unwrap_or o fork)) gone.here ∙ sym (ap (λ o. option_map_or requires_of o 0) gone.here)

  ports_summed : (k : ℕ) (js : List ℕ) → All (IsGone new old) js → sum_by ports_made (map work_.make_new (makes_from old new plan c k js)) ≡ sum_by (requires_at new.nodes) js
  ports_summed k [] gone = refl
  ports_summed k (j ∷ js) gone =
      let m : work_.NewNode = record { slot = k; node = node_at new j; from = source_of old plan c j } in
      omega (
        arith,
        sum_by-cons ports_made (work_.make_new m) (map work_.make_new (makes_from old new plan c (k + 1) js)),
        sum_by-cons (requires_at new.nodes) j js,
        wanted_there j (All-head (IsGone new old) j js gone),
        ports_summed (k + 1) js (All-tail (IsGone new old) j js gone),
      )

  commit_summed : (count : Event → ℕ) → ((p : ℕ) → count (Unlink p) ≡ 0) → ((n : ℕ) → count (Remove n) ≡ 0) → ((l : work_.NewLink) → count (work_.link_new l) ≡ 0) → ((p : ℕ) → count (Reopen p) ≡ 0)
      → sum_by count (commit_events old new plan c) ≡ sum_by count (map work_.make_new (work old new plan c).makes)
  commit_summed count unlinks removes links reopens =
      let w = work old new plan c in
      let unlinked = map Unlink w.unlinks in
      let removed = map Remove w.removes in
      let made = map work_.make_new w.makes in
      let linked = new_links new plan (change_all c (unlinked ++ (removed ++ made))) in
      omega (
        arith,
        sum_by-append count (commit_steps old new plan c) (map Reopen (reopened_ports old new plan c)),
        sum_by-append count (unlinked ++ (removed ++ made)) (map work_.link_new linked),
        sum_by-append count unlinked (removed ++ made),
        sum_by-append count removed made,
        none_summed count Unlink unlinks w.unlinks,
        none_summed count Remove removes w.removes,
        none_summed count work_.link_new links linked,
        none_summed count Reopen reopens (reopened_ports old new plan c),
      )

  pub commit_makes : (moves : List Move) → IsPlanOf old new moves plan
      → made_in (change_all c (commit_events old new plan c)) ≡ more_made (made_in c) (length plan.create) (sum_by (requires_at new.nodes) plan.create)
  commit_makes moves is_plan = same_made _ _ _ _
      (slots_all c (commit_events old new plan c) ∙ ap (λ k. length c.slots + k)
      (commit_summed nodes_made (λ p. refl) (λ n. refl) (λ l. refl) (λ p. refl) ∙ nodes_summed (length c.slots) plan.create))
      (gates_all c (commit_events old new plan c) ∙ ap (λ k. length c.gates + k)
      (commit_summed ports_made (λ p. refl) (λ n. refl) (λ l. refl) (λ p. refl)
      ∙ ports_summed (length c.slots) plan.create (Selects-only (IsGone new old) (range_with_len 0 (length new.nodes)) plan.create is_plan.steps.create)))

-- closing makes nothing
pub closes_make : (c : Configuration) (ps : List ℕ) → made_in (change_all c (map Close ps)) ≡ made_in c
closes_make c ps = same_made _ _ _ _
    (slots_all c (map Close ps) ∙ ap (λ k. length c.slots + k) (none_summed nodes_made Close (λ p. refl) ps) ∙ add-zero (length c.slots))
    (gates_all c (map Close ps) ∙ ap (λ k. length c.gates + k) (none_summed ports_made Close (λ p. refl) ps) ∙ add-zero (length c.gates))

-- what was found to fit is what a plan creates
pub wanted_as_planned : (old new : Graph) (moves : List Move) (made : Made) (plan : Plan) (can : CanPlan old new moves made) → IsPlanOf old new moves plan
    → more_made made can.nodes can.ports ≡ more_made made (length plan.create) (sum_by (requires_at new.nodes) plan.create)
wanted_as_planned old new moves made plan can is_plan =
    let one = Selects-one (IsGone new old) (range_with_len 0 (length new.nodes)) can.wanted.created plan.create can.wanted.gone is_plan.steps.create in
    ap (λ k. more_made made k can.ports) (can.wanted.nodes_are ∙ ap length one)
    ∙ ap (more_made made (length plan.create)) (can.wanted.ports_are ∙ ap (sum_by (requires_at new.nodes)) one)
