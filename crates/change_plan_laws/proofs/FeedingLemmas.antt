-- A change that freezes nothing may be committed while the system works: a node is added beside a source that feeds a sink.
use Rattle.std.proofs.Common.{◌≡◌, ℕ, zero, suc, ◌<◌, false, List, [], ◌∷◌, Some, None, refl, sym, ap, ◌∙◌, subst, ⊎_elim, arith, Contains, All}
use Rattle.std.specs.Prelude.{bytes_eq, codes, IsTrue}
use Rattle.std.specs.Cmp.Lexicographic.{slice_cmp}
use Rattle.std.specs.Ordering.{nat_cmp}
use Rattle.std.specs.declared.cmp.Ordering.TheVariants.{Less}
use Rattle.std.proofs.lemmas.Bool.{both_ways}
use Rattle.std.proofs.lemmas.List.Elements.{All-from_recursion}
use Rattle.std.proofs.lemmas.List.Kept.{AllPairs-cons}
use Rattle.std.proofs.lemmas.Option.{same_Some}
use Rattle.std.proofs.lemmas.Slice.Eq.{bytes_eq-Decides}
use Rattle.base.proofs.ContainsLaws.{Contains-at}
use Rattle.change_plan.specs.Differences.{IsGone, IsTwin}
use Rattle.change_plan.specs.Plans.{HasStepsBetween, IsPlanOf}
use Rattle.change_plan.specs.Refusals.{CanPlan}
use Rattle.change_plan.specs.Selects.Selects.{ends, skips, takes}
use Rattle.change_plan.specs.Touched.{Frozen, HasNewTarget, IsTouched, SameTarget}
use Rattle.config_graph.specs.Cycles.{IsLinked, depends_at, graph_wiring}
use Rattle.config_graph.specs.Graph.{IsGraph, IsLinkWithin, PathsRise, in_port_order, target_of}
use Rattle.config_graph.specs.Sound.{HasItsArgument, Sound}
use Rattle.config_graph.specs.Walks.{Ranks}
use Rattle.config_graph.specs.Wiring.{MayCall, Reach}
use Rattle.config_graph.specs.declared.node.Link.{Link}
use Rattle.config_graph.specs.declared.node.Node.{Node}
use Rattle.config_graph.proofs.WalkLaws.{acyclic_if_ranked}
use Rattle.quiesce_core.specs.declared.event.Event.TheVariants.{Begin}
use Rattle.quiesce_core.specs.Reach.{has_no_cycle, reaches}
use Rattle.quiesce_core.specs.Runs.{IsRun, state_after}
use Rattle.quiesce_core.proofs.GraphLaws.{graph_started}
use Rattle.quiesce_core.proofs.RunLaws.{run_if}
use Rattle.quiesce_laws.specs.Starts.{start_of}
use Rattle.quiesce_laws.proofs.EndingLaws.{graph_stays}
use Rattle.change_plan_laws.specs.Committing.{MayCommit, made_in}
use Rattle.change_plan_laws.specs.Rows.{adding, feeding, feeding_busy, s_to_t, source}
use Rattle.change_plan_laws.specs.Systems.{sink_t, sink_u}
use Rattle.change_plan_laws.proofs.PlannedLemmas.{link_if}

abbrev Below : Node → Node → Type 0
Below m n = slice_cmp nat_cmp m.path n.path ≡ Less

two_rise : PathsRise (feeding []).nodes
two_rise =
    AllPairs-cons Below source (sink_t ∷ []) (All-from_recursion (Below source) (sink_t ∷ []) (refl, tt))
    (AllPairs-cons Below sink_t [] (λ k d l. absurd (omega arith)) (λ i j d k l. absurd (omega arith)))

three_rise : PathsRise (feeding (sink_u ∷ [])).nodes
three_rise =
    AllPairs-cons Below source (sink_t ∷ sink_u ∷ []) (All-from_recursion (Below source) (sink_t ∷ sink_u ∷ []) (refl, (refl, tt)))
    (AllPairs-cons Below sink_t (sink_u ∷ []) (All-from_recursion (Below sink_t) (sink_u ∷ []) (refl, tt))
    (AllPairs-cons Below sink_u [] (λ k d l. absurd (omega arith)) (λ i j d k l. absurd (omega arith))))

module _ (more_ : List Node) where
  within : All (IsLinkWithin (feeding more_).nodes) (feeding more_).links
  within = All-from_recursion (IsLinkWithin (feeding more_).nodes) (feeding more_).links (record { begins = omega arith; ends = omega arith }, tt)

  link_is : (k : Link) → Contains (feeding more_).links k → s_to_t ≡ k
  link_is k (zero, low, same) = same
  link_is k (suc n, low, same) = absurd (omega (arith, low))

  begins : (i r j x : ℕ) → IsLinked (feeding more_) i r j x → 0 ≡ i
  begins i r j x l = let w = link_if (feeding more_) i r j x l in ap (λ (k : Link). k.from) (link_is w.link w.there) ∙ w.from

  -- a source provides nothing
  falls_from : (i j : ℕ) (serves provide require : ℕ) → (graph_wiring (feeding more_)).Depends i serves (record { node = i; require = require })
      → (graph_wiring (feeding more_)).Linked (record { node = i; require = require }) j provide → 0 < 0
  falls_from zero j zero x r d l = absurd (both_ways false refl d.1)
  falls_from zero j (suc s) x r d l = absurd (both_ways false refl d.1)
  falls_from (suc i) j s x r d l = let one : 0 ≡ suc i = begins (suc i) r j x l in absurd (omega (arith, one))

  ranks : Ranks (MayCall (graph_wiring (feeding more_)))
  ranks = record {
    rank = λ i. 0;
    falls = λ i j c.
        let at : c.port.node ≡ i = c.depends.0 in
        falls_from i j c.serves c.provide c.port.require
        (refl, subst (λ k. IsTrue (depends_at (feeding more_).nodes i c.serves c.port.require)) at c.depends.1)
        (subst (λ k. (graph_wiring (feeding more_)).Linked (record { node = k; require = c.port.require }) j c.provide) at c.linked);
  }

  sound_if : PathsRise (feeding more_).nodes → All HasItsArgument (feeding more_).nodes → in_port_order (feeding more_).nodes (feeding more_).links ≡ (feeding more_).links → Sound (feeding more_)
  sound_if rise arguments in_order = record {
    paths_rise = rise;
    arguments = arguments;
    within = within;
    in_order = in_order;
    no_cycle = acyclic_if_ranked (MayCall (graph_wiring (feeding more_))) ranks;
  }

two_sound : Sound (feeding [])
two_sound = sound_if [] two_rise (All-from_recursion HasItsArgument (feeding []).nodes (record { present = refl; below = omega arith }, (record { present = refl; below = tt }, tt))) refl

three_sound : Sound (feeding (sink_u ∷ []))
three_sound = sound_if (sink_u ∷ []) three_rise
    (All-from_recursion HasItsArgument (feeding (sink_u ∷ [])).nodes (record { present = refl; below = omega arith }, (record { present = refl; below = tt }, (record { present = refl; below = tt }, tt)))) refl

two_graph : IsGraph (feeding [])
two_graph = record { paths_rise = two_rise; within = within []; in_order = refl; few_nodes = omega arith; few_ports = omega arith }

three_graph : IsGraph (feeding (sink_u ∷ []))
three_graph = record { paths_rise = three_rise; within = within (sink_u ∷ []); in_order = refl; few_nodes = omega arith; few_ports = omega arith }

spare_is_new : ¬ Contains (feeding []).nodes sink_u
spare_is_new (zero, low, same) = let args : Some 3 ≡ None = ap (λ (n : Node). n.arg) same in absurd (cc args)
spare_is_new (suc zero, low, same) = path_is (ap (λ (n : Node). n.path) same)
  where
    path_is : codes "t" ≡ codes "u" → ⊥
    path_is e = both_ways (bytes_eq (codes "t") (codes "u")) refl ((bytes_eq-Decides (codes "t") (codes "u")).1 e)
spare_is_new (suc (suc k), low, same) = absurd (omega (arith, low))

none_gone : (i : ℕ) → IsGone (feeding []) (feeding (sink_u ∷ [])) i → ⊥
none_gone zero g = g.gone (Contains-at (feeding (sink_u ∷ [])).nodes 0 g.node g.here)
none_gone (suc zero) g = g.gone (Contains-at (feeding (sink_u ∷ [])).nodes 1 g.node g.here)
none_gone (suc (suc i)) g = absurd (cc (g.here))

-- the source keeps its target
s_keeps : (twin require : ℕ) → IsTwin (feeding []) (feeding (sink_u ∷ [])) 0 twin → require < 1
    → ¬ SameTarget (feeding []) (feeding (sink_u ∷ [])) (target_of (feeding []).links 0 require) (target_of (feeding (sink_u ∷ [])).links twin require) → ⊥
s_keeps zero zero is low differs = differs (record { node = sink_t; here = refl; there = refl }, refl)
s_keeps zero (suc r) is low differs = omega (arith, low)
s_keeps (suc zero) r is low differs =
    let args : Some 3 ≡ None = ap (λ (n : Node). n.arg) (same_Some source is.node is.here ∙ sym (same_Some sink_t is.node is.there)) in absurd (cc args)
s_keeps (suc (suc zero)) r is low differs =
    let args : Some 3 ≡ None = ap (λ (n : Node). n.arg) (same_Some source is.node is.here ∙ sym (same_Some sink_u is.node is.there)) in absurd (cc args)
s_keeps (suc (suc (suc k))) r is low differs = absurd (cc (is.there))

none_touched : (n : ℕ) → IsTouched (feeding []) (feeding (sink_u ∷ [])) n → ⊥
none_touched n t = ⊎_elim (λ (g : IsGone (feeding []) (feeding (sink_u ∷ [])) n). none_gone n g) (λ (h : HasNewTarget (feeding []) (feeding (sink_u ∷ [])) n). new_target n h) t
  where
    new_target : (n : ℕ) → HasNewTarget (feeding []) (feeding (sink_u ∷ [])) n → ⊥
    new_target zero h = s_keeps h.twin h.require h.stays h.within h.differs
    new_target (suc zero) h = let low = h.within in omega (arith, low)
    new_target (suc (suc k)) h = let low = h.within in omega (arith, low)

none_frozen : (i : ℕ) → Frozen (feeding []) (feeding (sink_u ∷ [])) i → ⊥
none_frozen i f = ⊎_elim
    (λ (t : IsTouched (feeding []) (feeding (sink_u ∷ [])) i). none_touched i t)
    (λ (r : (n : ℕ) × (q : ℕ) × IsTouched (feeding []) (feeding (sink_u ∷ [])) n × Reach (graph_wiring (feeding [])) n (record { node = i; require = q })). none_touched r.0 r.2) f

steps : HasStepsBetween (feeding []) (feeding (sink_u ∷ [])) adding
steps = record {
  unlink = (
    [],
    skips (λ lost. lost (s_to_t, (0, omega arith, refl), record { from = record { node = source; here = refl; there = refl }; require = refl; to = record { node = sink_t; here = refl; there = refl }; provide = refl })) ends,
    refl,
  );
  remove = skips (none_gone 0) (skips (none_gone 1) ends);
  create = skips (λ g. g.gone (Contains-at (feeding []).nodes 0 g.node g.here)) (skips (λ g. g.gone (Contains-at (feeding []).nodes 1 g.node g.here)) (takes (record { node = sink_u; here = refl; gone = spare_is_new }) ends));
  link = skips (λ lost. lost (s_to_t, (0, omega arith, refl), record { from = record { node = source; here = refl; there = refl }; require = refl; to = record { node = sink_t; here = refl; there = refl }; provide = refl })) ends;
  freeze = λ i. (λ there. absurd (omega (arith, there.1)), λ f. absurd (none_frozen i f));
}

is_plan : IsPlanOf (feeding []) (feeding (sink_u ∷ [])) [] adding
is_plan = record {
  steps = steps;
  moves = record {
    sound = λ s there. absurd (omega (arith, there.1));
    complete = λ s is. let there = is.there in absurd (omega (arith, there.1));
    rise = λ k low. absurd (omega (arith, low));
  };
  freeze_rises = λ k low. absurd (omega (arith, low));
}

can_plan : CanPlan (feeding []) (feeding (sink_u ∷ [])) [] (made_in (state_after feeding_busy).config)
can_plan = record {
  may_move = λ k m low at. absurd (omega (arith, low));
  nodes = 1;
  ports = 0;
  wanted = record { created = 2 ∷ []; gone = steps.create; nodes_are = refl; ports_are = refl };
  room = record { nodes_fit = omega arith; ports_fit = omega arith };
}

runs : IsRun feeding_busy
unfolding has_no_cycle reaches
runs = run_if feeding_busy refl

pub busy_may_commit : MayCommit (feeding []) (feeding (sink_u ∷ [])) [] adding feeding_busy
busy_may_commit = record {
  old_graph = two_graph;
  new_graph = three_graph;
  new_sound = three_sound;
  is_plan = is_plan;
  can_plan = can_plan;
  run = runs;
  graph = graph_stays (feeding []) (start_of (feeding [])) (Begin 0 1 1 ∷ []) runs refl (graph_started (feeding []) two_sound (omega arith) (omega arith));
  drained = λ p low frozen. absurd (both_ways false refl frozen);
}
