-- A change that may be committed: an account is replaced, and its state goes on.
use Rattle.std.proofs.Common.{◌≡◌, ℕ, zero, suc, ◌<◌, true, false, [], ◌∷◌, length, Some, None, refl, sym, ap, ◌∙◌, subst, inl, inr, ⊎_elim, arith, Contains, All}
use Rattle.std.specs.Prelude.{◌⊎◌, ◌^◌, bytes_eq, codes, slice_get, IsTrue}
use Rattle.std.specs.List.Sorted.{IsStrictlyIncreasing}
use Rattle.std.specs.Cmp.Lexicographic.{slice_cmp}
use Rattle.std.specs.Ordering.{nat_cmp}
use Rattle.std.specs.declared.cmp.Ordering.TheVariants.{Less}
use Rattle.std.proofs.lemmas.Bool.{both_ways}
use Rattle.std.proofs.lemmas.List.Elements.{All-from_recursion}
use Rattle.std.proofs.lemmas.Slice.Eq.{bytes_eq-Decides}
use Rattle.std.proofs.lemmas.List.Kept.{AllPairs-cons}
use Rattle.change_plan.specs.Differences.{GoneLinks, GoneNodes, IsGone, IsKeptLink, IsTwin}
use Rattle.change_plan.specs.Moves.{IsShift, IsShifts, MayMove, MayMoveAll}
use Rattle.change_plan.specs.Plans.{HasStepsBetween, IsPlanOf}
use Rattle.change_plan.specs.Refusals.{CanPlan}
use Rattle.change_plan.specs.Selects.Selects.{ends, skips, takes}
use Rattle.change_plan.specs.Touched.{Frozen, HasNewTarget, IsTouched}
use Rattle.change_plan.specs.declared.plan_data.Shift.{Shift}
use Rattle.config_graph.specs.Cycles.{IsLinked, depends_at, graph_wiring}
use Rattle.config_graph.specs.Graph.{IsGraph, IsLinkWithin, PathsRise}
use Rattle.config_graph.specs.Sound.{HasItsArgument, Sound}
use Rattle.config_graph.specs.Walks.{Ranks}
use Rattle.config_graph.specs.Wiring.{MayCall, Reach, direct}
use Rattle.config_graph.specs.declared.node.Link.{Link}
use Rattle.config_graph.specs.declared.node.Node.{Node}
use Rattle.config_graph.proofs.WalkLaws.{acyclic_if_ranked}
use Rattle.config_graph.proofs.WiringLaws.{reach_linked}
use Rattle.quiesce_core.specs.declared.event.Event.TheVariants.{Close}
use Rattle.quiesce_core.specs.Reach.{has_no_cycle, reaches}
use Rattle.quiesce_core.specs.Runs.{IsRun, state_after}
use Rattle.quiesce_core.specs.State.{owner}
use Rattle.quiesce_core.proofs.GraphLaws.{graph_started}
use Rattle.quiesce_laws.specs.Drained.{is_drained}
use Rattle.quiesce_laws.specs.Starts.{start_of}
use Rattle.quiesce_core.proofs.RunLaws.{run_if}
use Rattle.base.proofs.ContainsLaws.{Contains-at}
use Rattle.quiesce_laws.specs.Fitting.{IsPart}
use Rattle.quiesce_laws.proofs.EndingLaws.{graph_stays}
use Rattle.change_plan_laws.proofs.PlannedLemmas.{link_if}
use Rattle.change_plan_laws.specs.Commit.{is_one_of}
use Rattle.change_plan_laws.specs.Committing.{MayCommit, made_in}
use Rattle.change_plan_laws.specs.Rows.{a_goes_on, bank_closed, by_w, from_a, replacing, to_b}
use Rattle.change_plan_laws.specs.Systems.{account_at, bank, branch_r, teller_w}

module _ (b : ℕ) where
  rise : PathsRise (bank 3 b).nodes
  rise =
      let R = λ (m n : Node). slice_cmp nat_cmp m.path n.path ≡ Less in
      AllPairs-cons R (account_at (codes "a") b) ((account_at (codes "b") 0) ∷ branch_r ∷ (teller_w 3) ∷ []) (All-from_recursion (R (account_at (codes "a") b)) ((account_at (codes "b") 0) ∷ branch_r ∷ (teller_w 3) ∷ []) (refl, (refl, (refl, tt))))
      (AllPairs-cons R (account_at (codes "b") 0) (branch_r ∷ (teller_w 3) ∷ []) (All-from_recursion (R (account_at (codes "b") 0)) (branch_r ∷ (teller_w 3) ∷ []) (refl, (refl, tt)))
      (AllPairs-cons R branch_r ((teller_w 3) ∷ []) (All-from_recursion (R branch_r) ((teller_w 3) ∷ []) (refl, tt))
      (AllPairs-cons R (teller_w 3) [] (λ k d l. absurd (omega arith)) (λ i j d k l. absurd (omega arith)))))

  within : All (IsLinkWithin (bank 3 b).nodes) (bank 3 b).links
  within = All-from_recursion (IsLinkWithin (bank 3 b).nodes) (bank 3 b).links
      (record { begins = omega arith; ends = omega arith }, (record { begins = omega arith; ends = omega arith }, (record { begins = omega arith; ends = omega arith }, tt)))

  link_cases : (k : Link) → Contains (bank 3 b).links k → (from_a ≡ k) ⊎ ((to_b ≡ k) ⊎ (by_w ≡ k))
  link_cases k (zero, low, same) = inl same
  link_cases k (suc zero, low, same) = inr (inl same)
  link_cases k (suc (suc zero), low, same) = inr (inr same)
  link_cases k (suc (suc (suc n)), low, same) = absurd (omega (arith, low))

  -- links begin at the branch and at the teller
  pub begins : (i r j x : ℕ) → IsLinked (bank 3 b) i r j x → (2 ≡ i) ⊎ (3 ≡ i)
  begins i r j x l =
      let w = link_if (bank 3 b) i r j x l in
      ⊎_elim
      (λ (e : from_a ≡ w.link). inl (ap (λ (k : Link). k.from) e ∙ w.from))
      (λ (later : (to_b ≡ w.link) ⊎ (by_w ≡ w.link)). ⊎_elim
      (λ (e : to_b ≡ w.link). inl (ap (λ (k : Link). k.from) e ∙ w.from))
      (λ (e : by_w ≡ w.link). inr (ap (λ (k : Link). k.from) e ∙ w.from)) later)
      (link_cases w.link w.there)

  -- a service of the branch alone makes calls, and they come to accounts
  abbrev rank : ℕ → ℕ
  rank zero = 0
  rank (suc zero) = 0
  rank (suc (suc zero)) = 1
  rank (suc (suc (suc i))) = 0

  falls_from : (i j : ℕ) (serves provide require : ℕ) → (graph_wiring (bank 3 b)).Depends i serves (record { node = i; require = require }) → (graph_wiring (bank 3 b)).Linked (record { node = i; require = require }) j provide → rank j < rank i
  falls_from zero j zero x r d l = absurd (both_ways false refl d.1)
  falls_from zero j (suc s) x r d l = absurd (both_ways false refl d.1)
  falls_from (suc zero) j zero x r d l = absurd (both_ways false refl d.1)
  falls_from (suc zero) j (suc s) x r d l = absurd (both_ways false refl d.1)
  falls_from (suc (suc zero)) j s x r d l =
      let w = link_if (bank 3 b) 2 r j x l in
      ⊎_elim
      (λ (e : from_a ≡ w.link). let one : 0 ≡ j = ap (λ (k : Link). k.to) e ∙ w.to in subst (λ k. rank k < 1) one (omega arith))
      (λ (later : (to_b ≡ w.link) ⊎ (by_w ≡ w.link)). ⊎_elim
      (λ (e : to_b ≡ w.link). let one : 1 ≡ j = ap (λ (k : Link). k.to) e ∙ w.to in subst (λ k. rank k < 1) one (omega arith))
      (λ (e : by_w ≡ w.link). let three : 3 ≡ 2 = ap (λ (k : Link). k.from) e ∙ w.from in absurd (omega (arith, three))) later)
      (link_cases w.link w.there)
  falls_from (suc (suc (suc zero))) j zero x r d l = absurd (both_ways false refl d.1)
  falls_from (suc (suc (suc zero))) j (suc s) x r d l = absurd (both_ways false refl d.1)
  falls_from (suc (suc (suc (suc i)))) j s x r d l = absurd (both_ways false refl d.1)

  ranks : Ranks (MayCall (graph_wiring (bank 3 b)))
  ranks = record {
    rank = rank;
    falls = λ i j c.
        let at : c.port.node ≡ i = c.depends.0 in
        falls_from i j c.serves c.provide c.port.require
        (refl, subst (λ k. IsTrue (depends_at (bank 3 b).nodes i c.serves c.port.require)) at c.depends.1)
        (subst (λ k. (graph_wiring (bank 3 b)).Linked (record { node = k; require = c.port.require }) j c.provide) at c.linked);
  }

  pub bank_graph : IsGraph (bank 3 b)
  bank_graph = record { paths_rise = rise; within = within; in_order = refl; few_nodes = omega arith; few_ports = omega arith }

  pub bank_sound : b < 2 ^ 24 → Sound (bank 3 b)
  bank_sound small = record {
    paths_rise = rise;
    arguments = All-from_recursion HasItsArgument (bank 3 b).nodes
        (record { present = refl; below = small }, (record { present = refl; below = omega arith }, (record { present = refl; below = tt }, (record { present = refl; below = omega arith }, tt))));
    within = within;
    in_order = refl;
    no_cycle = acyclic_if_ranked (MayCall (graph_wiring (bank 3 b))) ranks;
  }

-- the two accounts differ, and all else is the same

apart : (m n : ℕ) → (m ≡ n → ⊥) → ¬ Contains (bank 3 n).nodes (account_at (codes "a") m)
apart m n other (zero, low, same) = other (arg_is (ap (λ (x : Node). x.arg) (sym same)))
  where
    arg_is : Some m ≡ Some n → m ≡ n
    arg_is e = cc
apart m n other (suc zero, low, same) = path_is (ap (λ (x : Node). x.path) (sym same))
  where
    path_is : codes "a" ≡ codes "b" → ⊥
    path_is e = both_ways (bytes_eq (codes "a") (codes "b")) refl ((bytes_eq-Decides (codes "a") (codes "b")).1 e)
apart m n other (suc (suc zero), low, same) = path_is (ap (λ (x : Node). x.path) (sym same))
  where
    path_is : codes "a" ≡ codes "r" → ⊥
    path_is e = both_ways (bytes_eq (codes "a") (codes "r")) refl ((bytes_eq-Decides (codes "a") (codes "r")).1 e)
apart m n other (suc (suc (suc zero)), low, same) = path_is (ap (λ (x : Node). x.path) (sym same))
  where
    path_is : codes "a" ≡ codes "w" → ⊥
    path_is e = both_ways (bytes_eq (codes "a") (codes "w")) refl ((bytes_eq-Decides (codes "a") (codes "w")).1 e)
apart m n other (suc (suc (suc (suc k))), low, same) = absurd (omega (arith, low))

module _ (m n : ℕ) (other : m ≡ n → ⊥) where
  gone : IsGone (bank 3 m) (bank 3 n) 0
  gone = record { node = account_at (codes "a") m; here = refl; gone = apart m n other }

  gone_is : (i : ℕ) → IsGone (bank 3 m) (bank 3 n) i → 0 ≡ i
  gone_is zero g = refl
  gone_is (suc i) g = absurd (g.gone (Contains-at (bank 3 n).nodes (suc i) g.node g.here))

  nodes_gone : GoneNodes (bank 3 m) (bank 3 n) (0 ∷ [])
  nodes_gone = takes gone (skips (λ g. omega (arith, gone_is 1 g)) (skips (λ g. omega (arith, gone_is 2 g)) (skips (λ g. omega (arith, gone_is 3 g)) ends)))

  link_gone : ¬ IsKeptLink (bank 3 m) (bank 3 n) from_a
  link_gone (l, there, same) =
      let one : same.to.node ≡ account_at (codes "a") m = sym (node_is same.to.node same.to.here) in
      apart m n other (subst (Contains (bank 3 n).nodes) one (Contains-at (bank 3 n).nodes l.to same.to.node same.to.there))
    where
      node_is : (x : Node) → slice_get (bank 3 m).nodes 0 ≡ Some x → account_at (codes "a") m ≡ x
      node_is x e = cc

  stays : (k : Link) → Contains (bank 3 n).links k → IsTwin (bank 3 m) (bank 3 n) k.from k.from → IsTwin (bank 3 m) (bank 3 n) k.to k.to → IsKeptLink (bank 3 m) (bank 3 n) k
  stays k there from to = (k, there, record { from = from; require = refl; to = to; provide = refl })

  links_gone : GoneLinks (bank 3 m) (bank 3 n) (from_a ∷ [])
  links_gone =
      let b_twin : IsTwin (bank 3 m) (bank 3 n) 1 1 = record { node = (account_at (codes "b") 0); here = refl; there = refl } in
      let r_twin : IsTwin (bank 3 m) (bank 3 n) 2 2 = record { node = branch_r; here = refl; there = refl } in
      let w_twin : IsTwin (bank 3 m) (bank 3 n) 3 3 = record { node = (teller_w 3); here = refl; there = refl } in
      takes link_gone (skips (λ lost. lost (stays to_b (1, omega arith, refl) r_twin b_twin)) (skips (λ lost. lost (stays by_w (2, omega arith, refl) w_twin r_twin)) ends))

branch_touched : IsTouched (bank 3 100) (bank 3 7) 2
branch_touched = inr (record {
  twin = 2;
  require = 0;
  stays = record { node = branch_r; here = refl; there = refl };
  within = omega arith;
  differs = λ same. apart 100 7 (λ e. omega (arith, e)) (subst (Contains (bank 3 7).nodes) (sym (node_is same.0.node same.0.here)) (Contains-at (bank 3 7).nodes 0 same.0.node same.0.there));
})
  where
    node_is : (x : Node) → slice_get (bank 3 100).nodes 0 ≡ Some x → account_at (codes "a") 100 ≡ x
    node_is x e = cc

frozen_if : (i : ℕ) → Frozen (bank 3 100) (bank 3 7) i → Contains (0 ∷ 2 ∷ 3 ∷ []) i
frozen_if zero f = (0, omega arith, refl)
frozen_if (suc zero) f = ⊎_elim
    (λ (t : IsTouched (bank 3 100) (bank 3 7) 1). ⊎_elim
    (λ (g : IsGone (bank 3 100) (bank 3 7) 1). absurd (omega (arith, gone_is 100 7 (λ e. omega (arith, e)) 1 g)))
    (λ (h : HasNewTarget (bank 3 100) (bank 3 7) 1). let low = h.within in absurd (omega (arith, low))) t)
    (λ (r : (n : ℕ) × (q : ℕ) × IsTouched (bank 3 100) (bank 3 7) n × Reach (graph_wiring (bank 3 100)) n (record { node = 1; require = q })).
    let l = reach_linked (graph_wiring (bank 3 100)) r.0 (record { node = 1; require = r.1 }) r.3 in
    ⊎_elim (λ (e : 2 ≡ 1). absurd (omega (arith, e))) (λ (e : 3 ≡ 1). absurd (omega (arith, e))) (begins 100 1 r.1 l.0 l.1 l.2)) f
frozen_if (suc (suc zero)) f = (1, omega arith, refl)
frozen_if (suc (suc (suc zero))) f = (2, omega arith, refl)
frozen_if (suc (suc (suc (suc i)))) f = ⊎_elim
    (λ (t : IsTouched (bank 3 100) (bank 3 7) (suc (suc (suc (suc i))))). ⊎_elim
    (λ (g : IsGone (bank 3 100) (bank 3 7) (suc (suc (suc (suc i))))). absurd (cc (g.here)))
    (λ (h : HasNewTarget (bank 3 100) (bank 3 7) (suc (suc (suc (suc i))))). let low = h.within in absurd (omega (arith, low))) t)
    (λ (r : (n : ℕ) × (q : ℕ) × IsTouched (bank 3 100) (bank 3 7) n × Reach (graph_wiring (bank 3 100)) n (record { node = suc (suc (suc (suc i))); require = q })).
    let l = reach_linked (graph_wiring (bank 3 100)) r.0 (record { node = suc (suc (suc (suc i))); require = r.1 }) r.3 in
    ⊎_elim (λ (e : 2 ≡ suc (suc (suc (suc i)))). absurd (omega (arith, e))) (λ (e : 3 ≡ suc (suc (suc (suc i)))). absurd (omega (arith, e))) (begins 100 (suc (suc (suc (suc i)))) r.1 l.0 l.1 l.2)) f

if_frozen : (i : ℕ) → Contains (0 ∷ 2 ∷ 3 ∷ []) i → Frozen (bank 3 100) (bank 3 7) i
if_frozen i (zero, low, same) = subst (Frozen (bank 3 100) (bank 3 7)) same (inl (inl (gone 100 7 (λ e. omega (arith, e)))))
if_frozen i (suc zero, low, same) = subst (Frozen (bank 3 100) (bank 3 7)) same (inl branch_touched)
if_frozen i (suc (suc zero), low, same) = subst (Frozen (bank 3 100) (bank 3 7)) same (inr (2, 0, branch_touched, direct {x = 0} refl))
if_frozen i (suc (suc (suc k)), low, same) = absurd (omega (arith, low))

steps : HasStepsBetween (bank 3 100) (bank 3 7) replacing
steps = record {
  unlink = (from_a ∷ [], links_gone 100 7 (λ e. omega (arith, e)), refl);
  remove = nodes_gone 100 7 (λ e. omega (arith, e));
  create = nodes_gone 7 100 (λ e. omega (arith, e));
  link = links_gone 7 100 (λ e. omega (arith, e));
  freeze = λ i. (if_frozen i, frozen_if i);
}

shift_of : IsShift (bank 3 100) (bank 3 7) (a_goes_on ∷ []) (record { old = 0; new = 0 })
shift_of = record {
  move = a_goes_on;
  there = (0, omega arith, refl);
  leads = record {
    removed = record { node = account_at (codes "a") 100; here = refl; named = refl; gone = apart 100 7 (λ e. omega (arith, e)) };
    created = record { node = account_at (codes "a") 7; here = refl; named = refl; gone = apart 7 100 (λ e. omega (arith, e)) };
  };
}

shifts : IsShifts (bank 3 100) (bank 3 7) (a_goes_on ∷ []) (record { old = 0; new = 0 } ∷ [])
shifts = record {
  sound = λ s there. subst (IsShift (bank 3 100) (bank 3 7) (a_goes_on ∷ [])) (one s there) shift_of;
  complete = λ s is.
      let r = is.leads.removed in
      let c = is.leads.created in
      let from : 0 ≡ s.old = gone_is 100 7 (λ e. omega (arith, e)) s.old (record { node = r.node; here = r.here; gone = r.gone }) in
      let to : 0 ≡ s.new = gone_is 7 100 (λ e. omega (arith, e)) s.new (record { node = c.node; here = c.here; gone = c.gone }) in
      (0, omega arith, λ i. record { old = from i; new = to i });
  rise = λ k low. absurd (omega (arith, low));
}
  where
    one : (s : Shift) → Contains (record { old = 0; new = 0 } ∷ []) s → record { old = 0; new = 0 } ≡ s
    one s (zero, low, same) = same
    one s (suc k, low, same) = absurd (omega (arith, low))

rises : IsStrictlyIncreasing (0 ∷ 2 ∷ 3 ∷ [])
rises zero low = omega arith
rises (suc zero) low = omega arith
rises (suc (suc k)) low = absurd (omega (arith, low))

pub is_plan : IsPlanOf (bank 3 100) (bank 3 7) (a_goes_on ∷ []) replacing
is_plan = record { steps = steps; moves = shifts; freeze_rises = rises }

may_move : MayMoveAll (bank 3 100) (bank 3 7) (a_goes_on ∷ []) 1
unfolding shift_of
may_move zero m low at = subst (MayMove (bank 3 100) (bank 3 7) []) (move_is at) (record {
  fit = record { source = 0; target = 0; leads = shift_of.leads; same_kind = refl };
  other_source = λ h. absurd (omega (arith, h.1));
  other_target = λ h. absurd (omega (arith, h.1));
})
  where
    move_is : Some a_goes_on ≡ Some m → a_goes_on ≡ m
    move_is e = cc
may_move (suc k) m low at = absurd (omega (arith, low))

can_plan : CanPlan (bank 3 100) (bank 3 7) (a_goes_on ∷ []) (made_in (state_after bank_closed).config)
can_plan = record {
  may_move = may_move;
  nodes = 1;
  ports = 0;
  wanted = record { created = 0 ∷ []; gone = nodes_gone 7 100 (λ e. omega (arith, e)); nodes_are = refl; ports_are = refl };
  room = record { nodes_fit = omega arith; ports_fit = omega arith };
}

runs : IsRun bank_closed
unfolding has_no_cycle reaches
runs = run_if bank_closed refl

drained_at : (p : ℕ) → p < length (state_after bank_closed).config.gates → is_one_of (bank 3 100) replacing.freeze (state_after bank_closed).config (owner (state_after bank_closed).config p) ≡ true → is_drained (state_after bank_closed) p ≡ true
drained_at zero low h = refl
drained_at (suc zero) low h = refl
drained_at (suc (suc zero)) low h = refl
drained_at (suc (suc (suc p))) low h = absurd (omega (arith, low))

pub may_commit : MayCommit (bank 3 100) (bank 3 7) (a_goes_on ∷ []) replacing bank_closed
may_commit = record {
  old_graph = bank_graph 100;
  new_graph = bank_graph 7;
  new_sound = bank_sound 7 (omega arith);
  is_plan = is_plan;
  can_plan = can_plan;
  run = runs;
  graph = graph_stays (bank 3 100) (start_of (bank 3 100)) (Close 0 ∷ Close 1 ∷ Close 2 ∷ []) runs refl (graph_started (bank 3 100) (bank_sound 100 (omega arith)) (omega arith) (omega arith));
  drained = drained_at;
}

-- the account that goes stands before, and isn't in the new graph
pub no_part : ¬ IsPart (state_after bank_closed).config (bank 3 7)
no_part part = apart 100 7 (λ e. omega (arith, e))
    (part.nodes 0 (account_at (codes "a") 100) (record { made = record { node = account_at (codes "a") 100; first_port = 0; from = None; live = true }; there = refl; live = refl; is_node = refl }))
