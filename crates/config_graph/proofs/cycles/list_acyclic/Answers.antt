use Rattle.std.proofs.Common.{◌≡◌, ℕ, Bool, List, ◌∷◌, [], ◌++◌, ◌<◌, ◌∙◌, ap, sym, arith, false, true, length, refl, get_or, inl, inr, subst, vec_len, All, Contains, zero-add, ◌⊎◌}
use Rattle.std.specs.List.{range_with_len}
use Rattle.std.proofs.lemmas.List.{length-replicate, get_or_read}
use Rattle.std.proofs.lemmas.List.FromFn.{get_or-range_with_len, length-range_with_len}
use Rattle.config_graph.specs.Cycles.{LeadsToUnmarked, OnCycle, graph_wiring}
use Rattle.config_graph.proofs.cycles.list_acyclic.Goals.{else-not-index-via-then-not-index+else-leads_only_to, else-not-index-via-else-not-index}
use Rattle.std.proofs.lemmas.Bool.{false≢true}
use Rattle.config_graph.specs.Graph.{Graph}
use Rattle.config_graph.specs.Wiring.{MayCall}
use Rattle.config_graph.specs.Marks.{IsMarked}
use Rattle.config_graph.proofs.WalkLaws.{acyclic_next}
use Rattle.config_graph.proofs.ClosureLaws.{IsClosedAt, closed_left, closed_marked, cycle_if_unmarked}
use Rattle.config_graph.proofs.MarkLaws.{marked_only, none_marked}
use Rattle.config_graph.proofs.SearchLaws.{clear_falls}
use Rattle.config_graph.proofs.cycles.list_acyclic.Goals as goal
use Rattle.base.proofs.RangeLaws.{range_below}
use Rattle.base.proofs.ListLaws.{All-last, All-before_last}
use Rattle.config_graph.proofs.cycles.list_acyclic.Goals.{In_ok-push_predecessors}

in_range : (n i : ℕ) → i < n → Contains (range_with_len 0 n) i
in_range n i low = (i, omega (arith, low, length-range_with_len 0 n), get_or-range_with_len 0 n i i low ∙ zero-add i)

pub loop-node-init : goal.loop-node-init
loop-node-init c =
    let count = c.node_count-count in
    record {
      long = omega (arith, c.in_ok-acyclic.acyclic.ok.0, ap length c.in_ok-acyclic.ensures, length-replicate count.result false, count.ensures.count);
      nodes = rw c.in_ok-waiting.ensures (range_below (length c.args.graph.now.nodes) count.result count.ensures.count);
      acyclic = λ i h. absurd (none_marked count.result i (rw c.in_ok-acyclic.ensures at h));
      closed = λ i low. inr (inl (rw c.in_ok-waiting.ensures (in_range count.result i (omega (arith, low, count.ensures.count)))));
    }

-- the node that was taken from the waiting ones, and those that still wait
waiting_are : (c : In_ok-push_predecessors) → All (λ i. i < length c.args.graph.now.nodes) (c.pop.new.self.items ++ c.in-Some.node ∷ [])
waiting_are c = subst (All (λ i. i < length c.args.graph.now.nodes)) c.in-Some.ensures.items c.loop-node.invariant.nodes

within : (c : In_ok-push_predecessors) → c.in-Some.node < length c.loop-node.acyclic.items
within c =
    let low = All-last (λ i. i < length c.args.graph.now.nodes) c.pop.new.self.items c.in-Some.node (waiting_are c) in
    omega (arith, low, c.loop-node.acyclic.ok.0, c.loop-node.invariant.long)

clear : (c : In_ok-push_predecessors) → get_or c.loop-node.acyclic.items c.in-Some.node true ≡ false
clear c =
    sym (get_or_read c.loop-node.acyclic.items c.in-Some.node c.index.result.now (within c) c.index.ensures true) ∙ c.if-not-index.true

pub loop-node-smaller-then-leads_only_to : goal.loop-node-smaller-then-leads_only_to
loop-node-smaller-then-leads_only_to c =
    clear_falls c.loop-node.acyclic.items c.in-Some.node (length c.args.graph.now.links) (vec_len c.loop-node.waiting) (vec_len c.pop.new.self) (vec_len c.push_predecessors.new.waiting) (clear c) c.in_ok-push_predecessors.ensures.count c.in-Some.ensures.len

pub loop-node-preserved-then-leads_only_to : goal.loop-node-preserved-then-leads_only_to
loop-node-preserved-then-leads_only_to c =
    let g = c.args.graph.now in
    let node = c.in-Some.node in
    let acyclic = c.loop-node.acyclic.items in
    record {
      long = c.loop-node.invariant.long;
      nodes = c.in_ok-push_predecessors.ensures.nodes (All-before_last (λ i. i < length g.nodes) c.pop.new.self.items node (waiting_are c));
      acyclic = λ i has.
          elim (marked_only acyclic i node has) [
            | inl before ↦ c.loop-node.invariant.acyclic i before
            | inr same ↦
                let leads = λ (j : ℕ) (h : MayCall (graph_wiring g) node j). c.loop-node.invariant.acyclic j (subst (λ bits. IsMarked bits j) c.deref.ensures.value (c.if-leads_only_to.ensures.marked refl j h)) in
                subst (λ k. ¬ OnCycle g k) (sym same) (acyclic_next (MayCall (graph_wiring g)) node leads)
          ];
      closed = λ i low.
          closed_marked g acyclic c.pop.new.self.items node (within c) c.push_predecessors.new.waiting.items c.in_ok-push_predecessors.ensures.kept c.in_ok-push_predecessors.ensures.callers i
          (subst (λ xs. IsClosedAt g acyclic xs i) c.in-Some.ensures.items (c.loop-node.invariant.closed i low));
    }

pub loop-node-preserved : goal.loop-node-preserved
loop-node-preserved c =
    let g = c.args.graph.now in
    let node = c.in-Some.node in
    let acyclic = c.loop-node.acyclic.items in
    let P : ℕ → Type 0 = λ i. i < length g.nodes in
    let nodes = subst (All P) c.in-Some.ensures.items c.loop-node.invariant.nodes in
    let few = All-last P c.pop.new.self.items node nodes in
    let low : node < length acyclic = omega (arith, few, c.loop-node.acyclic.ok.0, c.loop-node.invariant.long) in
    let done : IsMarked acyclic node ⊎ LeadsToUnmarked g acyclic node =
    elim c.else-not-index.branch [
      | else-not-index-via-then-not-index+else-leads_only_to w ↦
          inr (subst (λ bits. LeadsToUnmarked g bits node) w.deref.ensures.value (w.if-leads_only_to.ensures.unmarked (λ t. false≢true t)))
      | else-not-index-via-else-not-index w ↦ inl (sym (get_or_read acyclic node c.index.result.now low c.index.ensures false) ∙ w.if-not-index.false)
    ] in
    record {
      long = c.loop-node.invariant.long;
      nodes = All-before_last P c.pop.new.self.items node nodes;
      acyclic = c.loop-node.invariant.acyclic;
      closed = λ i within_. closed_left g acyclic c.pop.new.self.items node done i (subst (λ xs. IsClosedAt g acyclic xs i) c.in-Some.ensures.items (c.loop-node.invariant.closed i within_));
    }

-- when none waits any more
none_waits : (g : Graph) (marks : List Bool) (waiting : List ℕ) → length waiting ≡ 0 → (i : ℕ) → IsClosedAt g marks waiting i → IsMarked marks i ⊎ LeadsToUnmarked g marks i
none_waits g marks waiting none i (inl marked) = inl marked
none_waits g marks waiting none i (inr (inl waits)) = absurd (omega (arith, none, waits.1))
none_waits g marks waiting none i (inr (inr leads)) = inr leads

pub returns-clause-cycle : goal.returns-clause-cycle
returns-clause-cycle c =
    let g = c.args.graph.now in
    let acyclic = c.loop-node.acyclic in
    let waiting = c.loop-node.waiting in
    let none : length waiting.items ≡ 0 = omega (arith, c.in_default.ensures.cases.0, waiting.ok.0) in
    cycle_if_unmarked g c.node_count-count.ensures.graph.within acyclic.items (omega (arith, acyclic.ok.0, c.loop-node.invariant.long))
    (λ i low. none_waits g acyclic.items waiting.items none i (c.loop-node.invariant.closed i low))
