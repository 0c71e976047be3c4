-- The rows of plans.
use Rattle.std.proofs.Common.{◌≡◌, ◌≢◌, ◌∙◌, ℕ, ◌<◌, List, [], ◌∷◌, Some, codes, zero, suc, get_or, take, slice_get, refl, ap, sym, subst, inl, inr, arith, Contains}
use Rattle.std.proofs.lemmas.Option.{none-some, same_Some}
use Rattle.std.proofs.lemmas.List.Elements.{All-nil}
use Rattle.base.proofs.ContainsLaws.{Contains-nil, Contains-one}
use Rattle.config_graph.specs.Graph.{IsGraph}
use Rattle.config_graph.specs.Kinds.{row}
use Rattle.config_graph.specs.declared.kind.Kind.{Kind}
use Rattle.config_graph.specs.declared.node.Node.{Node}
use Rattle.change_plan.specs.Moves.{IsFit, MayMove, MoveLeads}
use Rattle.change_plan.specs.Selects.Selects.{ends, takes}
use Rattle.change_plan.specs.declared.error.PlanError.TheVariants.{NotRemoved, NotCreated, KindsDiffer, MovedTwice, NodesFull, PortsFull}
use Rattle.change_plan.specs.declared.plan_data.Move.{Move}
use Rattle.worked_fault_laws.specs.Plans.{IsRefused, empty, fork_b, made, move, one, sink_a, sink_b, source_b}

pub empty_is : IsGraph empty
empty_is =
    record {
      paths_rise = λ i j d lt within. absurd (omega (arith, lt, within));
      within = All-nil _;
      in_order = refl;
      few_nodes = omega arith;
      few_ports = omega arith;
    }

pub sink_a_is : IsGraph (one sink_a)
sink_a_is =
    record {
      paths_rise = λ i j d lt within. absurd (omega (arith, lt, within));
      within = All-nil _;
      in_order = refl;
      few_nodes = omega arith;
      few_ports = omega arith;
    }

pub sink_b_is : IsGraph (one sink_b)
sink_b_is =
    record {
      paths_rise = λ i j d lt within. absurd (omega (arith, lt, within));
      within = All-nil _;
      in_order = refl;
      few_nodes = omega arith;
      few_ports = omega arith;
    }

fork_b_is : IsGraph (one fork_b)
fork_b_is =
    record {
      paths_rise = λ i j d lt within. absurd (omega (arith, lt, within));
      within = All-nil _;
      in_order = refl;
      few_nodes = omega arith;
      few_ports = omega arith;
    }

source_b_is : IsGraph (one source_b)
source_b_is =
    record {
      paths_rise = λ i j d lt within. absurd (omega (arith, lt, within));
      within = All-nil _;
      in_order = refl;
      few_nodes = omega arith;
      few_ports = omega arith;
    }

-- no move stands before the first
pub none_before : {P : Type 0} (k : ℕ) → k < 0 → P
none_before k low = absurd (omega (arith, low))

pub not_removed : IsRefused empty empty (move ∷ []) (made 0 0) (NotRemoved (codes "a"))
not_removed =
    record {
      old_is = empty_is;
      new_is = empty_is;
      refused = inl (record {
        count = 0;
        move = move;
        at = refl;
        before = λ k m low at. none_before k low;
        fault = (refl, λ gone. none-some gone.1.node gone.1.here);
      });
    }

pub not_created : IsRefused (one sink_a) empty (move ∷ []) (made 0 0) (NotCreated (codes "b"))
not_created =
    record {
      old_is = sink_a_is;
      new_is = empty_is;
      refused = inl (record {
        count = 0;
        move = move;
        at = refl;
        before = λ k m low at. none_before k low;
        fault = (
          refl,
          (0, record { node = sink_a; here = refl; named = refl; gone = λ there. Contains-nil sink_a there }),
          λ gone. none-some gone.1.node gone.1.here,
        );
      });
    }

-- nodes of other paths are others
other_path : (n m : Node) → get_or n.path 0 0 ≢ get_or m.path 0 0 → ¬ Contains (m ∷ []) n
other_path n m letters there = letters (ap (λ (x : Node). get_or x.path 0 0) (Contains-one m n there))

a_and_b : ◌≢◌ {A = ℕ} 97 98
a_and_b same = omega (arith, same)

b_and_a : ◌≢◌ {A = ℕ} 98 97
b_and_a same = omega (arith, same)

leads : (b : Node) → b.path ≡ codes "b" → MoveLeads (one sink_a) (one b) move 0 0
leads b path =
    let letter : get_or b.path 0 0 ≡ 98 = ap (λ (p : List ℕ). get_or p 0 0) path in
    record {
      removed = record { node = sink_a; here = refl; named = refl; gone = other_path sink_a b (λ same. a_and_b (same ∙ letter)) };
      created = record { node = b; here = refl; named = path; gone = other_path b sink_a (λ same. b_and_a (sym letter ∙ same)) };
    }

pub kinds_differ : IsRefused (one sink_a) (one fork_b) (move ∷ []) (made 0 0) (KindsDiffer (codes "a") (codes "b"))
unfolding leads
kinds_differ =
    record {
      old_is = sink_a_is;
      new_is = fork_b_is;
      refused = inl (record {
        count = 0;
        move = move;
        at = refl;
        before = λ k m low at. none_before k low;
        fault = (
          refl,
          refl,
          record {
            source = 0;
            target = 0;
            leads = leads fork_b refl;
            differ = λ same.
                let numbers : ◌≡◌ {A = ℕ} 6 2 = ap (λ (k : Kind). (row k).number) same in
                omega (arith, numbers);
          },
        );
      });
    }

fit : IsFit (one sink_a) (one sink_b) move
unfolding leads
fit = record { source = 0; target = 0; leads = leads sink_b refl; same_kind = refl }

first_may : MayMove (one sink_a) (one sink_b) [] move
first_may = record { fit = fit; other_source = λ any. none_before any.0 any.2; other_target = λ any. none_before any.0 any.2 }

pub moved_twice : IsRefused (one sink_a) (one sink_b) (move ∷ move ∷ []) (made 0 0) (MovedTwice (codes "a"))
unfolding first_may
moved_twice =
    record {
      old_is = sink_a_is;
      new_is = sink_b_is;
      refused = inl (record {
        count = 1;
        move = move;
        at = refl;
        before = before;
        fault = (fit, inl (refl, (0, move, omega arith, refl, refl)));
      });
    }
  where
    before : (k : ℕ) (m : Move) → k < 1 → slice_get (move ∷ move ∷ []) k ≡ Some m → MayMove (one sink_a) (one sink_b) (take k (move ∷ move ∷ [])) m
    before zero m low at = subst (MayMove (one sink_a) (one sink_b) []) (same_Some move m at) first_may
    before (suc k) m low at = absurd (omega (arith, low))

pub nodes_full : IsRefused empty (one sink_b) [] (made 1023 0) (NodesFull 1023 1)
nodes_full =
    record {
      old_is = empty_is;
      new_is = sink_b_is;
      refused = inr (
        λ k m low at. none_before k low,
        (
          1,
          0,
          record {
            created = 0 ∷ [];
            gone = takes (record { node = sink_b; here = refl; gone = λ there. Contains-nil sink_b there }) ends;
            nodes_are = refl;
            ports_are = refl;
          },
          record { made_is = refl; wanted_is = refl; full = omega arith },
        ),
      );
    }

pub ports_full : IsRefused empty (one source_b) [] (made 0 4096) (PortsFull 4096 1)
ports_full =
    record {
      old_is = empty_is;
      new_is = source_b_is;
      refused = inr (
        λ k m low at. none_before k low,
        (
          1,
          1,
          record {
            created = 0 ∷ [];
            gone = takes (record { node = source_b; here = refl; gone = λ there. Contains-nil source_b there }) ends;
            nodes_are = refl;
            ports_are = refl;
          },
          (omega arith, record { made_is = refl; wanted_is = refl; full = omega arith }),
        ),
      );
    }
