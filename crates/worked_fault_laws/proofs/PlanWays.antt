-- The further rows of plans: by which way a source isn't removed, a target isn't created, and an end stands twice.
use Rattle.std.proofs.Common.{◌≡◌, ℕ, false, List, [], ◌∷◌, bytes_eq, codes, zero, suc, refl, ap, subst, sym, ◌∙◌, inl, inr, arith, Contains}
use Rattle.std.specs.Cmp.Lexicographic.{slice_cmp}
use Rattle.std.specs.Ordering.{nat_cmp}
use Rattle.std.specs.declared.cmp.Ordering.TheVariants.{Less}
use Rattle.std.proofs.lemmas.Option.{same_Some}
use Rattle.std.proofs.lemmas.List.Elements.{All-nil}
use Rattle.base.proofs.BytesLaws.{different_bytes}
use Rattle.base.proofs.ContainsLaws.{Contains-at, Contains-cons_cases, Contains-one}
use Rattle.config_graph.specs.Graph.{Graph, IsGraph, PathsRise}
use Rattle.config_graph.specs.declared.node.Node.{Node}
use Rattle.change_plan.specs.Moves.{IsFit, IsPathGone, MayMove, MayMoveAll, MovesFrom}
use Rattle.change_plan.specs.declared.error.PlanError.TheVariants.{NotRemoved, NotCreated, MovedTwice}
use Rattle.change_plan.specs.declared.plan_data.Move.{Move}
use Rattle.worked_fault_laws.specs.Plans.{IsRefused, a_to_c, b_to_c, empty, made, move, one, sink_a, sink_b, sink_c, two}
use Rattle.worked_fault_laws.proofs.PlanRows.{empty_is, none_before, sink_a_is, sink_b_is}

-- ---- graphs

sink_c_is : IsGraph (one sink_c)
sink_c_is =
    record {
      paths_rise = λ i j d lt within. absurd (omega (arith, lt, within));
      within = All-nil _;
      in_order = refl;
      few_nodes = omega arith;
      few_ports = omega arith;
    }

two_rise : (n m : Node) → slice_cmp nat_cmp n.path m.path ≡ Less → PathsRise (n ∷ m ∷ [])
two_rise n m less zero (suc zero) d lt within = less
two_rise n m less zero zero d lt within = absurd (omega (arith, lt))
two_rise n m less zero (suc (suc j)) d lt within = absurd (omega (arith, within))
two_rise n m less (suc i) j d lt within = absurd (omega (arith, lt, within))

a_and_b_are : IsGraph (two sink_a sink_b)
a_and_b_are =
    record { paths_rise = two_rise sink_a sink_b refl; within = All-nil _; in_order = refl; few_nodes = omega arith; few_ports = omega arith }

b_and_c_are : IsGraph (two sink_b sink_c)
b_and_c_are =
    record { paths_rise = two_rise sink_b sink_c refl; within = All-nil _; in_order = refl; few_nodes = omega arith; few_ports = omega arith }

-- ---- nodes of other paths

not_one : (n m : Node) → bytes_eq n.path m.path ≡ false → ¬ Contains (m ∷ []) n
not_one n m other there = different_bytes n.path m.path other (ap (λ (x : Node). x.path) (Contains-one m n there))

not_two : (n m k : Node) → bytes_eq n.path m.path ≡ false → bytes_eq n.path k.path ≡ false → ¬ Contains (m ∷ k ∷ []) n
not_two n m k other last there =
    elim (Contains-cons_cases m (k ∷ []) n there) as (λ _. ⊥) [
      | inl same ↦ different_bytes n.path m.path other (ap (λ (x : Node). x.path) same)
      | inr behind ↦ not_one n k last behind
    ]

-- a graph of one node has no path but that of the node
no_other_path : (node : Node) (h : Graph) (path : List ℕ) → bytes_eq node.path path ≡ false → ¬ IsPathGone (one node) h path
no_other_path node h path other gone =
    different_bytes node.path path other
    (ap (λ (x : Node). x.path) (sym (Contains-one node gone.1.node (Contains-at (node ∷ []) gone.0 gone.1.node gone.1.here))) ∙ gone.1.named)

-- ---- ends that aren't gone, or not created

pub source_stays : IsRefused (one sink_a) (one sink_a) (move ∷ []) (made 0 0) (NotRemoved (codes "a"))
source_stays =
    record {
      old_is = sink_a_is;
      new_is = sink_a_is;
      refused = inl (record {
        count = 0;
        move = move;
        at = refl;
        before = λ k m low at. none_before k low;
        fault = (refl, λ gone. gone.1.gone (Contains-at (sink_a ∷ []) gone.0 gone.1.node gone.1.here));
      });
    }

pub other_source : IsRefused (one sink_b) empty (move ∷ []) (made 0 0) (NotRemoved (codes "a"))
other_source =
    record {
      old_is = sink_b_is;
      new_is = empty_is;
      refused = inl (record {
        count = 0;
        move = move;
        at = refl;
        before = λ k m low at. none_before k low;
        fault = (refl, no_other_path sink_b empty (codes "a") refl);
      });
    }

-- a node of the one graph is in the other
among_both : (node : Node) → Contains (one sink_b).nodes node → Contains (two sink_a sink_b).nodes node
among_both node there =
    subst (Contains (sink_a ∷ sink_b ∷ [])) (sym (Contains-one sink_b node there)) (Contains-at (sink_a ∷ sink_b ∷ []) 1 sink_b refl)

pub target_stays : IsRefused (two sink_a sink_b) (one sink_b) (move ∷ []) (made 0 0) (NotCreated (codes "b"))
target_stays =
    record {
      old_is = a_and_b_are;
      new_is = sink_b_is;
      refused = inl (record {
        count = 0;
        move = move;
        at = refl;
        before = λ k m low at. none_before k low;
        fault = (
          refl,
          (0, record { node = sink_a; here = refl; named = refl; gone = not_one sink_a sink_b refl }),
          λ gone. gone.1.gone (among_both gone.1.node (Contains-at (sink_b ∷ []) gone.0 gone.1.node gone.1.here)),
        );
      });
    }

pub other_target : IsRefused (one sink_a) (one sink_c) (move ∷ []) (made 0 0) (NotCreated (codes "b"))
other_target =
    record {
      old_is = sink_a_is;
      new_is = sink_c_is;
      refused = inl (record {
        count = 0;
        move = move;
        at = refl;
        before = λ k m low at. none_before k low;
        fault = (
          refl,
          (0, record { node = sink_a; here = refl; named = refl; gone = not_one sink_a sink_c refl }),
          no_other_path sink_c (one sink_a) (codes "b") refl,
        );
      });
    }

-- ---- ends that stand twice

-- the first of two moves may be made
first_of_two : (old new : Graph) (first second : Move) → IsFit old new first → MayMoveAll old new (first ∷ second ∷ []) 1
first_of_two old new first second fit zero m low at =
    subst (MayMove old new []) (same_Some first m at)
    (record { fit = fit; other_source = λ any. none_before any.0 any.2; other_target = λ any. none_before any.0 any.2 })
first_of_two old new first second fit (suc k) m low at = absurd (omega (arith, low))

a_moves_to_b : IsFit (one sink_a) (two sink_b sink_c) move
a_moves_to_b =
    record {
      source = 0;
      target = 0;
      leads = record {
        removed = record { node = sink_a; here = refl; named = refl; gone = not_two sink_a sink_b sink_c refl refl };
        created = record { node = sink_b; here = refl; named = refl; gone = not_one sink_b sink_a refl };
      };
      same_kind = refl;
    }

a_moves_to_c : IsFit (one sink_a) (two sink_b sink_c) a_to_c
a_moves_to_c =
    record {
      source = 0;
      target = 1;
      leads = record {
        removed = record { node = sink_a; here = refl; named = refl; gone = not_two sink_a sink_b sink_c refl refl };
        created = record { node = sink_c; here = refl; named = refl; gone = not_one sink_c sink_a refl };
      };
      same_kind = refl;
    }

pub source_twice : IsRefused (one sink_a) (two sink_b sink_c) (move ∷ a_to_c ∷ []) (made 0 0) (MovedTwice (codes "a"))
source_twice =
    record {
      old_is = sink_a_is;
      new_is = b_and_c_are;
      refused = inl (record {
        count = 1;
        move = a_to_c;
        at = refl;
        before = first_of_two (one sink_a) (two sink_b sink_c) move a_to_c a_moves_to_b;
        fault = (a_moves_to_c, inl (refl, (0, move, omega arith, refl, refl)));
      });
    }

a_joins_c : IsFit (two sink_a sink_b) (one sink_c) a_to_c
a_joins_c =
    record {
      source = 0;
      target = 0;
      leads = record {
        removed = record { node = sink_a; here = refl; named = refl; gone = not_one sink_a sink_c refl };
        created = record { node = sink_c; here = refl; named = refl; gone = not_two sink_c sink_a sink_b refl refl };
      };
      same_kind = refl;
    }

b_joins_c : IsFit (two sink_a sink_b) (one sink_c) b_to_c
b_joins_c =
    record {
      source = 1;
      target = 0;
      leads = record {
        removed = record { node = sink_b; here = refl; named = refl; gone = not_one sink_b sink_c refl };
        created = record { node = sink_c; here = refl; named = refl; gone = not_two sink_c sink_a sink_b refl refl };
      };
      same_kind = refl;
    }

only_from_a : ¬ MovesFrom (a_to_c ∷ []) (codes "b")
only_from_a (zero, m, low, is, from) = different_bytes (codes "a") (codes "b") refl (ap (λ (x : Move). x.from) is ∙ from)
only_from_a (suc k, m, low, is, from) = omega (arith, low)

pub target_twice : IsRefused (two sink_a sink_b) (one sink_c) (a_to_c ∷ b_to_c ∷ []) (made 0 0) (MovedTwice (codes "c"))
target_twice =
    record {
      old_is = a_and_b_are;
      new_is = sink_c_is;
      refused = inl (record {
        count = 1;
        move = b_to_c;
        at = refl;
        before = first_of_two (two sink_a sink_b) (one sink_c) a_to_c b_to_c a_joins_c;
        fault = (b_joins_c, inr (refl, only_from_a, (0, a_to_c, omega arith, refl, refl)));
      });
    }
