-- Stages of a change for which there is room have few nodes and ports, and so are graphs.
use Rattle.std.proofs.Common.{◌≡◌, ◌≤◌, ℕ, suc, List, [], ◌∷◌, ◌++◌, length, subst, inl, inr, arith, Contains}
use Rattle.std.specs.Cmp.Lexicographic.{slice_cmp}
use Rattle.std.specs.Ordering.{nat_cmp}
use Rattle.std.specs.declared.cmp.Ordering.TheVariants.{Less}
use Rattle.std.proofs.lemmas.List.Elements.{Contains-append_left, Contains-append_right}
use Rattle.std.proofs.lemmas.List.Sums.{sum_by-append}
use Rattle.config_graph.specs.Graph.{Graph, IsGraph, PathsRise, ports, requires_of}
use Rattle.config_graph.specs.Sound.{Sound}
use Rattle.config_graph.specs.declared.node.Made.{Made}
use Rattle.config_graph.specs.declared.node.Node.{Node}
use Rattle.config_graph.specs.declared.TheConstants.{MAX_NODES, MAX_PORTS}
use Rattle.config_graph.proofs.NumberingLaws.{length-ports}
use Rattle.config_graph.proofs.PathLaws.{irreflexive}
use Rattle.change_plan.specs.Refusals.{CanPlan}
use Rattle.change_plan.specs.declared.plan_data.Move.{Move}
use Rattle.change_parts.specs.Stages.{IsAfter}
use Rattle.change_parts.proofs.CountLaws.{Distinct, sum_within}
use Rattle.change_parts.proofs.CountLaws.Distinct.{nil, cons}
use Rattle.change_parts.proofs.RoomLaws.{gone_length, gone_sum, is_gone, ns}
use Rattle.base.proofs.SumLaws.{one_each}

-- ---- nodes in the order of their paths stand once, so there are no more of them than in a list that has them all

rest_rises : (n : Node) (nodes : List Node) → PathsRise (n ∷ nodes) → PathsRise nodes
rest_rises n nodes rise i j d low below = rise (suc i) (suc j) d (omega (arith, low)) (omega (arith, below))

not_later : (n : Node) (nodes : List Node) → PathsRise (n ∷ nodes) → ¬ Contains nodes n
not_later n nodes rise (k, below, is) =
    irreflexive n.path (subst (λ (m : Node). slice_cmp nat_cmp n.path m.path ≡ Less) is (rise 0 (suc k) n (omega arith) (omega (arith, below))))

distinct : (nodes : List Node) → PathsRise nodes → Distinct nodes
distinct [] rise = nil
distinct (n ∷ nodes) rise = cons (not_later n nodes rise) (distinct nodes (rest_rises n nodes rise))

-- ---- stages

-- where so much was made with the old graph, and there is room for what the change creates
module _ (old new : Graph) (new_graph : IsGraph new) (moves : List Move) (made : Made) (can : CanPlan old new moves made) (nodes_made : length old.nodes ≤ made.nodes) (ports_made : length (ports old.nodes) ≤ made.ports)
    (applied : List (List ℕ)) (stage : Graph) (stage_is : IsAfter old new moves applied old stage) where
  created : List Node
  created = ns new old new_graph.paths_rise can.wanted.created can.wanted.gone

  in_both : (n : Node) → Contains stage.nodes n → Contains (old.nodes ++ created) n
  unfolding created
  in_both n held =
      elim ((stage_is.nodes_are n).0 held) [
        | inl kept ↦ Contains-append_left old.nodes created n kept.0
        | inr made_ ↦ Contains-append_right old.nodes created n (is_gone new old new_graph.paths_rise can.wanted.created can.wanted.gone n made_.1.there made_.1.gone)
      ]

  few_nodes : length stage.nodes ≤ MAX_NODES
  unfolding created
  few_nodes =
      let one : Node → ℕ = λ n. 1 in
      omega (
        arith,
        sum_within one stage.nodes (old.nodes ++ created) (distinct stage.nodes stage_is.paths_rise) in_both,
        sum_by-append one old.nodes created,
        one_each stage.nodes,
        one_each old.nodes,
        one_each created,
        gone_length new old new_graph.paths_rise can.wanted.created can.wanted.gone,
        can.wanted.nodes_are,
        can.room.nodes_fit,
        nodes_made,
      )

  few_ports : length (ports stage.nodes) ≤ MAX_PORTS
  unfolding created
  few_ports = omega (
    arith,
    sum_within requires_of stage.nodes (old.nodes ++ created) (distinct stage.nodes stage_is.paths_rise) in_both,
    sum_by-append requires_of old.nodes created,
    length-ports stage.nodes,
    length-ports old.nodes,
    gone_sum new old new_graph.paths_rise can.wanted.created can.wanted.gone requires_of,
    can.wanted.ports_are,
    can.room.ports_fit,
    ports_made,
  )

  pub stage_graph : Sound stage → IsGraph stage
  stage_graph sound = record {
    paths_rise = sound.paths_rise;
    within = sound.within;
    in_order = sound.in_order;
    few_nodes = omega (arith, few_nodes);
    few_ports = omega (arith, few_ports);
  }
