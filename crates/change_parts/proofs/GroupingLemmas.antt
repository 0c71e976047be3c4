-- Lemmas on the groups of a change by numbers: they are its groups.
use Rattle.std.proofs.Common.{◌≡◌, ◌<◌, ◌^◌, ℕ, List, length, get_or, subst, All, arith}
use Rattle.std.specs.List.{range_with_len}
use Rattle.std.proofs.lemmas.List.FromFn.{length-range_with_len}
use Rattle.std.proofs.lemmas.Option.{slice_get-get_or, slice_get_within}
use Rattle.config_graph.specs.Graph.{Graph}
use Rattle.config_graph.specs.declared.node.Node.{Node}
use Rattle.change_plan.specs.Plans.{IsPlanOf}
use Rattle.change_plan.specs.Selects.{Selects}
use Rattle.change_plan.specs.declared.plan_data.Move.{Move}
use Rattle.change_plan.specs.declared.plan_data.Plan.{Plan}
use Rattle.change_parts.specs.Classes.{AreClasses, IsTieBelow}
use Rattle.change_parts.specs.Groupings.{IsGrouping, LeadsIn}
use Rattle.change_parts.specs.Listed.{changed_numbers, ties_of}
use Rattle.change_parts.specs.Members.{IsIndex}
use Rattle.change_parts.specs.declared.groups.Grouping.{Grouping}
use Rattle.change_parts.specs.declared.members.Members.{Members}
use Rattle.change_parts.proofs.ChangedLemmas.{changed_listed, listed_changed}
use Rattle.change_parts.proofs.GroupLemmas.{Leads, as_many, first_groups, firsts, firsts_groups}
use Rattle.change_parts.proofs.PairLemmas.{Selects-alike}
use Rattle.change_parts.proofs.TyingLemmas.{listed_tied, tie_below, tied_listed}
use Rattle.change_plan.proofs.SelectsLaws.{Selects-shorter}
use Rattle.base.proofs.ContainsLaws.{All-from}

-- ties and changed numbers are numbers of nodes
module _ (old new : Graph) (m : Members) (index : IsIndex old new m) (moves : List Move) (p : Plan) (plan : IsPlanOf old new moves p) where
  pub ties_below : All (IsTieBelow (length m.nodes.items)) (ties_of old new p m)
  ties_below = All-from (ties_of old new p m) (IsTieBelow (length m.nodes.items)) (λ tie held. tie_below old new index.old_graph index.new_graph moves p plan m index tie held)

  pub changed_below : All (λ k. k < length m.nodes.items) (changed_numbers p m)
  changed_below = All-from (changed_numbers p m) (λ k. k < length m.nodes.items) (λ k held.
      let w = listed_changed old new index.old_graph index.new_graph p plan.steps m index k held in slice_get_within m.nodes.items k w.0 w.1)

module _ (old new : Graph) (g : Grouping) (index : IsIndex old new g.members) (few : length g.members.nodes.items < 2 ^ 31) (moves : List Move) (p : Plan) (plan : IsPlanOf old new moves p)
    (classes : AreClasses (ties_of old new p g.members) g.least.items) (long : length g.least.items ≡ length g.members.nodes.items)
    (chosen : Selects (LeadsIn g.least.items (changed_numbers p g.members)) (range_with_len 0 (length g.least.items)) g.firsts.items) where
  abbrev all : List Node
  all = g.members.nodes.items

  abbrev ties : List (ℕ × ℕ)
  ties = ties_of old new p g.members

  abbrev LeadsAt : ℕ → Type 0
  LeadsAt = Leads old new index.old_graph index.new_graph moves all index.members ties g.least.items classes long
      (listed_tied old new index.old_graph index.new_graph moves p plan g.members index) (tied_listed old new index.old_graph index.new_graph moves p plan g.members index)

  selected : Selects LeadsAt (range_with_len 0 (length all)) g.firsts.items
  selected =
      subst (λ n. Selects LeadsAt (range_with_len 0 n) g.firsts.items) long
      (Selects-alike (LeadsIn g.least.items (changed_numbers p g.members)) LeadsAt (range_with_len 0 (length g.least.items))
      (λ k held w. let v = listed_changed old new index.old_graph index.new_graph p plan.steps g.members index k w.changed_has in record { node = v.0; there = v.1; changed = v.2; least_is = w.least_is })
      (λ k held w. record { least_is = w.least_is; changed_has = changed_listed old new index.old_graph index.new_graph p plan.steps g.members index k w.node w.there w.changed })
      g.firsts.items chosen)

  pub grouping_is : IsGrouping old new moves g
  grouping_is = record {
    index = index;
    few = few;
    long = long;
    few_groups = omega (arith, few, long, length-range_with_len 0 (length g.least.items), Selects-shorter (LeadsIn g.least.items (changed_numbers p g.members)) (range_with_len 0 (length g.least.items)) g.firsts.items chosen);
    groups = firsts old new index.old_graph index.new_graph moves all index.members ties g.least.items classes long
        (listed_tied old new index.old_graph index.new_graph moves p plan g.members index) (tied_listed old new index.old_graph index.new_graph moves p plan g.members index) g.firsts.items selected;
    are_groups = firsts_groups old new index.old_graph index.new_graph moves all index.members ties g.least.items classes long
        (listed_tied old new index.old_graph index.new_graph moves p plan g.members index) (tied_listed old new index.old_graph index.new_graph moves p plan g.members index) g.firsts.items selected;
    as_many = as_many old new index.old_graph index.new_graph moves all index.members ties g.least.items classes long
        (listed_tied old new index.old_graph index.new_graph moves p plan g.members index) (tied_listed old new index.old_graph index.new_graph moves p plan g.members index) g.firsts.items selected;
    applied = λ c inside. first_groups old new index.old_graph index.new_graph moves all index.members ties g.least.items classes long
        (listed_tied old new index.old_graph index.new_graph moves p plan g.members index) (tied_listed old new index.old_graph index.new_graph moves p plan g.members index) g.firsts.items selected c (get_or g.firsts.items c 0) (slice_get-get_or g.firsts.items c 0 inside);
  }
