-- The groups of a change by numbers: each node has the least number of its group, and a group is applied where that
-- is at most the number of the last one that is.
use Rattle.std.specs.Option.{option_map_or}
use Rattle.std.specs.Prelude.{◌≡◌, ◌<◌, ◌+◌, ◌^◌, ◌==◌, ◌&&◌, ℕ, Bool, false, slice_get, slice_index_or, List, length, leb, map, take, slice_index, Contains}
use Rattle.config_graph.specs.Graph.{Graph}
use Rattle.change_plan.specs.declared.plan_data.Move.{Move}
use Rattle.change_parts.specs.Groups.{AreGroups}
use Rattle.change_parts.specs.Members.{IsIndex}
use Rattle.change_parts.specs.Staging.{IsApplied}
use Rattle.change_parts.specs.declared.groups.Grouping.{Grouping}

-- a changed number that is the least of its class
pub record LeadsIn (least changed : List ℕ) (k : ℕ) : Type 0 where
  pub least_is : slice_index least k ≡ k
  pub changed_has : Contains changed k

-- whether a number is marked and the least of its class
abbrev pub leads : List ℕ → List Bool → ℕ → Bool
leads least marks k = option_map_or (λ x. x == k) (slice_get least k) false && slice_index_or marks k false

-- of each number, whether its group is one of those up to this one
abbrev pub applied_up_to : List ℕ → ℕ → List Bool
applied_up_to least last = map (λ k. leb k last) least

pub record IsGrouping (old new : Graph) (moves : List Move) (g : Grouping) : Type 0 where
  pub index : IsIndex old new g.members
  pub few : length g.members.nodes.items < 2 ^ 31
  pub long : length g.least.items ≡ length g.members.nodes.items
  pub few_groups : length g.firsts.items < 2 ^ 31
  pub groups : List (List ℕ)
  pub are_groups : AreGroups old new moves groups
  pub as_many : length groups ≡ length g.firsts.items
  pub applied : (c : ℕ) → c < length g.firsts.items
      → IsApplied old new moves (take (c + 1) groups) g.members.nodes.items (applied_up_to g.least.items (slice_index g.firsts.items c))
