-- Which moves a part has: those whose sources are marked as applied, and weren't before.
use Rattle.std.specs.Prelude.{◌≡◌, ◌&&◌, ℕ, Bool, true, false, not, List, Option, option_and_then, slice_get, slice_index_or}
use Rattle.std.specs.Option.{option_map_or}
use Rattle.config_graph.specs.Graph.{Graph, index_of}
use Rattle.change_plan.specs.declared.plan_data.Move.{Move}

-- the number of the node with this path
abbrev pub number_of : Graph → List ℕ → List ℕ → Option ℕ
number_of old numbers path = option_and_then (slice_get numbers) (index_of old.nodes path)

abbrev pub is_own : Graph → List ℕ → List Bool → List Bool → Move → Bool
is_own old numbers before applied m =
    option_map_or (λ k. slice_index_or applied k false && not (slice_index_or before k false)) (number_of old numbers m.from) false

abbrev pub IsOwn : Graph → List ℕ → List Bool → List Bool → Move → Type 0
IsOwn old numbers before applied m = is_own old numbers before applied m ≡ true
