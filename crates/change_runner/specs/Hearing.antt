-- What a listener hears of a step.
use Rattle.std.specs.Prelude.{Bool, true, false, List, [], ◌∷◌, ◌++◌, Option, None, Some}
use Rattle.config_graph.specs.Graph.{Graph}
use Rattle.change_spec.specs.declared.steps.Step.{Step}
use Rattle.change_spec.specs.declared.steps.Step.TheVariants as steps

-- it heard of this graph, behind all that it had heard of; or of nothing
abbrev pub Hears : {L : Type 0} → (L → List Graph → Type 0) → L → L → Option Graph → Type 0
Hears heard old new None = (graphs : List Graph) → heard old graphs → heard new graphs
Hears heard old new (Some g) = (graphs : List Graph) → heard old graphs → heard new (graphs ++ g ∷ [])

-- a change that wasn't given up committed the graph that stands behind it; no other step commits
abbrev pub committed_by : Bool → Graph → Option Graph
committed_by true graph = None
committed_by false graph = Some graph

abbrev pub committed_in : Step → Bool → Graph → Option Graph
committed_in (steps.Change c) given_up graph = committed_by given_up graph
committed_in _ given_up graph = None
