-- How far the lines of a script came, beside the progress that the course of its lines has.
use Rattle.std.specs.Prelude.{◌≡◌, ℕ, List, [], ◌∷◌, ◌++◌, Option, Some, None, length, string_bytes}
use Rattle.std.specs.Option.{option_map}
use Rattle.config_graph.specs.Graph.{Graph, ports}
use Rattle.config_graph.specs.Sound.{Sound}
use Rattle.config_graph.specs.declared.node.Made.{Made}
use Rattle.change_plan.specs.Plans.{IsPlanOf}
use Rattle.change_plan.specs.Refusals.{CanPlan}
use Rattle.darwin_types.specs.Checked.{description}
use Rattle.darwin_types.specs.declared.checked.Checked.{Checked}
use Rattle.change_spec.specs.Scripts.{more_made, nothing_made}
use Rattle.change_spec.specs.Statements.{Statement}
use Rattle.command_spec.specs.Lines.{Progress}
use Rattle.change_spec.specs.Asked.{CanDoAll, CanStart, after_start, graph_behind, statements_of}
use Rattle.change_spec.specs.declared.steps.Replacement.{Replacement}
use Rattle.change_spec.specs.declared.steps.Start.{Start}
use Rattle.change_spec.specs.declared.steps.Step.{Step}
use Rattle.change_spec.specs.declared.steps.Step.TheVariants as steps
use Rattle.command_program.specs.declared.way.Way.{Way}

-- the graph that was named last, by one of these steps or else before them
abbrev pub last_graph : Graph → List Step → Graph
last_graph g [] = g
last_graph g (step ∷ more) = last_graph (graph_behind g step) more

abbrev pub IsNoChange : Step → Type 0
IsNoChange (steps.Change c) = ⊥
IsNoChange _ = Unit {0}

-- how much is made with all of a graph
abbrev pub made_with_graph : Made → Graph → Made
made_with_graph made g = more_made made (length g.nodes) (length (ports g.nodes))

-- what the way becomes by a start
abbrev pub with_start : Way → Start → Way
with_start way s = record way { start = Some s; made = made_with_graph way.made s.graph }

-- by a step, behind which so much is made
pub record HasAdded (way : Way) (step : Step) (made : Made) (next : Way) : Type 0 where
  pub file_is : next.file ≡ way.file
  pub used_is : next.used ≡ way.used
  pub start_is : next.start ≡ way.start
  pub steps_are : next.steps.items ≡ way.steps.items ++ step ∷ []
  pub made_is : next.made ≡ made

-- and by the description of a file
pub record HasDescribed (way : Way) (file : List ℕ) (d : Checked) (next : Way) : Type 0 where
  pub file_is : string_bytes next.file ≡ file
  pub used_is : next.used ≡ Some d
  pub start_is : next.start ≡ way.start
  pub steps_are : next.steps ≡ way.steps
  pub made_is : next.made ≡ way.made

-- a change may follow on a graph, behind which so much was made
pub record CanFollow (old : Graph) (made : Made) (c : Replacement) : Type 0 where
  pub sound : Sound c.graph
  pub is_plan : IsPlanOf old c.graph c.moves c.plan
  pub can_plan : CanPlan old c.graph c.moves made

-- The run may start so, and may go on with what may be done behind these steps: then all of it may be done.
pub record MayGoOn (s : Start) (steps : List Step) (made : Made) : Type 0 where
  pub can_start : CanStart s
  pub can_do :
      (more : List Step) → CanDoAll (record { graph = last_graph s.graph steps; made = made }) more
      → CanDoAll (after_start s) (steps ++ more)

-- what was asked for up to here, as the statements and the graphs of a progress have it
pub record HasAsked (s : Start) (steps : List Step) (made : Made) (said : List Statement) (graphs : List Graph) : Type 0 where
  pub may : MayGoOn s steps made
  pub said_are : said ≡ statements_of s steps
  pub earlier : List Graph
  pub graphs_are : graphs ≡ last_graph s.graph steps ∷ earlier

abbrev pub IsAskedSoFar : Option Start → List Step → Made → List Statement → List Graph → Type 0
IsAskedSoFar None steps made said graphs = (steps ≡ []) × (made ≡ nothing_made) × (said ≡ [])
IsAskedSoFar (Some s) steps made said graphs = HasAsked s steps made said graphs

-- the way leads as far as the progress
pub record IsAt (way : Way) (p : Progress) : Type 0 where
  pub file_is : p.file ≡ string_bytes way.file
  pub used_is : p.used ≡ option_map description way.used
  pub made_is : p.made ≡ way.made
  pub stands : IsAskedSoFar way.start way.steps.items way.made p.statements p.graphs
