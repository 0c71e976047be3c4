-- What a step adds to the transcript of an engine.
use Rattle.std.specs.Prelude.{◌≡◌, ⊤, false, Bool, List, ◌++◌}
use Rattle.std.specs.List.{list_any}
use Rattle.config_graph.specs.Graph.{Graph}
use Rattle.config_graph.specs.declared.node.Made.{Made}
use Rattle.change_plan_laws.specs.Committing.{made_in}
use Rattle.change_spec.specs.Members.{is_pending}
use Rattle.change_board.specs.declared.board.Board.{Ghosts as BoardWords}
use Rattle.change_board.specs.Transcripts.{Item, lines}
use Rattle.change_engine.specs.Engines.{IsIdle, IsPlanned}
use Rattle.change_engine.specs.declared.engine.Engine.{Engine}
use Rattle.change_transcript_laws.specs.Hearing.{IsHeard}
use Rattle.change_transcript_laws.specs.Pieces.{IsDone, config_at}
use Rattle.change_spec.specs.Asked.{graph_behind, made_with_change, statement_of}
use Rattle.change_spec.specs.declared.steps.Step.{Step}
use Rattle.change_spec.specs.declared.steps.Step.TheVariants as steps
use Rattle.change_runner.specs.Hearing.{committed_in}

-- whether a change was given up
abbrev pub is_given_up : List Item → Bool
is_given_up t = list_any is_pending (lines t)

-- a change that isn't to be skipped is planned from the graph that stands
abbrev pub IsReady : Graph → List Item → Step → Type 0
IsReady graph t (steps.Change c) = is_given_up t ≡ false → IsPlanned graph c.graph c.moves c.plan (config_at t)
IsReady graph t _ = ⊤

-- how much was made behind a step, where no change was given up
abbrev pub made_behind : Made → Step → Made
made_behind made (steps.Change c) = made_with_change made c
made_behind made _ = made

pub record Carried {B : Type 0} (words : BoardWords B) (old new : Engine B) (t : List Item) (step : Step) (given_up : Bool)
    : Type 0 where
  pub items : List Item
  pub done : IsDone words.alone t (statement_of step) items
  pub told : IsHeard t items (committed_in step given_up new.graph)
  pub idle : IsIdle words new (t ++ items)
  pub flag : given_up ≡ is_given_up (t ++ items)
  pub graph : given_up ≡ false → new.graph ≡ graph_behind old.graph step
  pub made : given_up ≡ false → made_in (config_at (t ++ items)) ≡ made_behind (made_in (config_at t)) step
