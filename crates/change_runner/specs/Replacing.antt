-- What a change adds to the transcript of an engine that tries it: it is carried out, or given up with some roots left.
use Rattle.std.specs.Prelude.{◌≡◌, ◌<◌, ℕ, true, false, List, [], ◌∷◌, ◌++◌, Option, None, Some, flat_map, length}
use Rattle.std.specs.List.{list_any}
use Rattle.config_graph.specs.Graph.{Graph}
use Rattle.change_plan.specs.declared.plan_data.Plan.{Plan}
use Rattle.change_plan_laws.specs.Committing.{made_in}
use Rattle.change_spec.specs.Asked.{made_with_change}
use Rattle.change_spec.specs.Members.{is_pending}
use Rattle.change_spec.specs.declared.steps.Replacement.{Replacement}
use Rattle.report_types.specs.declared.report.HistoryLine.TheVariants as to
use Rattle.change_board.specs.declared.board.Board.{Ghosts as BoardWords}
use Rattle.change_board.specs.Steps.{Deed}
use Rattle.change_board.specs.Transcripts.{Item, lines, said}
use Rattle.change_engine.specs.Calls.{HasAbandoned, HasCommitted, HasLeft, HasPassivated}
use Rattle.change_engine.specs.Carrying.{deed_items}
use Rattle.change_engine.specs.Draining.{pending_items}
use Rattle.change_engine.specs.Engines.{IsIdle}
use Rattle.change_engine.specs.declared.engine.Engine.{Engine}
use Rattle.change_engine.specs.declared.passivating.LeftRoot.{LeftRoot}
use Rattle.change_transcript_laws.specs.Hearing.{IsHeard}
use Rattle.change_transcript_laws.specs.Pieces.{AreChangeItems, config_at}

-- a prepared change waited for its ports, and was carried out, or given up with these roots left
abbrev pub WentThrough : {B : Type 0} → BoardWords B → Engine B → Engine B → Plan → Graph → ℕ → Option (List LeftRoot) → Type 0
WentThrough {B} words old new plan next_ within None =
    (mid : Engine B) × HasPassivated words old mid plan within × HasCommitted words mid new plan next_
WentThrough {B} words old new plan next_ within (Some left) =
    (mid : Engine B) × HasLeft words old mid plan within left × HasAbandoned words mid new plan

-- a change was carried out, behind these items: its graph stands
pub record HasReplaced {B : Type 0} (words : BoardWords B) (old new : Engine B) (t : List Item) (c : Replacement) : Type 0 where
  pub items : List Item
  pub are : AreChangeItems t c.name c.args c.graph c.within c.moves items
  pub none_pending : list_any is_pending (lines items) ≡ false
  pub told : IsHeard t items (Some new.graph)
  pub idle : IsIdle words new (t ++ items)
  pub graph : new.graph ≡ c.graph
  pub made : made_in (config_at (t ++ items)) ≡ made_with_change (made_in (config_at t)) c

-- These roots, and no others, are told as those that were left after so many rounds: behind them stand only events and
-- the line of the end.
pub record AreTold (within : ℕ) (left : List LeftRoot) (items : List Item) : Type 0 where
  pub before : List Item
  pub deeds : List Deed
  pub are : items ≡ before ++ (pending_items within left ++ (flat_map deed_items deeds ++ said to.Abandon ∷ []))

-- it was given up, with these roots left: the graph before it stands
pub record HasGivenUp {B : Type 0} (words : BoardWords B) (old new : Engine B) (t : List Item) (c : Replacement)
    (left : List LeftRoot) : Type 0 where
  pub items : List Item
  pub are : AreChangeItems t c.name c.args c.graph c.within c.moves items
  pub some_left : 0 < length left
  pub left_told : AreTold c.within left items
  pub pending : list_any is_pending (lines items) ≡ true
  pub told : IsHeard t items None
  pub idle : IsIdle words new (t ++ items)
  pub graph : new.graph ≡ old.graph

abbrev pub Replaced : {B : Type 0} → BoardWords B → Engine B → Engine B → List Item → Replacement → Option (List LeftRoot) → Type 0
Replaced words old new t c None = HasReplaced words old new t c
Replaced words old new t c (Some left) = HasGivenUp words old new t c left
