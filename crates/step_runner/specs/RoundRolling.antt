-- What is done and told of a roll on any board.
use Rattle.std.specs.Prelude.{◌≡◌, ℕ, ℤ, List, [], ◌++◌, Option, None, Some}
use Rattle.change_board.specs.declared.board.Board.{Ghosts as BoardWords}
use Rattle.change_board.specs.Transcripts.{Item}
use Rattle.change_engine.specs.Engines.{IsIdle}
use Rattle.change_engine.specs.declared.engine.Engine.{Engine}
use Rattle.change_engine.specs.declared.passivating.LeftRoot.{LeftRoot}
use Rattle.change_spec.specs.Asked.{after_start}
use Rattle.change_spec.specs.Statements.{Statement}
use Rattle.change_spec.specs.declared.steps.Start.{Start}
use Rattle.change_parts.specs.declared.part.Part.{Part}
use Rattle.change_plan_laws.specs.Committing.{made_in}
use Rattle.step_runner.specs.Rolling.{HasRolled, HasRolledUpTo}
use Rattle.change_parts.specs.Rolls.{roll_statements}
use Rattle.change_transcript_laws.specs.Pieces.{AreRunItems, AreStartItems, config_at}
use Rattle.step_runner.specs.declared.round_rolling.Roll.{Roll}

abbrev pub statements_of : Roll → List Statement
statements_of r = roll_statements r.start.name r.start.args r.start.graph r.run r.name r.args r.within r.parts.items

-- a system was started, and ran
pub record HasBegun {B : Type 0} (words : BoardWords B) (e : Engine B) (start : Start) (k : ℕ) : Type 0 where
  pub begun : List Item
  pub ran : List Item
  pub are_start : AreStartItems [] start.name start.args start.graph begun
  pub are_run : AreRunItems words.alone begun k ran
  pub idle : IsIdle words e (begun ++ ran)
  pub graph : e.graph ≡ start.graph
  pub made : made_in (config_at (begun ++ ran)) ≡ (after_start start).made

-- the parts were carried out, behind these items: all of them, or those before the one that was given up
abbrev pub RollsTo : {B : Type 0} → BoardWords B → Engine B → Engine B → List ℕ → List ℤ → ℕ → List Item → List Part → Option ℕ → Type 0
RollsTo words old new name args within t ps None = HasRolled words old new name args within t ps
RollsTo words old new name args within t ps (Some number) =
    (left : List LeftRoot) × HasRolledUpTo words old new name args within t ps number left
