-- To be believed (definitions.md).
-- A roll: a start, a run, and the parts of a change one after the other. The rounds decide which part is given up, if
-- any.
use Rattle.std.specs.Prelude.{◌≡◌, ◌+◌, ◌-◌, ℕ, ℤ, List, [], ◌∷◌, drop, length, map, Option, None, Some, if◌then◌else◌}
use Rattle.std.specs.List.{list_any}
use Rattle.base.specs.Each.{Each}
use Rattle.config_graph.specs.Graph.{Graph}
use Rattle.change_spec.specs.Members.{is_pending}
use Rattle.change_spec.specs.Serial.{IsPlayed, Played}
use Rattle.change_spec.specs.Statements.{Statement, change, run, start}
use Rattle.change_parts.specs.Parts.{stage_after}
use Rattle.change_parts.specs.declared.part.Part.{Part}

-- the start, the run, and each part as a change that waits so many rounds at most
abbrev pub roll_statements : List ℕ → List ℤ → Graph → ℕ → List ℕ → List ℤ → ℕ → List Part → List Statement
roll_statements name args old k new_name new_args within ps =
    start name args old ∷ run k ∷ map (λ (p : Part). change new_name new_args p.next within p.moves) ps

-- The part that is given up, where the first of these has this number. Each behind it is skipped, which moves nothing.
abbrev pub given_up_from : ℕ → List Played → Option ℕ
given_up_from number [] = None
given_up_from number (p ∷ ps) = if list_any is_pending p.lines then Some number else given_up_from (number + 1) ps

-- Parts are counted from 1. The start and the run stand before them.
abbrev pub given_up_in : List Played → Option ℕ
given_up_in played = given_up_from 1 (drop 2 played)

-- the graph that is left: the last stage, or the one before the part that was given up
abbrev pub stage_left : Graph → List Part → Option ℕ → Graph
stage_left old ps None = stage_after old ps (length ps)
stage_left old ps (Some number) = stage_after old ps (number - 1)

-- the rounds of these statements end with this part given up, or with none
pub record IsRoll (statements : List Statement) (given_up : Option ℕ) : Type 0 where
  pub played : List Played
  pub statements_are : map (λ (p : Played). p.statement) played ≡ statements
  pub are_played : Each IsPlayed played
  pub given_up_is : given_up ≡ given_up_in played
