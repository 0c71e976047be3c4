-- What the lines of a change ask for.
use Rattle.std.specs.Prelude.{◌≡◌, ℕ, List, [], ◌∷◌, Option, None, Some}
use Rattle.change_spec.specs.Asked.{CanChange, CanStart, after_start}
use Rattle.change_spec.specs.declared.steps.Replacement.{Replacement}
use Rattle.change_spec.specs.declared.steps.Step.{Step}
use Rattle.change_spec.specs.declared.steps.Step.TheVariants as steps
use Rattle.command_words.specs.declared.words.Change.{Change}
use Rattle.command_spec.specs.Lines.{Progress}
use Rattle.command_spec.specs.Plans.{statements_of_change}
use Rattle.report_types.specs.declared.script.Body.{Body}
use Rattle.report_types.specs.declared.script.Body.TheVariants as bodies
use Rattle.report_types.specs.declared.script.ScriptLine.{ScriptLine}
use Rattle.command_program.specs.declared.change_lines.Planned.{Planned}
use Rattle.command_program.specs.declared.preparing.Prepared.{Prepared}

-- a line that no text has
abbrev pub line_of : Body → ScriptLine
line_of body = record { number = 0; body = body }

abbrev pub lines_of_other : Option (List ℕ) → List ScriptLine
lines_of_other None = []
lines_of_other (Some file) = line_of (bodies.File file) ∷ []

-- one change is asked for behind the start
abbrev pub IsChangeStep : Step → Type 0
IsChangeStep step = (c : Replacement) × (step ≡ steps.Change c)

abbrev pub HasOneChange : Prepared → Type 0
HasOneChange asked = (c : Replacement) × (asked.steps.items ≡ steps.Change c ∷ [])

abbrev pub IsAsked : Prepared → Planned → Type 0
IsAsked asked p = (p.start ≡ asked.start) × (asked.steps.items ≡ steps.Change p.change ∷ [])

-- it is this change
pub record IsChangeOf (c : Change) (planned : Planned) (p : Progress) : Type 0 where
  pub from_name : planned.start.name ≡ c.call.top
  pub from_args : planned.start.args ≡ c.call.args
  pub to_name : planned.change.name ≡ c.target.top
  pub to_args : planned.change.args ≡ c.target.args
  pub said_are : p.statements ≡ statements_of_change c planned.start.graph planned.change.graph

-- a run can start so, and the change be made then
pub record CanMake (planned : Planned) : Type 0 where
  pub can_start : CanStart planned.start
  pub can_change : CanChange (after_start planned.start) planned.change
  pub no_moves : planned.change.moves ≡ []
