-- Where lines lead: on to a further progress, or to a stop.
use Rattle.std.specs.Prelude.{◌≡◌, ◌||◌, ℕ, List, [], Option, Result, is_some}
use Rattle.cfg_io.specs.Shelf.{Files}
use Rattle.change_script.specs.ScriptFiles.{is_file, is_start}
use Rattle.report_types.specs.declared.script.Body.{Body}
use Rattle.command_spec.specs.Lines.{RunLine, Progress, of_lines}
use Rattle.command_program.specs.Coming.{Comes, EndsIn}
use Rattle.command_program.specs.Ways.{IsAt}
use Rattle.command_program.specs.declared.answer.Stop.{Stop}
use Rattle.command_program.specs.declared.way.Way.{Way}

-- the way leads as far as the progress, whatever is told beside it
abbrev pub Leads : {T : Type 0} → Way → T → Progress → Type 0
Leads way told q = IsAt way q

-- lines that fetch nothing lead on, or stop
abbrev pub LeadOn : {T : Type 0} → Option Files → Progress → List RunLine → Way → Result T Stop → Type 0
LeadOn files p lines way result = EndsIn (Leads way) files (of_lines p lines) [] result

-- lines of a shelf
abbrev pub Took : {T : Type 0} → Option Files → Progress → List RunLine → List (List ℕ) → List (List ℕ) → Way → Result T Stop → Type 0
Took files p lines failures failures' way result = Comes (Leads way) files (of_lines p lines) failures failures' result

-- a way knows whether a description is used, and whether a start stands, with one line more
pub record Marks (way next : Way) (body : Body) : Type 0 where
  pub described : is_some next.used ≡ (is_some way.used || is_file body)
  pub begun : is_some next.start ≡ (is_some way.start || is_start body)
