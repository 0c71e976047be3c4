-- What the parts of the command answer, before they are put together.
use Rattle.std.specs.Prelude.{◌≡◌, ℕ}
use Rattle.change_apply.specs.declared.request.Request.{Request}
use Rattle.change_apply.specs.declared.said.Ending.{Ending}
use Rattle.change_apply.specs.declared.said.Ending.TheVariants as ending
use Rattle.command_answers.specs.Answers.{no_memory_line}
use Rattle.command_answers.specs.declared.status.Status.TheVariants as status
use Rattle.command_program.specs.declared.change_lines.Planned.{Planned}
use Rattle.command_spec.specs.Runs.{Run, Written}
use Rattle.command_apply.specs.Applying.{session_status}

-- the request of what was planned
pub record IsRequestFor (within : ℕ) (p : Planned) (r : Request) : Type 0 where
  pub from_name : r.from.name ≡ p.start.name
  pub from_args : r.from.args ≡ p.start.args
  pub from_graph : r.from.graph ≡ p.start.graph
  pub to_name : r.to.name ≡ p.change.name
  pub to_args : r.to.args ≡ p.change.args
  pub to_graph : r.to.graph ≡ p.change.graph
  pub plan_is : r.plan ≡ p.change.plan
  pub within_is : r.within ≡ within

-- the request that was made
abbrev pub Asked : Request → Request → Type 0
Asked made r = made ≡ r

-- how the run ends behind a session
abbrev pub EndsWith : Ending → Run → Type 0
EndsWith ending.NoMemory seen = Written status.NoMemory no_memory_line seen
EndsWith e seen = (seen.taken' ≡ seen.taken) × (seen.faults' ≡ seen.faults) × (seen.status ≡ session_status e)
