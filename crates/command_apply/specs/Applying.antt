-- To be believed (definitions.md).
-- What a run of `apply` is: descriptions are fetched, the change that the words ask for is planned, and a session carries
-- it out by the lines that come.
use Rattle.std.specs.Prelude.{◌≡◌, ℕ, List, [], ◌++◌}
use Rattle.change_apply.specs.Talks.{Bytes, CountsFaults, Ends}
use Rattle.change_apply.specs.declared.request.Request.{Request}
use Rattle.change_apply.specs.declared.said.Ending.{Ending}
use Rattle.change_apply.specs.declared.said.Ending.TheVariants as ending
use Rattle.change_plan.specs.Plans.{IsPlanOf}
use Rattle.change_spec.specs.Statements.{Statement}
use Rattle.command_answers.specs.Answers.{no_memory_line, refusal_status, refusal_text}
use Rattle.command_answers.specs.declared.status.Status.{Status}
use Rattle.command_answers.specs.declared.status.Status.TheVariants as status
use Rattle.command_spec.specs.Courses.{Course, End, came, refusal, says, then_by, Follows}
use Rattle.command_spec.specs.Lines.{begun, of_lines}
use Rattle.command_spec.specs.Plans.{lines_of_change, statements_of_change}
use Rattle.command_spec.specs.Runs.{Run, Written}
use Rattle.command_words.specs.declared.sessions.SessionWords.{SessionWords}

-- What is asked of a session by the words, where the lines of their change lead to these statements: the two components
-- with their graphs, and the plan.
pub record IsRequest (asked : SessionWords) (statements : List Statement) (r : Request) : Type 0 where
  pub from_name : r.from.name ≡ asked.change.call.top
  pub from_args : r.from.args ≡ asked.change.call.args
  pub to_name : r.to.name ≡ asked.change.target.top
  pub to_args : r.to.args ≡ asked.change.target.args
  pub said_are : statements ≡ statements_of_change asked.change r.from.graph r.to.graph
  pub is_plan : IsPlanOf r.from.graph r.to.graph [] r.plan
  pub within_is : r.within ≡ asked.within

-- The course to the request of a session: that of `plan`, line by line, and what refuses `plan` refuses the session.
abbrev pub course_to_session : SessionWords → Course Request
course_to_session asked =
    then_by (of_lines begun (lines_of_change asked.change)) (λ p. says (IsRequest asked p.statements))

-- the status by which a session ends
abbrev pub session_status : Ending → Status
session_status ending.Committed = status.Ok
session_status ending.Bad = status.Script
session_status ending.Unread = status.ReadFault
session_status ending.Unwritten = status.WriteFault
session_status ending.NoMemory = status.NoMemory
session_status ending.GivenUp = status.Pending
session_status ending.Denied = status.Denied

-- The session ended so, by what was said and written, and the run by its status. The sink failed exactly where that ended it.
-- Where memory was wanted, a line behind what was written says so.
abbrev pub TalksTo : Request → Bytes → Run → Ending → Type 0
TalksTo r input seen ending.NoMemory =
    (between : Bytes) × Ends r input seen.taken between ending.NoMemory
    × Written status.NoMemory no_memory_line (record seen { taken = between })
TalksTo r input seen e =
    Ends r input seen.taken seen.taken' e × CountsFaults seen.faults seen.faults' e × (seen.status ≡ session_status e)

abbrev pub Talks : Request → Bytes → Run → Type 0
Talks r input seen = (e : Ending) × TalksTo r input seen e

-- what is done at the end of that course: a session is held, or a line says why there is none
abbrev pub GoesOn : Bytes → Run → End Request → Type 0
GoesOn input seen (came r) = Talks r input seen
GoesOn input seen (refusal why) = Written (refusal_status why) (refusal_text why) seen

-- A run of `apply` where this comes of the input. The shelf notes the fetch where it failed.
pub record AppliesBy (asked : SessionWords) (input : Bytes) (seen : Run) : Type 0 where
  pub failing : List (List ℕ)
  pub end : End Request
  pub by : Follows seen.files (course_to_session asked) failing end
  pub noted : seen.failures' ≡ seen.failures ++ failing
  pub goes_on : GoesOn input seen end
