-- What the parts of a run answer, before it is written: how they end a course.
use Rattle.std.specs.Prelude.{◌≡◌, ◌⊎◌, ⊤, false, ℕ, List, [], ◌++◌, Option, Some, None, Result, Ok, Err}
use Rattle.cfg_io.specs.Shelf.{Files}
use Rattle.command_answers.specs.Answers.{Refusal, no_memory, no_memory_line, refusal_status, refusal_text}
use Rattle.command_answers.specs.Statuses.{is_of_run}
use Rattle.command_answers.specs.declared.status.Status.{Status}
use Rattle.command_answers.specs.declared.status.Status.TheVariants as status
use Rattle.command_spec.specs.Commands.{Shown}
use Rattle.command_spec.specs.Courses.{Course, came, refusal, Follows}
use Rattle.command_program.specs.declared.answer.Answer.{Answer}
use Rattle.command_program.specs.declared.answer.Stop.{Stop}
use Rattle.command_program.specs.declared.answer.Stop.TheVariants as stops

-- the status and the text of an answer, or those for want of memory
abbrev pub stop_status : Stop → Status
stop_status (stops.Refused answer) = answer.status
stop_status stops.NoMemory = status.NoMemory

abbrev pub stop_text : Stop → List ℕ
stop_text (stops.Refused answer) = answer.text.items
stop_text stops.NoMemory = no_memory_line

abbrev pub result_status : Result Answer Stop → Status
result_status (Ok answer) = answer.status
result_status (Err stop) = stop_status stop

abbrev pub result_text : Result Answer Stop → List ℕ
result_text (Ok answer) = answer.text.items
result_text (Err stop) = stop_text stop

-- the answer is what is shown
abbrev pub Shows : Answer → Shown → Type 0
Shows answer s = (answer.status ≡ s.own) × (answer.text.items ≡ s.text)

-- an answer that is shown so
abbrev pub IsShown : (Shown → Type 0) → Answer → Type 0
IsShown Is answer = (s : Shown) × Is s × Shows answer s

-- an answer that refuses
pub record Refuses (answer : Answer) (why : Refusal) : Type 0 where
  pub status_is : answer.status ≡ refusal_status why
  pub text_is : answer.text.items ≡ refusal_text why

-- a stop refuses for such a reason, where memory sufficed
abbrev pub StopsFor : (Refusal → Type 0) → Stop → Type 0
StopsFor Why (stops.Refused answer) = (why : Refusal) × Why why × Refuses answer why
StopsFor Why stops.NoMemory = ⊤

-- it has a status with which no run of a script ends
abbrev pub EndsNoRun : Stop → Type 0
EndsNoRun (stops.Refused answer) = is_of_run answer.status ≡ false
EndsNoRun stops.NoMemory = ⊤

-- A course came to what is answered, or refuses so. Where memory ran out, a fetch may have failed before.
abbrev pub EndsIn : {T A : Type 0} → (T → A → Type 0) → Option Files → Course A → List (List ℕ) → Result T Stop → Type 0
EndsIn {T} {A} Is files course failing (Ok x) = (a : A) × Is x a × Follows files course failing (came a)
EndsIn Is files course failing (Err (stops.Refused answer)) =
    (why : Refusal) × Refuses answer why × Follows files course failing (refusal why)
EndsIn Is files course failing (Err stops.NoMemory) = (failing ≡ []) ⊎ Follows files course failing (refusal no_memory)

-- the same of a shelf, which notes the fetches that failed
pub record Comes {T A : Type 0} (Is : T → A → Type 0) (files : Option Files) (course : Course A) (failures failures' : List (List ℕ))
    (result : Result T Stop) : Type 0 where
  pub failing : List (List ℕ)
  pub noted : failures' ≡ failures ++ failing
  pub ends : EndsIn Is files course failing result

-- by the files of the shelf, or by the command's own where there are some: of these no fetch fails
abbrev pub ComesOwn : Option Files → Option Files → Course Shown → List (List ℕ) → List (List ℕ) → Result Answer Stop → Type 0
ComesOwn None files course failures failures' result = Comes Shows files course failures failures' result
ComesOwn (Some own) files course failures failures' result = (failures' ≡ failures) × EndsIn Shows (Some own) course [] result

-- the same answer, or want of memory for it as a stop
abbrev pub IsOrStop : {E : Type 0} → Result Answer E → Result Answer Stop → Type 0
IsOrStop (Ok answer) result = result ≡ Ok answer
IsOrStop (Err _) result = result ≡ Err stops.NoMemory
