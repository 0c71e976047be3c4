-- To be believed (definitions.md).
-- What a session writes and how it ends, as a function of what is asked and of the lines that come.
use Rattle.std.specs.Prelude.{ℕ, ◌+◌, List, [], ◌∷◌, ◌++◌, map, fold, if◌then◌else◌}
use Rattle.change_apply.specs.Lines.{lines_of, said_by}
use Rattle.change_apply.specs.Replies.{opening_text, reply_text}
use Rattle.change_apply.specs.Sessions.{Change, Scene, Turned, change_in, first_scene, goes_on, is_over, turn}
use Rattle.change_apply.specs.declared.request.Request.{Request}
use Rattle.change_apply.specs.declared.said.Answer.{Answer}
use Rattle.change_apply.specs.declared.said.Answer.TheVariants as answer
use Rattle.change_apply.specs.declared.said.Ending.{Ending}
use Rattle.change_apply.specs.declared.said.Ending.TheVariants as ending
use Rattle.change_apply.specs.declared.said.Said.{Said}
use Rattle.change_apply.specs.declared.said.Said.TheVariants as says

-- how far a session is: the lines that were heard, all that was written, the last answer, and the scene
pub record Place : Type 0 where
  pub number : ℕ
  pub text : List ℕ
  pub answer : Answer
  pub scene : Scene

-- a turn behind this many lines and this text
abbrev pub place_of : ℕ → List ℕ → Turned → Place
place_of number text t = record { number = number; text = text ++ reply_text number t.answer t.lines; answer = t.answer; scene = t.next }

-- It begins, and goes on at once where there is nothing to wait for.
abbrev pub first_place : Request → Place
first_place r = place_of 0 (opening_text r) (goes_on (change_in r) (first_scene (change_in r)))

-- One more line, or the end of the input, unless the session is over.
abbrev pub next_place : Change → Place → Said → Place
next_place c at said = if is_over at.scene.phase then at else place_of (at.number + 1) at.text (turn c at.scene said)

abbrev pub heard : Request → List Said → Place
heard r said = fold (next_place (change_in r)) (first_place r) said

-- where just this comes
abbrev pub applied : Request → List ℕ → Place
applied r came = heard r (map said_by (lines_of came) ++ says.Over ∷ [])

-- how a session ends by its last answer
abbrev pub ending_of : Answer → Ending
ending_of answer.Committed = ending.Committed
ending_of (answer.Denied rule) = ending.Denied
ending_of answer.Bad = ending.Bad
ending_of answer.Unread = ending.Unread
ending_of _ = ending.GivenUp

-- the exit status
abbrev pub status_of : Ending → ℕ
status_of ending.Committed = 0
status_of ending.Bad = 3
status_of ending.Unread = 4
status_of ending.Unwritten = 5
status_of ending.NoMemory = 6
status_of ending.GivenUp = 7
status_of ending.Denied = 9
