-- What the code that talks keeps, and what comes of its steps.
use Rattle.std.specs.Prelude.{◌≡◌, ◌⊎◌, ◌<◌, ⊤, ℕ, Bool, true, false, List, ◌++◌, Option, Some, None, Result, Ok, Err, length, map, take}
use Rattle.cfg_io.specs.Sink.{with_bytes}
use Rattle.quiesce_laws.specs.Starts.{start_of}
use Rattle.change_apply.specs.Applied.{ending_of, heard}
use Rattle.change_apply.specs.Lines.{lines_of, said_by}
use Rattle.change_apply.specs.Reading.{HasNoLine, IsFirstLine}
use Rattle.change_apply.specs.Replies.{opening_text, reply_text}
use Rattle.change_apply.specs.Sessions.{Change, Turned, change_in, first_scene, is_over}
use Rattle.change_apply.specs.Standing.{Holds, Stands, change_of, scene_of}
use Rattle.change_apply.specs.Talks.{Bytes, CountsFaults}
use Rattle.change_apply.specs.declared.applying.Stop.{Stop}
use Rattle.change_apply.specs.declared.applying.Stop.TheVariants as stop
use Rattle.change_apply.specs.declared.request.Request.{Request}
use Rattle.change_apply.specs.declared.said.Answer.{Answer}
use Rattle.change_apply.specs.declared.said.Answer.TheVariants as answer
use Rattle.change_apply.specs.declared.said.Ending.{Ending}
use Rattle.change_apply.specs.declared.said.Ending.TheVariants as ending
use Rattle.change_apply.specs.declared.said.Said.{Said}
use Rattle.change_apply.specs.declared.said.Said.TheVariants as says
use Rattle.change_apply.specs.declared.session.Session.{Session}

-- a turn is made, and its text is there
pub record HasAnswered (c : Change) (t : Turned) (new : Session) (a : Answer) (number : ℕ) (before after : List ℕ) : Type 0 where
  pub answer_is : a ≡ t.answer
  pub text : after ≡ before ++ reply_text number t.answer t.lines
  pub change : change_of new ≡ c
  pub scene : scene_of new t.next.events ≡ t.next
  pub holds : Holds t.answer new t.next.events c

-- a turn is made, and its text is out
pub record HasSaid (c : Change) (t : Turned) (new : Session) (a : Answer) (number : ℕ) (before after : Bytes) : Type 0 where
  pub answer_is : a ≡ t.answer
  pub put : after ≡ with_bytes before (reply_text number t.answer t.lines)
  pub change : change_of new ≡ c
  pub scene : scene_of new t.next.events ≡ t.next
  pub holds : Holds t.answer new t.next.events c

-- a front of its text is, or nothing
abbrev pub Stops : Turned → ℕ → Bytes → Bytes → Stop → Type 0
Stops t number before after stop.Unwritten =
    (n : ℕ) × (n < length (reply_text number t.answer t.lines)) × (after ≡ with_bytes before (take n (reply_text number t.answer t.lines)))
Stops t number before after stop.NoMemory = after ≡ before

-- the session stands where it begins, and the text of its opening is there
pub record HasBegun (r : Request) (d : Session) (before after : List ℕ) : Type 0 where
  pub text : after ≡ before ++ opening_text r
  pub change : change_of d ≡ change_in r
  pub scene : scene_of d (start_of r.from.graph) ≡ first_scene (change_in r)
  pub stands : Stands d (start_of r.from.graph)

-- the session stands where this was heard, and all its text is there
pub record HasHeard (r : Request) (said : List Said) (d : Session) (a : Answer) (before after : List ℕ) : Type 0 where
  pub text : after ≡ before ++ (heard r said).text
  pub answer_is : a ≡ (heard r said).answer
  pub change : change_of d ≡ change_in r
  pub scene : scene_of d (heard r said).scene.events ≡ (heard r said).scene
  pub holds : Holds (heard r said).answer d (heard r said).scene.events (change_in r)

-- these lines came, and the others are left
abbrev pub AreHeard : Bytes → Bytes → List (List ℕ) → Type 0
AreHeard None now lines = ⊤
AreHeard (Some xs) None lines = ⊥
AreHeard (Some xs) (Some ys) lines = lines_of xs ≡ lines ++ lines_of ys

-- So many lines were heard, the session isn't over, and all that was written was taken.
pub record Going (r : Request) (came taken_before left taken : Bytes) (d : Session) (number : ℕ) : Type 0 where
  pub lines : List (List ℕ)
  pub are_heard : AreHeard came left lines
  pub count : (heard r (map said_by lines)).number ≡ number
  pub going : is_over (heard r (map said_by lines)).scene.phase ≡ false
  pub stands : Stands d (heard r (map said_by lines)).scene.events
  pub change : change_of d ≡ change_in r
  pub scene : scene_of d (heard r (map said_by lines)).scene.events ≡ (heard r (map said_by lines)).scene
  pub put : taken ≡ with_bytes taken_before (heard r (map said_by lines)).text

-- whether a session is over behind this answer
abbrev pub is_end : Answer → Bool
is_end answer.Waits = false
is_end answer.Ready = false
is_end _ = true

abbrev pub ended_by : Result Answer Stop → Option Ending
ended_by (Ok answer.Waits) = None
ended_by (Ok answer.Ready) = None
ended_by (Ok a) = Some (ending_of a)
ended_by (Err stop.Unwritten) = Some ending.Unwritten
ended_by (Err stop.NoMemory) = Some ending.NoMemory

-- how often the sink failed, where this came of a turn
abbrev pub FaultsIn : ℕ → ℕ → Option Ending → Type 0
FaultsIn faults faults' None = faults' ≡ faults
FaultsIn faults faults' (Some e) = CountsFaults faults faults' e

-- what is said by a line that is the first, or where there was none, or where the input can't be read on
abbrev pub SaidCame : Bytes → Bytes → Said → Type 0
SaidCame left left_then s =
    ((line : List ℕ) × IsFirstLine left left_then line × (s ≡ said_by line)) ⊎ ((HasNoLine left × (s ≡ says.Over)) ⊎ (s ≡ says.Broken))
