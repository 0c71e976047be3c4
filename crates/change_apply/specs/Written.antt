-- To be believed (definitions.md).
-- The lines that a session writes, and which of them say that something is done. By these lines it is seen from outside what
-- has happened: a law of the crate joins the two.
use Rattle.std.specs.Prelude.{◌≡◌, ℕ, not, List, ◌∷◌, ◌++◌, Option, None, codes, filter, filter_map, flat_map}
use Rattle.change_apply.specs.Courses.{is_told}
use Rattle.change_spec.specs.Members.{event_of}
use Rattle.quiesce_core.specs.declared.event.Event.{Event}
use Rattle.report_types.specs.declared.report.HistoryLine.{HistoryLine}
use Rattle.report_types.specs.declared.report.HistoryLine.TheVariants as to
use Rattle.report_writing.specs.Reports.{ended, history_text, with_two}
use Rattle.report_writing.specs.Writing.{with_one}

-- a line that is written: one of a history, or `wait N`, `ready`, `denied LINE RULE`, `bad LINE`, `read fault -`
pub data Line : Type 0 where
  of_history : HistoryLine → Line
  wait : (rounds : ℕ) → Line
  ready : Line
  denied : (number rule : ℕ) → Line
  bad : (number : ℕ) → Line
  read_fault : Line

abbrev pub line_text : Line → List ℕ
line_text (of_history l) = history_text l
line_text (wait rounds) = ended (with_one (codes "wait") rounds)
line_text ready = ended (codes "ready")
line_text (denied number rule) = ended (with_two (codes "denied") number rule)
line_text (bad number) = ended (with_one (codes "bad") number)
line_text read_fault = ended (codes "read fault -")

abbrev pub text_of : List Line → List ℕ
text_of lines = flat_map line_text lines

-- What a line says is done: each line of a history that is an event does, but `close P`, which asks for it.
abbrev pub done_by : Line → Option Event
done_by (of_history (to.Close p)) = None
done_by (of_history l) = event_of l
done_by _ = None

-- what has happened, but for what lines of the runtime told
abbrev pub untold : List Event → List Event
untold es = filter (λ e. not (is_told e)) es

-- This was written where this has happened: it is the text of some lines, and all that has happened is told by the runtime, or
-- these lines say that it is done, each at its place.
pub record IsWritten (text : List ℕ) (events : List Event) : Type 0 where
  pub lines : List Line
  pub text_is : text ≡ text_of lines
  pub done : filter_map done_by lines ≡ untold events

-- Where these lines stand before one that says that an event is done, it is done in the run, and no more is done before it than
-- they say.
pub record IsDoneBehind (front : List Line) (e : Event) (events : List Event) : Type 0 where
  pub before : List Event
  pub after : List Event
  pub are : events ≡ before ++ e ∷ after
  pub so_far : filter_map done_by front ≡ untold before
