-- For the proofs of crates above: what is found in a line is what its words say, and what is written is said by words.
use Rattle.std.specs.Prelude.{IfOk, Result, Ok, Err}
use Rattle.std.proofs.Common.{◌≡◌, ℕ, List, Option, Some, None, IfSome, refl, sym, ap, ◌∙◌}
use Rattle.quiesce_core.specs.declared.event.Event.{Event}
use Rattle.report_types.specs.declared.report.HistoryLine.{HistoryLine}
use Rattle.report_types.specs.declared.report.Last.{Last}
use Rattle.report_writing.specs.Reports.{ended, history_text, last_text}
use Rattle.report_writing.specs.Writing.{written}
use Rattle.report_lines.specs.Parts.{words}
use Rattle.report_lines.specs.Readings.{event_in, last_in, line_in}
use Rattle.report_lines.specs.ReportLines.{IsLast, IsLine, IsNodeEvent}
use Rattle.report_lines.proofs.EventLemmas as of_events
use Rattle.report_lines.proofs.HistoryLemmas as of_history
use Rattle.report_lines.proofs.LastLemmas as of_lasts

-- a value that is found exactly where it says something, and what is said
same_found : {A : Type 0} (Says : A → Type 0) (found said : Option A) → IfSome found Says → ((a : A) → Says a → found ≡ Some a) → ((a : A) → said ≡ Some a → Says a) → ((a : A) → Says a → said ≡ Some a) → found ≡ said
same_found Says (Some a) said says whenever sound complete = sym (complete a says)
same_found Says None None says whenever sound complete = refl
same_found Says None (Some a) says whenever sound complete = whenever a (sound a refl)

pub history_is : {E : Type 0} (line : List ℕ) (result : Result (Option HistoryLine) E) → IfOk result (λ found. IfSome found (λ says. (ended line ≡ history_text says) × IsLine says))
    → IfOk result (λ found. (says : HistoryLine) → IsLine says → ended line ≡ history_text says → found ≡ Some says)
    → IfOk result (λ found. found ≡ line_in (words line))
history_is line (Ok found) says whenever =
    same_found (λ s. (ended line ≡ history_text s) × IsLine s) found (line_in (words line)) says (λ s has. whenever s has.1 has.0) (λ s e. of_history.line_says line s e) (λ s has. of_history.line_of line s has.1 has.0)
history_is line (Err e) says whenever = tt

pub event_is : (line : List ℕ) (found : Option Event) → IfSome found (λ event. (line ≡ written event) × IsNodeEvent event)
    → ((event : Event) → IsNodeEvent event → line ≡ written event → found ≡ Some event)
    → found ≡ event_in (words line)
event_is line found says whenever =
    same_found (λ s. (line ≡ written s) × IsNodeEvent s) found (event_in (words line)) says (λ s has. whenever s has.1 has.0) (λ s e. of_events.event_says line s e) (λ s has. ap (λ l. event_in (words l)) has.0 ∙ of_events.event_of s has.1)

pub last_is : {E : Type 0} (line : List ℕ) (result : Result (Option Last) E) → IfOk result (λ found. IfSome found (λ last. (ended line ≡ last_text last) × IsLast last))
    → IfOk result (λ found. (last : Last) → IsLast last → ended line ≡ last_text last → found ≡ Some last)
    → IfOk result (λ found. found ≡ last_in (words line))
last_is line (Ok found) says whenever =
    same_found (λ s. (ended line ≡ last_text s) × IsLast s) found (last_in (words line)) says (λ s has. whenever s has.1 has.0) (λ s e. of_lasts.last_says line s e) (λ s has. of_lasts.last_of line s has.1 has.0)
last_is line (Err e) says whenever = tt

-- a line of the history as it is written, both ways
pub line_says : (line : List ℕ) (says : HistoryLine) → line_in (words line) ≡ Some says → (ended line ≡ history_text says) × IsLine says
line_says = of_history.line_says

pub line_of : (line : List ℕ) (says : HistoryLine) → IsLine says → ended line ≡ history_text says → line_in (words line) ≡ Some says
line_of = of_history.line_of

-- an event of a node
pub event_says : (line : List ℕ) (event : Event) → event_in (words line) ≡ Some event → (line ≡ written event) × IsNodeEvent event
event_says = of_events.event_says

pub event_of : (event : Event) → IsNodeEvent event → event_in (words (written event)) ≡ Some event
event_of = of_events.event_of

-- the end of a log
pub last_says : (line : List ℕ) (last : Last) → last_in (words line) ≡ Some last → (ended line ≡ last_text last) × IsLast last
last_says = of_lasts.last_says

pub last_of : (line : List ℕ) (last : Last) → IsLast last → ended line ≡ last_text last → last_in (words line) ≡ Some last
last_of = of_lasts.last_of
