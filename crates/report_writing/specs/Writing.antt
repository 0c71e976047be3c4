-- To be believed (definitions.md).
-- The line that writes an event, and which events a line can write.
use Rattle.std.specs.Prelude.{ℕ, List, [], ◌∷◌, ◌++◌, Option, Some, None, codes, decimal}
use Rattle.std.specs.List.{flat_map}
use Rattle.config_graph.specs.GraphText.{kind_text}
use Rattle.quiesce_core.specs.declared.event.Event.{Event}
use Rattle.quiesce_core.specs.declared.event.Event.TheVariants as events

-- each word after a space
abbrev pub spaced : List (List ℕ) → List ℕ
spaced words = flat_map (λ word. 32 ∷ word) words

-- numbers after a verb
abbrev pub with_three : List ℕ → ℕ → ℕ → ℕ → List ℕ
with_three verb first second third = verb ++ spaced (decimal first ∷ decimal second ∷ decimal third ∷ [])

abbrev pub with_one : List ℕ → ℕ → List ℕ
with_one verb number = verb ++ spaced (decimal number ∷ [])

-- `from SLOT`, or nothing
abbrev pub from_words : Option ℕ → List (List ℕ)
from_words None = []
from_words (Some slot) = codes "from" ∷ decimal slot ∷ []

-- `begin PORT SERIAL VALUE` and so on, `miss PORT` and so on, `make SLOT PATH KIND(ARG)` with `from SLOT` where it
-- has one, `link PORT SLOT PROVIDE`, and `remove SLOT`
abbrev pub written : Event → List ℕ
written (events.Begin port serial value) = with_three (codes "begin") port serial value
written (events.Call port serial value) = with_three (codes "call") port serial value
written (events.Take port serial value) = with_three (codes "take") port serial value
written (events.Give port serial value) = with_three (codes "give") port serial value
written (events.End port serial value) = with_three (codes "end") port serial value
written (events.More port serial value) = with_three (codes "more") port serial value
written (events.Ask port serial value) = with_three (codes "ask") port serial value
written (events.Hear port serial value) = with_three (codes "hear") port serial value
written (events.Miss port) = with_one (codes "miss") port
written (events.Close port) = with_one (codes "close") port
written (events.Reopen port) = with_one (codes "reopen") port
written (events.Make slot node from) =
    codes "make" ++ spaced (decimal slot ∷ node.path ∷ kind_text node.kind node.arg ∷ from_words from)
written (events.Link port node provide) = with_three (codes "link") port node provide
written (events.Unlink port) = with_one (codes "unlink") port
written (events.Remove node) = with_one (codes "remove") node
