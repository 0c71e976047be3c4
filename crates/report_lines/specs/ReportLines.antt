-- To be believed (definitions.md).
-- What the values of a report's lines can be.
use Rattle.std.specs.Prelude.{◌≡◌, ◌<◌, ◌^◌, ◌==◌, ◌&&◌, ⊤, ℕ, Bool, true, not, List, [], ◌∷◌, length, IfSome}
use Rattle.std.specs.List.{AllByRecursion}
use Rattle.quiesce_core.specs.declared.event.Event.{Event}
use Rattle.quiesce_core.specs.declared.event.Event.TheVariants as events
use Rattle.report_types.specs.declared.report.HistoryLine.{HistoryLine}
use Rattle.report_types.specs.declared.report.HistoryLine.TheVariants as history
use Rattle.report_types.specs.declared.report.Last.{Last}
use Rattle.report_types.specs.declared.report.Last.TheVariants as lasts
use Rattle.change_script.specs.StatementTexts.{IsInteger}
use Rattle.change_script.specs.Written.{AreNumbers, IsNumber}

-- the numbers of an event of a node; the change's events are lines of the history
abbrev pub IsNodeEvent : Event → Type 0
IsNodeEvent (events.Begin p k v) = AreNumbers p k v
IsNodeEvent (events.Call p k v) = AreNumbers p k v
IsNodeEvent (events.Take p k v) = AreNumbers p k v
IsNodeEvent (events.More p k v) = AreNumbers p k v
IsNodeEvent (events.Ask p k v) = AreNumbers p k v
IsNodeEvent (events.Hear p k v) = AreNumbers p k v
IsNodeEvent (events.Give p k v) = AreNumbers p k v
IsNodeEvent (events.End p k v) = AreNumbers p k v
IsNodeEvent (events.Miss p) = IsNumber p
IsNodeEvent (events.Close p) = ⊥
IsNodeEvent (events.Reopen p) = ⊥
IsNodeEvent (events.Make slot node from) = ⊥
IsNodeEvent (events.Link p n x) = ⊥
IsNodeEvent (events.Unlink p) = ⊥
IsNodeEvent (events.Remove n) = ⊥

-- numbers below 2^64
abbrev pub Are64 : List ℕ → Type 0
Are64 numbers = AllByRecursion (λ number. number < 2 ^ 64) numbers

-- the numbers of the end of a log
abbrev pub IsLast : Last → Type 0
IsLast (lasts.State numbers) = Are64 numbers
IsLast (lasts.Moved slot) = IsNumber slot

-- no byte of a text is this one
abbrev pub lacks : ℕ → List ℕ → Bool
lacks at [] = true
lacks at (byte ∷ bytes) = not (byte == at) && lacks at bytes

-- a path is one word; so is a component's name, in which no parenthesis opens
abbrev pub IsPath : List ℕ → Type 0
IsPath path = (0 < length path) × (lacks 32 path ≡ true)

abbrev pub IsName : List ℕ → Type 0
IsName name = (0 < length name) × (lacks 32 name ≡ true) × (lacks 40 name ≡ true)

-- what the values of a line of the history can be, but for those of a graph that is shown
abbrev pub IsLine : HistoryLine → Type 0
IsLine (history.Start name args) = IsName name × AllByRecursion IsInteger args
IsLine (history.Change name args) = IsName name × AllByRecursion IsInteger args
IsLine (history.Make slot node from) = IsNumber slot × IsPath node.path × IfSome node.arg IsNumber × IfSome from IsNumber
IsLine (history.Link port node provide) = AreNumbers port node provide
IsLine (history.Unlink port) = IsNumber port
IsLine (history.Remove node) = IsNumber node
IsLine (history.Close port) = IsNumber port
IsLine (history.Reopen port) = IsNumber port
IsLine (history.Drained port serial) = IsNumber port × IsNumber serial
IsLine history.Commit = ⊤
IsLine history.Abandon = ⊤
IsLine history.Skipped = ⊤
IsLine (history.Pending rounds) = IsNumber rounds
IsLine (history.Root port serial) = IsNumber port × IsNumber serial
IsLine (history.Run k done) = IsNumber k × (done < 2 ^ 64)
IsLine (history.Finish n rounds) = IsNumber n × IsNumber rounds
IsLine (history.Show graph) = ⊥
IsLine history.Stop = ⊤
