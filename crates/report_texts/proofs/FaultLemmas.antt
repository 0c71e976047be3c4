-- No fault of a text is want of memory.
use Rattle.std.proofs.Common.{ℕ, Bool, true, false, List, [], ◌∷◌, ◌++◌, Option, Some, None, subst, cond}
use Rattle.std.specs.Prelude.{Result, Ok, Err}
use Rattle.quiesce_core.specs.declared.event.Event.{Event}
use Rattle.report_writing.specs.Reports.{SlotPath, makes}
use Rattle.report_types.specs.declared.report.HistoryLine.{HistoryLine}
use Rattle.report_types.specs.declared.report.NodeLog.{NodeLog}
use Rattle.report_lines.specs.Ends.{status_in}
use Rattle.report_lines.specs.Parts.{words}
use Rattle.report_texts.specs.declared.error.ReportFault.{ReportFault}
use Rattle.report_texts.specs.declared.error.ReportFault.TheVariants as faults
use Rattle.report_texts.specs.declared.history.LineAbove.TheVariants as aboves
use Rattle.report_texts.specs.declared.version.Version.{Version}
use Rattle.report_texts.specs.Stages.{Found, Front, IsReportFault, Stage, after, after_history, after_logs, after_unfinished, after_version, ended_from, events_from, head_from, head_in, history_from, is_over, last_from, last_of, log_from, log_with, logs_from, named, over, reading, status_from, unfinished_from, version_from, version_in}
use Rattle.report_texts.specs.TextLines.{lines, tail}

-- a fault of a text, and an answer that isn't want of memory
abbrev Named : ReportFault → Type 0
Named faults.NoMemory = ⊥
Named faults.Short = Unit {0}
Named (faults.BadLine n) = Unit {0}

abbrev Tells : {A : Type 0} → Result A ReportFault → Type 0
Tells (Ok a) = Unit {0}
Tells (Err fault) = Named fault

named_tells : {A : Type 0} (o : Option A) (number : ℕ) (left : List (List ℕ)) → Tells (named o number left)
named_tells None number left = tt
named_tells (Some a) number left = tt

after_tells : {A B : Type 0} (s : Stage A) (next : Front A → Result B ReportFault) → Tells s → ((f : Front A) → Tells (next f)) → Tells (after s next)
after_tells (Ok f) next first more = more f
after_tells (Err fault) next first more = first

version_tells : (number : ℕ) (ls : List (List ℕ)) → Tells (version_from number ls)
version_tells number [] = tt
version_tells number (line ∷ more) = named_tells (version_in line) number more

head_tells : (version : Version) (made : SlotPath) (number : ℕ) (ls : List (List ℕ)) → Tells (head_from version made number ls)
head_tells version made number [] = tt
head_tells version made number (line ∷ more) = named_tells (head_in version made line) number more

last_tells : (version : Version) (number : ℕ) (ls : List (List ℕ)) → Tells (last_from version number ls)
last_tells version number [] = tt
last_tells version number (line ∷ more) = named_tells (last_of version line) number more

status_tells : (number : ℕ) (ls : List (List ℕ)) → Tells (status_from number ls)
status_tells number [] = tt
status_tells number (line ∷ more) = named_tells (status_in (words line)) number more

ended_tells : (version : Version) (slot : ℕ) (events : Front (List Event)) → Tells (ended_from version slot events)
ended_tells version slot events =
    after_tells (last_from version events.number events.left) (λ last. Ok (log_with slot events.read last)) (last_tells version events.number events.left) (λ f. tt)

log_tells : (version : Version) (made : SlotPath) (number : ℕ) (ls : List (List ℕ)) → Tells (log_from version made number ls)
log_tells version made number ls =
    after_tells (head_from version made number ls) (λ head. ended_from version made.slot (events_from version [] head.number head.left)) (head_tells version made number ls)
    (λ head. ended_tells version made.slot (events_from version [] head.number head.left))

logs_tell : (version : Version) (mades : List SlotPath) (logs : List NodeLog) (number : ℕ) (ls : List (List ℕ)) → Tells (logs_from version mades logs number ls)
logs_tell version [] logs number ls = tt
logs_tell version (made ∷ others) logs number ls =
    after_tells (log_from version made number ls) (λ log. logs_from version others (logs ++ log.read ∷ []) log.number log.left) (log_tells version made number ls)
    (λ log. logs_tell version others (logs ++ log.read ∷ []) log.number log.left)

either : (found : Found) (number : ℕ) (b : Bool) → Tells {A = Found} (cond b (Ok found) (Err (faults.BadLine number)))
either found number true = tt
either found number false = tt

over_tells : (version : Version) (past : List HistoryLine) (logs : List NodeLog) (unfinished : Option ℕ) (rest : List ℕ) (status : Front ℕ) → Tells (over version past logs unfinished rest status)
over_tells version past logs unfinished rest status =
    either (record { version = version; report = record { history = past; logs = logs; unfinished = unfinished; status = status.read } }) status.number (is_over status.left rest)

ends_tell : (version : Version) (past : List HistoryLine) (logs : List NodeLog) (rest : List ℕ) (unfinished : Front (Option ℕ)) → Tells (after_unfinished version past logs rest unfinished)
ends_tell version past logs rest unfinished =
    after_tells (status_from unfinished.number unfinished.left) (over version past logs unfinished.read rest) (status_tells unfinished.number unfinished.left) (over_tells version past logs unfinished.read rest)

reading_tells : (text : List ℕ) → Tells (reading text)
reading_tells text =
    after_tells (version_from 1 (lines text)) (after_version (tail text)) (version_tells 1 (lines text)) (λ version. by version.read (history_from version.read [] aboves.Other version.number version.left))
  where
    by : (version : Version) (past : Front (List HistoryLine)) → Tells (after_history version (tail text) past)
    by version past =
        after_tells (logs_from version (makes past.read) [] past.number past.left) (after_logs version past.read (tail text)) (logs_tell version (makes past.read) [] past.number past.left)
        (λ logs. ends_tell version past.read logs.read (tail text) (unfinished_from version logs.number logs.left))

pub no_memory : (text : List ℕ) → IsReportFault text faults.NoMemory → ⊥
no_memory text e = subst (λ r. Tells r) e (reading_tells text)
