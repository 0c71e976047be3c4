-- To be believed (definitions.md).
-- The text that answers a line.
use Rattle.std.specs.Prelude.{ℕ, List, [], ◌++◌, codes, flat_map}
use Rattle.change_spec.specs.Changes.{opening_lines}
use Rattle.change_spec.specs.Follows.{start_lines}
use Rattle.quiesce_core.specs.Runs.{state_after}
use Rattle.quiesce_laws.specs.Starts.{start_of}
use Rattle.report_types.specs.declared.report.HistoryLine.{HistoryLine}
use Rattle.report_writing.specs.Reports.{ended, history_text, with_two}
use Rattle.report_writing.specs.Writing.{with_one}
use Rattle.change_apply.specs.declared.request.Request.{Request}
use Rattle.change_apply.specs.declared.said.Answer.{Answer}
use Rattle.change_apply.specs.declared.said.Answer.TheVariants as answer

abbrev pub history : List HistoryLine → List ℕ
history lines = flat_map history_text lines

-- the line of its own that an answer has before those of the history, and the one behind them
abbrev pub before_text : ℕ → Answer → List ℕ
before_text number (answer.Denied rule) = ended (with_two (codes "denied") number rule)
before_text number answer.Bad = ended (with_one (codes "bad") number)
before_text number answer.Unread = ended (codes "read fault -")
before_text number _ = []

abbrev pub behind_text : Answer → List ℕ
behind_text answer.Ready = ended (codes "ready")
behind_text _ = []

-- the answer to the line of this number
abbrev pub reply_text : ℕ → Answer → List HistoryLine → List ℕ
reply_text number a lines = before_text number a ++ (history lines ++ behind_text a)

-- the lines with which a session begins: how the system comes to be, what it is to become, and which gates to close
abbrev pub opening : Request → List HistoryLine
opening r =
    start_lines r.from.name r.from.args r.from.graph
    ++ opening_lines r.to.name r.to.args r.from.graph r.plan (state_after (start_of r.from.graph)).config

-- and the rounds that are waited for
abbrev pub opening_text : Request → List ℕ
opening_text r = history (opening r) ++ ended (with_one (codes "wait") r.within)
