use Rattle.std.proofs.Common.{◌≡◌, ◌++◌, take}
use Rattle.std.specs.Prelude.{flat_map}
use Rattle.report_writing.specs.Reports.{history_text}
use Rattle.change_apply.proofs.replying.push_history.Given as goal

abbrev pub invariant-loop-line : goal.invariant-loop-line
invariant-loop-line l = l.text.items ≡ l.initial.text.items ++ flat_map (history_text) (take l.line-index l.lines)
