use Rattle.std.proofs.Common.{◌≡◌, ◌++◌, map, take}
use Rattle.std.specs.Prelude.{flat_map}
use Rattle.report_writing.specs.MadeNodes.{slot_path_of}
use Rattle.report_writing.specs.Reports.{log_text, second}
use Rattle.report_writing.proofs.writing.push_logs.Given as goal

abbrev pub invariant-loop-log : goal.invariant-loop-log
invariant-loop-log l = l.text.items ≡ l.initial.text.items ++ flat_map (log_text second (map slot_path_of l.made)) (take l.log-index l.logs)
