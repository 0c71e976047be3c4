use Rattle.std.proofs.Common.{◌≡◌, map, take}
use Rattle.std.specs.Prelude.{filter_map}
use Rattle.report_writing.specs.MadeNodes.{slot_path_of}
use Rattle.report_writing.specs.Reports.{made_by}
use Rattle.report_writing.proofs.writing.list_made.Given as goal

abbrev pub invariant-loop-line : goal.invariant-loop-line
invariant-loop-line l = map slot_path_of l.made.items ≡ filter_map made_by (take l.line-index l.history)
