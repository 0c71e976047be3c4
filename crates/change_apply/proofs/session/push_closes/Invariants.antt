use Rattle.std.proofs.Common.{◌≡◌, ◌++◌, map, take}
use Rattle.report_types.specs.declared.report.HistoryLine.TheVariants.{Close}
use Rattle.change_apply.proofs.session.push_closes.Given as goal

abbrev pub invariant-loop-port : goal.invariant-loop-port
invariant-loop-port l = l.told.items ≡ l.initial.told.items ++ map Close (take l.port-index l.ports)
