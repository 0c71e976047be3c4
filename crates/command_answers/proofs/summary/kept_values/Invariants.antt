use Rattle.std.proofs.Common.{◌≡◌, take}
use Rattle.std.specs.Prelude.{flat_map}
use Rattle.command_answers.specs.Summaries.{kept_by}
use Rattle.command_answers.proofs.summary.kept_values.Given as goal

abbrev pub invariant-loop-line : goal.invariant-loop-line
invariant-loop-line l = l.values.items ≡ flat_map (kept_by l.logs) (take l.line-index l.history)
