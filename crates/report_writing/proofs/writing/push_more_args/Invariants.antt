use Rattle.std.proofs.Common.{◌≡◌, ◌++◌, take}
use Rattle.std.specs.Prelude.{flat_map, codes}
use Rattle.std.specs.Fmt.{signed_decimal}
use Rattle.report_writing.proofs.writing.push_more_args.Given as goal

abbrev pub invariant-loop-arg : goal.invariant-loop-arg
invariant-loop-arg l = l.text.items ≡ l.initial.text.items ++ flat_map (λ arg. codes "," ++ signed_decimal arg) (take l.arg-index l.args)
