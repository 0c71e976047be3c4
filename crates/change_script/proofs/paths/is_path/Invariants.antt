use Rattle.std.proofs.Common.{◌≡◌, length}
use Rattle.std.specs.List.{list_all}
use Rattle.change_script.specs.Paths.{segments, is_segment}
use Rattle.change_script.proofs.paths.is_path.Given as goal

-- what is left decides
abbrev pub invariant-segments : goal.invariant-segments
invariant-segments l = list_all is_segment (segments l.rest) ≡ list_all is_segment (segments l.path)

abbrev pub decreases-segments : goal.decreases-segments
decreases-segments l = length l.rest
