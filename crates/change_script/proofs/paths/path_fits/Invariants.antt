use Rattle.std.proofs.Common.{◌≡◌, length}
use Rattle.std.specs.List.{list_all}
use Rattle.change_script.specs.Paths.{segments, segment_fits}
use Rattle.change_script.proofs.paths.path_fits.Given as goal

-- what is left decides
abbrev pub invariant-segments : goal.invariant-segments
invariant-segments l = list_all segment_fits (segments l.rest) ≡ list_all segment_fits (segments l.path)

abbrev pub decreases-segments : goal.decreases-segments
decreases-segments l = length l.rest
