use Rattle.std.proofs.Common.{sym}
use Rattle.merge_laws.proofs.ApartLemmas.{ways_keep_roots_apart}
use Rattle.merge_laws.proofs.GuideLemmas.{guided}
use Rattle.merge_laws.proofs.GuidedLemmas.{found}
use Rattle.merge_laws.proofs.MergeLemmas.{logs_are_done, ways_are_merges}
use Rattle.merge_laws.specs.Guarded.{all_left}
use Rattle.merge_laws.specs.Ways.{members_of}
use Rattle.merge_laws.proofs.merging.going_decides_merges.Goals as goal

pub returns : goal.returns
returns c = λ history logs cs telling can stuck. (
  λ ends. (members_of (all_left history logs) cs, logs_are_done history logs cs can ends, ways_are_merges history logs cs can ends telling, ways_keep_roots_apart history logs cs can),
  λ w. found w.0 history logs cs (guided w.2 telling w.3) w.2.runs w.2.lines_are (λ k. sym (w.1 k)) can stuck,
)
